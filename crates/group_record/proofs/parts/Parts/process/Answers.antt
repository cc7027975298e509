use Rattle.group_world.specs.World.{process_count}
use Rattle.group_record.proofs.LiveGroups.{few_there, sound_state}
use Rattle.group_record.proofs.RecorderSteps.{never_away}
use Rattle.group_record.proofs.SharedLemmas.{at_place}
use Rattle.group_record.proofs.parts.Parts.process.Goals as goal

pub unreachable-requires : goal.unreachable-requires
unreachable-requires c =
    let m = c.index.result.now in
    let s = c.requires.sound.each c.args.p m (at_place c.args.self.now.members.items c.args.p m c.requires.process c.index.ensures) in
    never_away m.process s.state s.process c.in_default.is

pub returns-clause-state : goal.returns-clause-state
returns-clause-state c =
    let m = c.index.result.now in
    sound_state c.args.self.now c.args.p m c.in-Some.process c.requires.sound (at_place c.args.self.now.members.items c.args.p m c.requires.process c.index.ensures) c.in-Some.is

pub returns-clause-few : goal.returns-clause-few
returns-clause-few c =
    let m = c.index.result.now in
    few_there (process_count c.args.self.now.world) m c.in-Some.process (c.requires.sound.each c.args.p m (at_place c.args.self.now.members.items c.args.p m c.requires.process c.index.ensures)) c.in-Some.is
