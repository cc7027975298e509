use Rattle.group_record.proofs.LiveGroups.{acts_so_far, sound_around}
use Rattle.group_record.proofs.parts.Parts.act.Goals as goal

pub returns-clause-sound : goal.returns-clause-sound
returns-clause-sound c = sound_around c.args.self.now c.act.new.world c.act.ensures.size c.requires.sound

pub returns-clause-acts : goal.returns-clause-acts
returns-clause-acts c = acts_so_far c.by_counting.ensures.counted c.args.self.now c.deref.result.now c.args.item.now c.act.new.world c.act.result c.deref.ensures.value c.requires.in_range c.act.ensures.acts c.act.ensures.world
