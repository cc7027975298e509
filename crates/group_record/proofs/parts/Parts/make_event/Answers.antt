use Rattle.lib_calls.specs.Entry.{entry_of}
use Rattle.group_record.proofs.LiveGroups.{sound_made, sound_none}
use Rattle.group_record.proofs.RecorderSteps.{some_there}
use Rattle.group_record.proofs.parts.Parts.make_event.Goals as goal

pub returns-in-Ok-clause-sound : goal.returns-in-Ok-clause-sound
returns-in-Ok-clause-sound c =
    let m = some_there c.args.self.now.members.items c.args.p c.requires.process in
    sound_made c.args.self.now c.try_event.new.self c.args.p m.0 (entry_of c.args.entry.now) c.args.size c.requires.sound m.1 (c.requires.event m.0 m.1) (c.in-Ok.ensures.made m.0 m.1) c.in-Ok.ensures.size

pub returns-in-Err-clause-sound : goal.returns-in-Err-clause-sound
returns-in-Err-clause-sound c = sound_none c.clear.new.self.items c.try_event.new.self.world c.try_event.new.self.prints c.clear.ensures.items
