use Rattle.std.proofs.Common.{◌∙◌}
use Rattle.group_record.proofs.LiveGroups.{live_killed}
use Rattle.group_record.proofs.parts.Parts.is_killed.Goals as goal

pub returns : goal.returns
returns c = λ group steps lives. c.is_killed.ensures ∙ live_killed c.by_counting.ensures.counted group steps c.args.self.now c.args.p lives c.requires.process
