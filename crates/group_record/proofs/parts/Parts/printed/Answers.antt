use Rattle.std.proofs.Common.{◌∙◌}
use Rattle.group_record.proofs.LiveGroups.{live_printed}
use Rattle.group_record.proofs.parts.Parts.printed.Goals as goal

pub returns : goal.returns
returns c = λ group steps lives. c.of.ensures ∙ live_printed group steps c.args.self.now c.args.p lives c.requires.process
