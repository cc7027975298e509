use Rattle.std.proofs.Common.{◌∙◌}
use Rattle.group_record.proofs.LiveGroups.{live_sent}
use Rattle.group_record.proofs.parts.Parts.sent.Goals as goal

pub returns : goal.returns
returns c = λ group steps lives. c.sent.ensures ∙ live_sent c.by_counting.ensures.counted group steps c.args.self.now c.args.p c.args.n lives c.requires.process
