use Rattle.cut_command.proofs.CutOutcome.{cuts_work}
use Rattle.cut_command.proofs.laws.cuts_work.Goals as goal

pub returns : goal.returns
returns c = cuts_work c.opens_groups.ensures
