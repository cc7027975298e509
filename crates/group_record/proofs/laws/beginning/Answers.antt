use Rattle.group_record.proofs.GroupOfSchedule.{begins}
use Rattle.group_record.proofs.laws.beginning.Goals as goal

pub returns : goal.returns
returns c = begins
