use Rattle.schedule_command.proofs.OutcomeIsWork.{schedules_work}
use Rattle.schedule_command.proofs.laws.schedules_work.Goals as goal

pub returns : goal.returns
returns c = schedules_work c.opens_groups.ensures
