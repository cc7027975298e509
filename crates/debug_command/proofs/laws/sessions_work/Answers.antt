use Rattle.debug_command.proofs.OutcomeIsWork.{sessions_do_work}
use Rattle.debug_command.proofs.laws.sessions_work.Goals as goal

pub returns : goal.returns
returns c = sessions_do_work c.opens_groups.ensures
