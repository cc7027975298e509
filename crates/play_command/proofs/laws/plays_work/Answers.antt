use Rattle.play_command.proofs.OutcomeIsWork.{plays_do_work}
use Rattle.play_command.proofs.laws.plays_work.Goals as goal

pub returns : goal.returns
returns c = plays_do_work c.recordings_work.ensures
