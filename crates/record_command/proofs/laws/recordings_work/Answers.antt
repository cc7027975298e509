use Rattle.record_command.proofs.OutcomeIsWork.{recording_works}
use Rattle.record_command.proofs.laws.recordings_work.Goals as goal

pub returns : goal.returns
returns c = recording_works c.reads_modules.ensures c.exact_outcome.ensures.schedules
