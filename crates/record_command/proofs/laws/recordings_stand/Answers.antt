use Rattle.record_command.proofs.StoppedStands.{recordings_stand_so}
use Rattle.record_command.proofs.laws.recordings_stand.Goals as goal

pub returns : goal.returns
returns c = recordings_stand_so c.keeps_files.ensures c.exact_outcome.ensures.schedules
