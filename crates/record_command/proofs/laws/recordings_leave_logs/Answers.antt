use Rattle.record_command.proofs.FolderRecordings.{recordings_leave_logs_so}
use Rattle.record_command.proofs.laws.recordings_leave_logs.Goals as goal

pub returns : goal.returns
returns c = recordings_leave_logs_so c.keeps_files.ensures c.exact_outcome.ensures.schedules
