use Rattle.std.proofs.Common.{Some, refl}
use Rattle.record_command.proofs.FolderRecordings.{moment_before}
use Rattle.record_command.proofs.laws.recordings_rest.Goals as goal

pub returns : goal.returns
returns c = λ images schedule_name folder. moment_before (Some folder) (Some folder) images schedule_name refl folder refl
