-- What is so of all recordings.
use Rattle.std.specs.Prelude.{◌≡◌, ◌⊎◌, ℕ, Bool, List, Some, None, Ok}
use Rattle.fri_outside.specs.Outside.{Folder}
use Rattle.group_record.specs.Files.{IsStoppedRecording}
use Rattle.group_record.specs.Images.{images_of}
use Rattle.fri_outside.specs.Several.{with_files}
use Rattle.command_run.specs.Outcome.{CommandWork, writes_of}
use Rattle.record_command.specs.Agreement.{AgreesWithRun, IsAtMomentOfRun, IsStoppedInHeads, IsRecordable, LeavesLogs, LeavesMoment, group_in, run_in, steps_in}
use Rattle.record_command.specs.Expected.{KeepsSchedule, record_outcome}
use Rattle.record_command.specs.Valid.{RecordsApart, RecordsWhole}

-- what can be recorded whole is recorded, with room for all its events. The outcome is work, unless the schedule's own file would be made
pub record RecordingsWork : Type 0 where
  pub recordable : (schedule_name : List ℕ) (folder : Folder) → RecordsWhole folder schedule_name → (r : IsRecordable folder schedule_name) × ((run_in r).full ≡ None)
  pub work : (images : Bool) (schedule_name : List ℕ) (folder : Folder) → RecordsApart images folder schedule_name
      → (work : CommandWork) × (record_outcome images schedule_name folder ≡ Ok work)

-- the logs of each recording agree with its run
abbrev pub RecordingsAgree : Type 0
RecordingsAgree = (folder : Folder) (schedule_name : List ℕ) → AgreesWithRun schedule_name folder

-- a folder in which the files of the outcome are made has the log of each process, of the whole run, unless the schedule's own
-- file would be one of them
abbrev pub RecordingsLeaveLogs : Type 0
RecordingsLeaveLogs = (images : Bool) (schedule_name : List ℕ) (before after : Folder) (r : IsRecordable before schedule_name) → KeepsSchedule images schedule_name r.schedule
    → Some after ≡ with_files (writes_of (record_outcome images schedule_name before)) (Some before) → LeavesLogs (group_in r) (steps_in r) after

-- before anything is made a folder stands as at a moment of the run
abbrev pub UntouchedFolderIsMoment : Type 0
UntouchedFolderIsMoment = (images : Bool) (schedule_name : List ℕ) (folder : Folder) → LeavesMoment images schedule_name folder (Some folder)

-- wherever a recording was stopped after its heads, its logs are those of a moment of its run
abbrev pub RecordingsStand : Type 0
RecordingsStand = (images : Bool) (schedule_name : List ℕ) (before after : Folder) (r : IsRecordable before schedule_name)
    → IsStoppedRecording (group_in r) (steps_in r) (images_of images (group_in r) (run_in r)) (Some before) (Some after)
    → IsStoppedInHeads (group_in r) before after ⊎ IsAtMomentOfRun (group_in r) (steps_in r) after
