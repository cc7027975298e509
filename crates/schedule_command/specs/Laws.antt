-- What is so of all schedules that are made of logs.
use Rattle.std.specs.Prelude.{◌≡◌, ℕ, Bool, List, [], length, All, Contains, Some, None, Ok}
use Rattle.std.specs.FinMap.{get}
use Rattle.fri_outside.specs.Outside.{Folder}
use Rattle.call_log.specs.declared.version.Version.TheVariants.{Two}
use Rattle.call_log.specs.Head.{Head}
use Rattle.call_log.specs.Log.{Unread, entries_of, head_at, rest_of_log}
use Rattle.group_record.specs.Logs.{log_name, logs_of_steps}
use Rattle.command_run.specs.Outcome.{CommandWork}
use Rattle.command_run.specs.Logs.{log_in}
use Rattle.log_pairs.specs.Pairs.{Pair}
use Rattle.record_command.specs.Agreement.{IsRecordable, group_in, run_in, steps_in}
use Rattle.record_command.specs.Expected.{KeepsSchedule, record_outcome}
use Rattle.record_command.specs.Record.{recorded_work}
use Rattle.schedule_command.specs.Schedule.{schedule_outcome}
use Rattle.schedule_command.specs.Valid.{CanBeScheduled}

-- Of a log that was read under its name these files have a log with its process's name: with the same head in version 2,
-- the same entries, and nothing after them; and with the same bytes where it was of version 2 itself.
pub record IsRecordedAgain (folder : Folder) (writes : List (List ℕ × List ℕ)) (pair : Pair) : Type 0 where
  pub head : Head
  pub left : Unread
  pub was : log_in folder pair.log_name ≡ Ok (head, left)
  pub bytes : List ℕ
  pub written : Contains writes (log_name head.name, bytes)
  pub newer : Unread
  pub found : head_at bytes ≡ Some (record head { version = Two }, newer)
  pub entries : entries_of newer ≡ entries_of left
  pub rest : rest_of_log newer ≡ []
  pub same : head.version ≡ Two → get folder pair.log_name ≡ Some bytes

-- The files are a schedule and its modules, and in the run of its items none is idle and no log is full. The outcome of recording
-- is the work of that run, unless the schedule's own file would be made: it makes a log for each of the pairs, and of other files the
-- images of that run where they are asked for.
pub record IsRecording (pairs : List Pair) (folder later : Folder) (schedule_name : List ℕ) : Type 0 where
  pub recordable : IsRecordable later schedule_name
  pub idle : (run_in recordable).idle ≡ 0
  pub room : (run_in recordable).full ≡ None
  pub work : (images : Bool) → KeepsSchedule images schedule_name recordable.schedule → record_outcome images schedule_name later ≡ Ok (recorded_work images (group_in recordable) (run_in recordable))
  pub count : length (logs_of_steps (group_in recordable) (steps_in recordable)) ≡ length pairs
  pub logs : All (IsRecordedAgain folder (logs_of_steps (group_in recordable) (steps_in recordable))) pairs

-- wherever a file holds this text and the modules stand as they stood, recording it makes the logs again
abbrev pub RecordsToLogs : List Pair → Folder → List ℕ → Type 0
RecordsToLogs pairs folder text = (later : Folder) (schedule_name : List ℕ) → get later schedule_name ≡ Some text
    → All (λ pair. get later pair.module_name ≡ get folder pair.module_name) pairs → IsRecording pairs folder later schedule_name

-- the files of a whole group have an outcome that is work
abbrev pub SchedulesWork : Type 0
SchedulesWork = (pairs : List Pair) (folder : Folder) → CanBeScheduled folder pairs → (work : CommandWork) × (schedule_outcome pairs folder ≡ Ok work)
