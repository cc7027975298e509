-- Two calls of `friday`: the first records, and the second shows what was recorded.
use Rattle.std.specs.Prelude.{◌≡◌, ◌++◌, ℕ, Bool, List, [], map, Option, Some, None, Ok}
use Rattle.std.specs.Io.KnownBytes.{append_known}
use Rattle.std.specs.List.{slice_index_or}
use Rattle.fri_outside.specs.Outside.{Folder, WhenTold}
use Rattle.fri_outside.specs.Several.{with_files}
use Rattle.schedule_text.specs.Schedule.{Schedule}
use Rattle.group_record.specs.Answer.{names_of}
use Rattle.group_record.specs.Images.{images_of}
use Rattle.group_record.specs.Logs.{log_name, logs_of_steps}
use Rattle.group_record.specs.Run.{processes_in_group}
use Rattle.command_run.specs.declared.status.Status.{Status}
use Rattle.command_run.specs.Call.{IsAnswerStatus}
use Rattle.command_run.specs.Outcome.{CommandOutcome, outcome_status, outcome_text, writes_of}
use Rattle.command_run.specs.Run.{Outside}
use Rattle.record_command.specs.Agreement.{IsRecordable, group_in, run_in, steps_in}
use Rattle.record_command.specs.Expected.{module_name}
use Rattle.record_command.specs.Record.{recorded_work}
use Rattle.log_pairs.specs.Pairs.{Pair}
use Rattle.debug_command.specs.Session.{session_outcome}
use Rattle.friday_app.specs.Command.{Command, Debug, Record, Replay}
use Rattle.headline.specs.Headline.{AreProcesses, IsShown, run_to, sorted_of}
use Rattle.headline.specs.Shown.{no_cut, recorded_report}

-- the files of process p, under the names that the recording gives them: its module's, and its log's
abbrev pub files_of_process : Schedule → ℕ → Pair
files_of_process schedule p = record { module_name = module_name schedule p; log_name = log_name (slice_index_or (names_of schedule) p []) }

abbrev pub pairs_of_processes : Schedule → List ℕ → List Pair
pairs_of_processes schedule ps = map (files_of_process schedule) ps

-- a call had this outcome: its text follows what was printed before, and its files in the folder that was there
pub record HasOutcome (outcome : CommandOutcome) (folder : Folder) (printed : Option (List ℕ)) (new : Outside) (answer : Status) : Type 0 where
  pub status : answer ≡ outcome_status outcome
  pub text : new.taken ≡ append_known printed (outcome_text outcome)
  pub files : new.told ≡ with_files (writes_of outcome) (Some folder)

-- what was printed by the end of a recording
abbrev pub printed_by : {before : Folder} {schedule_name : List ℕ} → Bool → IsRecordable before schedule_name → Option (List ℕ) → Option (List ℕ)
printed_by images r printed = append_known printed (recorded_work images (group_in r) (run_in r)).text

-- a call that shows a recording: its command, the outside before the recording and after the call, and the status
pub record ShowingCall : Type 0 where
  pub command : Option Command
  pub old : Outside
  pub new : Outside
  pub answer : Status

-- A recording was done. The folder that it left shows these processes as they were recorded, and the second command, where
-- it names their pairs, comes to what that is: to the report of the recorded lines, or to the session over the replays
-- that show the recording
pub record ShowsThese {before : Folder} {schedule_name : List ℕ} (images : Bool) (r : IsRecordable before schedule_name) (ps : List ℕ)
    (second : ShowingCall) : Type 0 where
  pub whole : (run_in r).full ≡ None
  pub folder : Folder
  pub left : with_files (logs_of_steps (group_in r) (steps_in r) ++ images_of images (group_in r) (run_in r)) (Some before) ≡ Some folder
  pub shown : IsShown (run_to r (steps_in r)) no_cut folder ps (pairs_of_processes r.schedule ps)
  pub replayed : (asked : Bool) → second.command ≡ Some (Replay asked (pairs_of_processes r.schedule ps)) → IsAnswerStatus second.answer
      → HasOutcome (Ok (recorded_report asked (run_to r (steps_in r)) no_cut (sorted_of (processes_in_group (group_in r)) ps))) folder (printed_by images r second.old.taken) second.new second.answer
  pub debugged : second.command ≡ Some (Debug (pairs_of_processes r.schedule ps)) → IsAnswerStatus second.answer
      → WhenTold second.old.hearing.left (λ input. HasOutcome (session_outcome shown.start input) folder (printed_by images r second.old.taken) second.new second.answer)

-- this holds of each schedule that can be recorded, and of the pairs of any of its processes, in any order
abbrev pub ShowsRecorded : Option Command → Option Command → Outside → Outside → Status → Type 0
ShowsRecorded first second old new answer =
    (images : Bool) (schedule_name : List ℕ) → first ≡ Some (Record images schedule_name)
    → WhenTold old.told (λ before. (r : IsRecordable before schedule_name) (ps : List ℕ) → AreProcesses (processes_in_group (group_in r)) ps
    → ShowsThese images r ps (record { command = second; old = old; new = new; answer = answer }))
