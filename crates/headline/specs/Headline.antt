-- The main theorem: the modules and the logs of a recording, and these alone, make `replay` and `debug` show what was recorded.
use Rattle.std.specs.Prelude.{◌≡◌, ◌≢◌, ◌⊎◌, ◌<◌, ◌==◌, ℕ, AllPairs, Bool, List, ◌++◌, length, map, filter, Option, Some, Ok}
use Rattle.std.specs.FinMap.{get}
use Rattle.std.specs.List.{AllByRecursion, AllZip, list_any, range_with_len}
use Rattle.fri_outside.specs.Outside.{Folder}
use Rattle.fri_outside.specs.Several.{with_files}
use Rattle.group_record.specs.Images.{images as all_images}
use Rattle.group_record.specs.Logs.{log_name}
use Rattle.group_record.specs.Run.{GroupStart, IsMoment, RunStep, log_of, name_of_process, processes_in_group}
use Rattle.proc_replay.specs.Replaying.{Replaying}
use Rattle.command_run.specs.declared.status.Status.{Status}
use Rattle.command_run.specs.declared.status.Status.TheVariants as ends
use Rattle.command_run.specs.Apart.{AreApart}
use Rattle.command_run.specs.Call.{IsAnswerStatus}
use Rattle.command_run.specs.Outcome.{outcome_status, writes_of}
use Rattle.log_pairs.specs.Pairs.{Pair, names_of_pairs, replays_of_pairs}
use Rattle.record_command.specs.Agreement.{IsAtMomentOfRun, IsStoppedInHeads, IsRecordable, LeavesMoment, IsPartialEntry, group_in, steps_in}
use Rattle.record_command.specs.Expected.{KeepsSchedule, module_name, record_outcome}
use Rattle.replay_command.specs.Report.{replay_outcome}
use Rattle.debug_command.specs.Debug.{debug_outcome}
use Rattle.debug_command.specs.Session.{session_outcome}
use Rattle.headline.specs.Shown.{AreOfRecording, RecordedRun, ShowsGroup, ShowsProcess, no_cut, recorded_images, recorded_report}

-- ---- the files of a recording, in any folder and under any names

-- of process p a folder has the module, as the recording found it, and this log, under the names of the pair. Nothing else of
-- the folder matters
pub record HoldsPair {before : Folder} {schedule_name : List ℕ} (r : IsRecordable before schedule_name) (logs : ℕ → Option (List ℕ))
    (folder : Folder) (p : ℕ) (pair : Pair) : Type 0 where
  pub «module» : get folder pair.module_name ≡ get before (module_name r.schedule p)
  pub log : get folder pair.log_name ≡ logs p

-- ---- what is shown of them

-- those of so many processes that are among these, in the order of their numbers
abbrev pub sorted_of : ℕ → List ℕ → List ℕ
sorted_of count ps = filter (λ p. list_any (λ q. q == p) ps) (range_with_len 0 count)

-- the pairs of these processes are read to replays, which show what was recorded
pub record IsShown (run : RecordedRun) (cut : ℕ → List ℕ) (folder : Folder) (ps : List ℕ) (pairs : List Pair) : Type 0 where
  -- the replays of the processes in the order of their numbers
  pub start : List Replaying
  pub opened : replays_of_pairs folder pairs ≡ Ok start
  pub each : AllZip (ShowsProcess run cut) (sorted_of (processes_in_group run.group) ps) start
  -- `replay` says what was recorded, and leaves the images of it, if none has the name of a file of the pairs: with all processes
  -- those of the recording
  pub replay : (images : Bool) → AreApart (names_of_pairs pairs) (map (λ file. file.0) (recorded_report images run cut (sorted_of (processes_in_group run.group) ps)).writes)
      → replay_outcome images pairs folder ≡ Ok (recorded_report images run cut (sorted_of (processes_in_group run.group) ps))
  pub images : length ps ≡ processes_in_group run.group → recorded_images run (sorted_of (processes_in_group run.group) ps) ≡ all_images run.group run.steps
  -- `debug` comes to what a session does over replays with the recorded names, order and states, which may be these or any
  -- others: what it answers to whatever is typed is a function of the recording
  pub debug : (others : List Replaying) → AreOfRecording run (sorted_of (processes_in_group run.group) ps) others
      → (input : List ℕ) → debug_outcome pairs (Some input) folder ≡ Some (session_outcome others input)
  pub shows : ShowsGroup run (sorted_of (processes_in_group run.group) ps) start

-- ---- the theorem for whole recordings

-- what was recorded by these steps
abbrev pub run_to : {before : Folder} {schedule_name : List ℕ} → IsRecordable before schedule_name → List RunStep → RecordedRun
run_to r steps = record { group = group_in r; steps = steps }

-- the numbers of all its processes
abbrev pub processes_of : {before : Folder} {schedule_name : List ℕ} → IsRecordable before schedule_name → List ℕ
processes_of r = range_with_len 0 (processes_in_group (group_in r))

-- the whole log of each
abbrev pub whole_logs : {before : Folder} {schedule_name : List ℕ} → IsRecordable before schedule_name → ℕ → Option (List ℕ)
whole_logs r p = Some (log_of (group_in r) (steps_in r) p)

-- Wherever a schedule and its modules can be recorded: in every folder that has the modules and the whole logs of all the
-- processes, under whatever names, these files make `replay` and `debug` show the whole run
abbrev pub WholeRecordings : Type 0
WholeRecordings = (before : Folder) (schedule_name : List ℕ) (r : IsRecordable before schedule_name) (folder : Folder) (pairs : List Pair)
    → AllZip (HoldsPair r (whole_logs r) folder) (processes_of r) pairs → IsShown (run_to r (steps_in r)) no_cut folder (processes_of r) pairs

-- ---- the theorem for some of the processes, at any moment of a recording

-- some of so many processes, each once, in any order
pub record AreProcesses (count : ℕ) (ps : List ℕ) : Type 0 where
  pub within : AllByRecursion (λ p. p < count) ps
  pub apart : AllPairs (λ p q. p ≢ q) ps

-- At each moment of the run of a schedule that can be recorded, so also where the recording was stopped or a log was full: in
-- every folder that has the modules and the logs of some processes, under whatever names, and whatever else, these are shown as
-- they were recorded. After each log there may stand a first part of one more entry, as a recording leaves it that was stopped
abbrev pub Headline : Type 0
Headline = (before : Folder) (schedule_name : List ℕ) (r : IsRecordable before schedule_name) (steps : List RunStep) → IsMoment steps (steps_in r)
    → (cut : ℕ → List ℕ) (ps : List ℕ) → AreProcesses (processes_in_group (group_in r)) ps → AllByRecursion (λ p. IsPartialEntry (group_in r) (steps_in r) steps p (cut p)) ps
    → (folder : Folder) (pairs : List Pair) → AllZip (HoldsPair r (λ p. Some (log_of (group_in r) steps p ++ cut p)) folder) ps pairs → IsShown (run_to r steps) cut folder ps pairs

-- ---- what a recording leaves

-- the log of each process that a folder has, under the name that `record` gives it
abbrev pub logs_in : GroupStart → Folder → ℕ → Option (List ℕ)
logs_in group folder p = get folder (log_name (name_of_process group p))

-- the logs of some processes, as a folder has them, are shown so
abbrev pub ShowsSteps : {before : Folder} {schedule_name : List ℕ} → IsRecordable before schedule_name → List RunStep → (ℕ → List ℕ) → Folder → Type 0
ShowsSteps r steps cut after =
    (ps : List ℕ) → AreProcesses (processes_in_group (group_in r)) ps
    → (folder : Folder) (pairs : List Pair) → AllZip (HoldsPair r (logs_in (group_in r) after) folder) ps pairs → IsShown (run_to r steps) cut folder ps pairs

-- a moment of the run, which is shown
pub record ShowsMoment {before : Folder} {schedule_name : List ℕ} (r : IsRecordable before schedule_name) (after : Folder) : Type 0 where
  pub at : IsAtMomentOfRun (group_in r) (steps_in r) after
  pub shown : ShowsSteps r at.steps at.cut after

-- what `record` left with this status shows the whole run where its work was done, and at each other answer but the refusal to make the
-- schedule's own file; and elsewhere a moment of it, unless it was stopped in the heads
pub record ShowsRun (images : Bool) {before : Folder} {schedule_name : List ℕ} (r : IsRecordable before schedule_name) (answer : Status) (after : Folder) : Type 0 where
  pub done : answer ≡ ends.Done → ShowsSteps r (steps_in r) no_cut after
  pub whole : IsAnswerStatus answer → KeepsSchedule images schedule_name r.schedule → ShowsSteps r (steps_in r) no_cut after
  pub stopped : IsStoppedInHeads (group_in r) before after ⊎ ShowsMoment r after

-- this holds wherever a recording ends, which at an answer has the status of its outcome and has made its files
abbrev pub LeftIsShown : Type 0
LeftIsShown = (images : Bool) (schedule_name : List ℕ) (answer : Status) (before after : Folder)
    → (IsAnswerStatus answer → answer ≡ outcome_status (record_outcome images schedule_name before))
    → (IsAnswerStatus answer → Some after ≡ with_files (writes_of (record_outcome images schedule_name before)) (Some before))
    → LeavesMoment images schedule_name before (Some after)
    → (r : IsRecordable before schedule_name) → ShowsRun images r answer after
