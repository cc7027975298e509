-- The logs that a recording leaves tell what was recorded, wherever it was stopped.
use Rattle.std.specs.Prelude.{◌≡◌, ℕ, ◌<◌, Bool, IsTrue, List, [], ◌∷◌, ◌++◌, length, take, Option, Some, Ok}
use Rattle.std.specs.FinMap.{get}
use Rattle.std.specs.List.{AllZip, enumerate_from}
use Rattle.fri_outside.specs.Outside.{Folder}
use Rattle.fri_outside.specs.Several.{with_files}
use Rattle.lib_calls.specs.Traffic.{is_taken}
use Rattle.wasm_types.specs.Modules.{Module}
use Rattle.guest_process.specs.Live.{Event}
use Rattle.guest_process.specs.Start.{start}
use Rattle.guest_process.specs.State.{State}
use Rattle.schedule_text.specs.Limits.{most_schedule}
use Rattle.schedule_text.specs.Reading.{schedule_of}
use Rattle.schedule_text.specs.Schedule.{Schedule}
use Rattle.group_record.specs.Answer.{group_of}
use Rattle.group_record.specs.Files.{IsStoppedRecording, heads_cut}
use Rattle.group_record.specs.Images.{images_of}
use Rattle.group_record.specs.Laws.{RandomIsDrawn, TakesDatagram, TellsCutLogs, WaitingIsTaken}
use Rattle.group_record.specs.Logs.{TellsEvents, files_of, log_name}
use Rattle.group_record.specs.Run.{GroupStart, Had, IsMoment, RunProgress, RunStep, entries_of_steps, entry_bytes, log_of, name_of_process, run, processes_in_group}
use Rattle.command_run.specs.Inputs.{module_in}
use Rattle.command_run.specs.Outcome.{file_of}

-- the files spell a schedule, and for each of its processes a valid module with which it begins
pub record IsRecordable (folder : Folder) (schedule_name : List ℕ) : Type 0 where
  pub bytes : List ℕ
  pub read : file_of folder schedule_name most_schedule ≡ Ok bytes
  pub schedule : Schedule
  pub spelled : schedule_of bytes ≡ Ok schedule
  pub modules : List Module
  pub found : AllZip (λ line m. module_in folder line.«module» ≡ Ok m) schedule.processes modules
  pub first : List State
  pub begins : AllZip (λ m S. start m.1 m.0 (length schedule.processes) ≡ Some S) (enumerate_from 0 modules) first

-- its group, its run, and the steps of that
abbrev pub group_in : {folder : Folder} {schedule_name : List ℕ} → IsRecordable folder schedule_name → GroupStart
group_in r = group_of r.schedule r.first

abbrev pub run_in : {folder : Folder} {schedule_name : List ℕ} → IsRecordable folder schedule_name → RunProgress
run_in r = run (group_in r) r.schedule.items

abbrev pub steps_in : {folder : Folder} {schedule_name : List ℕ} → IsRecordable folder schedule_name → List RunStep
steps_in r = (run (group_in r) r.schedule.items).steps

-- each process has its log afterwards
abbrev pub LeavesLogs : GroupStart → List RunStep → Folder → Type 0
LeavesLogs group steps after = (p : ℕ) → p < processes_in_group group → get after (log_name (name_of_process group p)) ≡ Some (log_of group steps p)

-- what may be after the log of process p at a moment of a run with all these steps: nothing, or a first part of the
-- entry of the process's next event, and not all of it
pub data IsPartialEntry (group : GroupStart) (all steps : List RunStep) (p : ℕ) (cut : List ℕ) : Type 0 where
  Nothing : cut ≡ [] → IsPartialEntry group all steps p cut
  Front : (later early : List RunStep) → (e : Event) → (n : ℕ) → all ≡ later ++ (Had p e ∷ early) → entries_of_steps early p ≡ entries_of_steps steps p
      → n < length (entry_bytes group early p e) → cut ≡ take n (entry_bytes group early p e) → IsPartialEntry group all steps p cut

-- each process has its log afterwards, with this much of one more entry after it
abbrev pub LeavesTruncatedLogs : GroupStart → List RunStep → (ℕ → List ℕ) → Folder → Type 0
LeavesTruncatedLogs group steps cut after = (p : ℕ) → p < processes_in_group group → get after (log_name (name_of_process group p)) ≡ Some (log_of group steps p ++ cut p)

-- not all logs are there, or not with their whole heads
abbrev pub IsStoppedInHeads : GroupStart → Folder → Folder → Type 0
IsStoppedInHeads group before after = (many : ℕ) × (cut : ℕ → ℕ) × (Some after ≡ with_files (take many (files_of group (heads_cut group cut))) (Some before))

-- the logs are those of a moment of a run with all these steps, with at most a first part of one more entry after each
pub record IsAtMomentOfRun (group : GroupStart) (all : List RunStep) (after : Folder) : Type 0 where
  pub steps : List RunStep
  pub is_moment : IsMoment steps all
  pub cut : ℕ → List ℕ
  pub may_follow : (p : ℕ) → p < processes_in_group group → IsPartialEntry group all steps p (cut p)
  pub logs : LeavesTruncatedLogs group steps cut after

-- at each moment of the run the logs tell its events, also the log after which a part of the next entry stands. Each
-- datagram that was taken came first in the mailbox, and from outside or by a send that an item delivered; what waits
-- is taken, and so are the first of the random bytes
pub record LogsAgree (group : GroupStart) (steps : List RunStep) : Type 0 where
  pub logs : (early : List RunStep) → IsMoment early steps → (p : ℕ) → p < processes_in_group group → TellsEvents group early p
  pub cut : TellsCutLogs group steps
  pub datagrams : (later early : List RunStep) (p : ℕ) (e : Event) → steps ≡ later ++ (Had p e ∷ early) → IsTrue (is_taken e.entry)
      → TakesDatagram (processes_in_group group) early p e
  pub waiting : WaitingIsTaken group steps
  pub random : RandomIsDrawn group steps

-- this holds of what can be recorded from these files
abbrev pub AgreesWithRun : List ℕ → Folder → Type 0
AgreesWithRun schedule_name folder = (r : IsRecordable folder schedule_name) → LogsAgree (group_in r) (steps_in r)

-- wherever it is stopped, the logs are those of a moment of its run, but for a first part of the next entry; or the
-- whole logs stand, and the first of the images that were asked for, each of them whole
abbrev pub LeavesMoment : Bool → List ℕ → Folder → Option Folder → Type 0
LeavesMoment images schedule_name before after =
    (r : IsRecordable before schedule_name) → IsStoppedRecording (group_in r) (steps_in r) (images_of images (group_in r) (run_in r)) (Some before) after
