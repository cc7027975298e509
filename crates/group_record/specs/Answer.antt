-- What a recording answers.
use Rattle.std.specs.Prelude.{◌≡◌, ℕ, suc, Bool, List, [], ◌∷◌, ◌++◌, length, map, Option, Some, None, Result, Ok, Err}
use Rattle.fri_outside.specs.Outside.{Counts, Folder, raised_count}
use Rattle.fri_outside.specs.Several.{with_files}
use Rattle.fri_outside.specs.declared.files.WriteError.{WriteError}
use Rattle.fri_outside.specs.declared.files.WriteError.TheVariants as writing
use Rattle.schedule_text.specs.Schedule.{Schedule}
use Rattle.wasm_types.specs.Modules.{Module}
use Rattle.guest_process.specs.declared.end.End.{End}
use Rattle.guest_process.specs.declared.end.End.TheVariants.{Running}
use Rattle.guest_process.specs.Start.{start}
use Rattle.guest_process.specs.State.{State}
use Rattle.group_world.specs.History.{is_killed}
use Rattle.group_record.specs.declared.summary.Summary.{Summary}
use Rattle.group_record.specs.declared.summary.SummaryLine.{SummaryLine}
use Rattle.group_record.specs.declared.error.RecordError.{RecordError}
use Rattle.group_record.specs.declared.error.RecordError.TheVariants as errors
use Rattle.group_record.specs.Run.{GroupStart, RunProgress, RunStep, entries_of_steps, history_of_steps, process_after, run}
use Rattle.group_record.specs.Logs.{logs_of_steps}
use Rattle.group_record.specs.Images.{images_of}
use Rattle.group_record.specs.Files.{FolderChange, IsStoppedRecording}

-- ---- how a group begins

abbrev pub with_first_state : Option State → ℕ → Result (List State) ℕ → Result (List State) ℕ
with_first_state None p rest = Err p
with_first_state (Some S) p (Ok states) = Ok (S ∷ states)
with_first_state (Some S) p (Err q) = Err q

-- the first states of the processes from p on, or the first process one of whose segments ends past its
-- table or memory
abbrev pub first_states_from : ℕ → ℕ → List Module → Result (List State) ℕ
first_states_from count p [] = Ok []
first_states_from count p (m ∷ ms) = with_first_state (start m p count) p (first_states_from count (suc p) ms)

-- the names of a schedule's processes
abbrev pub names_of : Schedule → List (List ℕ)
names_of schedule = map (λ line. line.name) schedule.processes

-- the group of a schedule and its processes' modules
abbrev pub first_states : Schedule → List Module → Result (List State) ℕ
first_states schedule modules = first_states_from (length schedule.processes) 0 modules

abbrev pub group_of : Schedule → List State → GroupStart
group_of schedule first = record { names = names_of schedule; first = first }

-- ---- what is said of it

abbrev pub end_after : Option State → End
end_after None = Running
end_after (Some S) = S.end

-- how a process stands after some steps
abbrev pub summary_line : GroupStart → List RunStep → ℕ → List ℕ → SummaryLine
summary_line group steps p name = record {
  name = name;
  events = length (entries_of_steps steps p);
  end = end_after (process_after group steps p);
  killed = is_killed (history_of_steps steps) p;
}

abbrev pub summary_lines : GroupStart → List RunStep → ℕ → List (List ℕ) → List SummaryLine
summary_lines group steps p [] = []
summary_lines group steps p (name ∷ names) = summary_line group steps p name ∷ summary_lines group steps (suc p) names

-- a line for each process, and the counts of what acted and of what was idle
pub record IsSummary (group : GroupStart) (done : RunProgress) (summary : Summary) : Type 0 where
  pub lines : summary.lines.items ≡ summary_lines group done.steps 0 group.names
  pub acted : summary.acted ≡ length done.steps
  pub idle : summary.idle ≡ done.idle

-- ---- the answers

-- the whole run was recorded, and the images that were asked for were written
pub record IsRecordedWhole (asked : Bool) (group : GroupStart) (done : RunProgress) (said : Summary) (folder : FolderChange) : Type 0 where
  pub room : done.full ≡ None
  pub summary : IsSummary group done said
  pub files : folder.after ≡ with_files (logs_of_steps group done.steps ++ images_of asked group done) folder.before

-- the run was recorded up to an event of this item for which a log had no room
pub record IsFullLogOfRun (group : GroupStart) (done : RunProgress) (item : ℕ) (before after : Option Folder) : Type 0 where
  pub full : done.full ≡ Some item
  pub files : after ≡ with_files (logs_of_steps group done.steps) before

-- the recording of this run was stopped
abbrev pub StoppedInRun : Bool → GroupStart → RunProgress → Option Folder → Option Folder → Type 0
StoppedInRun asked group done before after = IsStoppedRecording group done.steps (images_of asked group done) before after

-- the recording of a group whose first states are these was stopped
abbrev pub StoppedWhereBegun : Schedule → Bool → Result (List State) ℕ → Option Folder → Option Folder → Type 0
StoppedWhereBegun schedule asked (Err p) before after = after ≡ before
StoppedWhereBegun schedule asked (Ok first) before after = StoppedInRun asked (group_of schedule first) (run (group_of schedule first) schedule.items) before after

-- what a recording answers, with images or without, and how it changes the files
abbrev pub RecordAnswers : Schedule → Bool → Result (List State) ℕ → Result Summary RecordError → FolderChange → Type 0
RecordAnswers schedule asked begun (Ok summary) folder =
    (first : List State) × (begun ≡ Ok first) × IsRecordedWhole asked (group_of schedule first) (run (group_of schedule first) schedule.items) summary folder
RecordAnswers schedule asked begun (Err (errors.BadSegment p)) folder = (begun ≡ Err p) × (folder.after ≡ folder.before)
RecordAnswers schedule asked begun (Err (errors.LogFull item)) folder =
    (first : List State) × (begun ≡ Ok first)
    × IsFullLogOfRun (group_of schedule first) (run (group_of schedule first) schedule.items) item folder.before folder.after
RecordAnswers schedule asked begun (Err errors.WriteFault) folder = StoppedWhereBegun schedule asked begun folder.before folder.after
RecordAnswers schedule asked begun (Err errors.NoMemory) folder = StoppedWhereBegun schedule asked begun folder.before folder.after

-- the counts after what was written with this answer: a fault that was answered was counted once, and nothing else was
abbrev pub after_writes : {T : Type 0} → Counts → Result T RecordError → Counts
after_writes counts (Err errors.WriteFault) = record counts { writes = raised_count counts.writes }
after_writes counts answer = counts

-- the result of a failed write
abbrev pub error_of : WriteError → RecordError
error_of writing.Failed = errors.WriteFault
error_of writing.NoMemory = errors.NoMemory
