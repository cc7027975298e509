-- What is so of all plays.
use Rattle.std.specs.Prelude.{◌≡◌, ℕ, Bool, List, [], ◌∷◌, length, Option, Some, None, Ok}
use Rattle.fri_outside.specs.Outside.{Folder}
use Rattle.wasm_types.specs.Modules.{Module}
use Rattle.schedule_text.specs.Schedule.{IsSchedule, Schedule}
use Rattle.command_run.specs.Outcome.{CommandWork}
use Rattle.record_command.specs.Agreement.{IsRecordable, run_in}
use Rattle.record_command.specs.Expected.{KeepsSchedule, modules_of, record_outcome, schedule_in}
use Rattle.record_command.specs.Record.{run_outcome}
use Rattle.play_command.specs.Outcome.{opening_play, play_outcome}
use Rattle.play_command.specs.Play.{PlayState, items_so_far, play_answer, played_run}
use Rattle.play_command.specs.Valid.{IsPlay}

-- a schedule and modules that can be recorded whole, and an input within the limit, have an outcome that is work
abbrev pub PlaysWork : Type 0
PlaysWork = (schedule_name : List ℕ) (folder : Folder) (left : Option (List ℕ)) → IsPlay folder schedule_name left
    → (work : CommandWork) × (play_outcome schedule_name left folder ≡ Some (Ok work))

-- ---- played is recorded

-- the play after these lines
abbrev pub play_after : PlayState → List (List ℕ) → PlayState
play_after state [] = state
play_after state (line ∷ lines) = play_after (play_answer state line).state lines

-- the schedule of a play: the file's processes, and the items so far
abbrev pub played_schedule : Schedule → PlayState → Schedule
played_schedule schedule state = record schedule { items = items_so_far state }

-- a play of this schedule stands where its schedule, recorded, stands: wherever a file spells that schedule and the modules stand
-- as they stood, `record` comes to the outcome of the run that was played, unless that file would be made. Where a log was full, it was
-- at the last item.
pub record IsRecordedAsPlayed (schedule : Schedule) (modules : List Module) (state : PlayState) : Type 0 where
  pub spelled : IsSchedule (played_schedule schedule state)
  pub recorded : (images : Bool) (name : List ℕ) (folder : Folder) → schedule_in folder name ≡ Ok (played_schedule schedule state)
      → modules_of folder schedule.processes ≡ Ok modules → KeepsSchedule images name schedule → record_outcome images name folder ≡ run_outcome images name state.group (played_run state)
  pub last : (item : ℕ) → (played_run state).full ≡ Some item → item ≡ length (items_so_far state)

-- The files spell a schedule and modules, and no log is full after the file's items: after any lines the play stands where the
-- schedule that was played so far, recorded, stands
abbrev pub RecordsAsPlayed : List ℕ → Folder → Type 0
RecordsAsPlayed name folder =
    (r : IsRecordable folder name) → (run_in r).full ≡ None → (lines : List (List ℕ)) → IsRecordedAsPlayed r.schedule r.modules (play_after (opening_play r.schedule r.first) lines)

-- so it is at each moment of each play
abbrev pub PlayedIsRecorded : Type 0
PlayedIsRecorded = (name : List ℕ) (folder : Folder) → RecordsAsPlayed name folder
