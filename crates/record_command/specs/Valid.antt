-- Files at which `record` does its work.
use Rattle.std.specs.Prelude.{◌≡◌, ℕ, suc, ◌≤◌, Bool, List, [], ◌∷◌, length, None, Ok}
use Rattle.fri_outside.specs.Outside.{Folder}
use Rattle.wasm_types.specs.Modules.{Module}
use Rattle.schedule_text.specs.Grammar.{SpellsSchedule}
use Rattle.schedule_text.specs.Schedule.{Schedule, run_count}
use Rattle.schedule_text.specs.declared.process.ProcessLine.{ProcessLine}
use Rattle.guest_process.specs.State.{State}
use Rattle.group_record.specs.Answer.{first_states, group_of}
use Rattle.group_record.specs.Run.{run}
use Rattle.command_run.specs.Valid.{IsFileWithin, IsModuleFile, ProcessBegins}
use Rattle.schedule_text.specs.Limits.{most_runs, most_schedule}
use Rattle.record_command.specs.Expected.{KeepsSchedule}

-- a file spells this schedule, of which the tries are not too many
pub record IsScheduleFile (folder : Folder) (name : List ℕ) (schedule : Schedule) : Type 0 where
  pub bytes : List ℕ
  pub stands : IsFileWithin folder name most_schedule bytes
  pub spelled : SpellsSchedule bytes schedule
  pub few : run_count schedule.items ≤ most_runs

-- these files are the modules of the processes from p on of a group of `count`, and each process begins
abbrev pub AreModuleFiles : Folder → ℕ → ℕ → List ProcessLine → Type 0
AreModuleFiles folder count p [] = Unit {0}
AreModuleFiles folder count p (line ∷ lines) =
    ((m : IsModuleFile folder line.«module») × ProcessBegins m.«module» p count) × AreModuleFiles folder count (suc p) lines

-- the modules of these files
abbrev pub modules_in : (folder : Folder) (count p : ℕ) (lines : List ProcessLine) → AreModuleFiles folder count p lines → List Module
modules_in folder count p [] files = []
modules_in folder count p (line ∷ lines) files = files.0.0.«module» ∷ modules_in folder count (suc p) lines files.1

-- a group can be recorded whole: the schedule and the modules are valid, and no log passes its limit
pub record RecordsWhole (folder : Folder) (schedule_name : List ℕ) : Type 0 where
  pub schedule : Schedule
  pub file : IsScheduleFile folder schedule_name schedule
  pub files : AreModuleFiles folder (length schedule.processes) 0 schedule.processes
  pub room : (first : List State) → first_states schedule (modules_in folder (length schedule.processes) 0 schedule.processes files) ≡ Ok first
      → (run (group_of schedule first) schedule.items).full ≡ None

-- and its schedule's own file is none of those that are made, with images or without
pub record RecordsApart (images : Bool) (folder : Folder) (schedule_name : List ℕ) : Type 0 where
  pub whole : RecordsWhole folder schedule_name
  pub kept : KeepsSchedule images schedule_name whole.schedule
