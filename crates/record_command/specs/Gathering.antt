-- What was gathered of the files, and the outcome of a recording that was not done.
use Rattle.std.specs.Prelude.{◌≡◌, ℕ, List, MatchResult, Ok, Result, map}
use Rattle.fri_outside.specs.Outside.{Folder}
use Rattle.wasm_types.specs.Modules.{Module, module_of}
use Rattle.schedule_text.specs.Schedule.{Schedule}
use Rattle.group_record.specs.declared.error.RecordError.{RecordError}
use Rattle.group_record.specs.declared.error.RecordError.TheVariants as errors
use Rattle.command_run.specs.declared.refusal.Reason.TheVariants as reason
use Rattle.command_run.specs.declared.refusal.StopCause.{StopCause}
use Rattle.command_run.specs.declared.refusal.StopCause.TheVariants as refusal
use Rattle.command_run.specs.Call.{RefusesFile, StopsAsCause}
use Rattle.record_command.specs.declared.inputs.Inputs.{Inputs}
use Rattle.record_command.specs.Expected.{inputs_in, module_name, modules_of, schedule_in}

-- the schedule of a schedule file, and the modules of its processes
pub record GathersFromFolder (folder : Folder) (schedule_name : List ℕ) (schedule : Schedule) (modules : List Module) : Type 0 where
  pub spelled : schedule_in folder schedule_name ≡ Ok schedule
  pub found : modules_of folder schedule.processes ≡ Ok modules

-- they were gathered, or the stop that came in their place
abbrev pub GathersInputs : Folder → List ℕ → Result Inputs StopCause → Type 0
GathersInputs folder schedule_name result = MatchResult result
    (λ inputs. GathersFromFolder folder schedule_name inputs.schedule (map module_of inputs.modules.items))
    (StopsAsCause (inputs_in folder schedule_name))

-- the outcome of a recording that was not done: the refusal of a module or of the schedule, a fault, or want of
-- memory, which may also come in the place of a refusal
abbrev pub IsRefusalOf : List ℕ → Schedule → RecordError → StopCause → Type 0
IsRefusalOf schedule_name schedule (errors.BadSegment p) e = RefusesFile (module_name schedule p) reason.BadSegment e
IsRefusalOf schedule_name schedule (errors.LogFull item) e = RefusesFile schedule_name (reason.LogFull item) e
IsRefusalOf schedule_name schedule errors.WriteFault e = e ≡ refusal.WriteFault
IsRefusalOf schedule_name schedule errors.NoMemory e = e ≡ refusal.NoMemory
