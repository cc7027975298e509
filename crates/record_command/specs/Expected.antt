-- The outcome of `record`, given the files.
use Rattle.std.specs.List.{slice_index_or}
use Rattle.std.specs.Prelude.{ℕ, List, [], ◌∷◌, ◌++◌, Bool, map, Result, Ok, Err, if◌then◌else◌}
use Rattle.fri_outside.specs.Outside.{Folder}
use Rattle.wasm_types.specs.Modules.{Module}
use Rattle.schedule_text.specs.declared.process.ProcessLine.{ProcessLine}
use Rattle.schedule_text.specs.Reading.{ScheduleRefusal, BadLineAt, TooManyRuns, schedule_of}
use Rattle.schedule_text.specs.Schedule.{Schedule}
use Rattle.guest_process.specs.State.{State}
use Rattle.process_files.specs.Images.{mem_name, out_name}
use Rattle.group_record.specs.Answer.{first_states, group_of}
use Rattle.group_record.specs.Logs.{log_name}
use Rattle.group_record.specs.Run.{run}
use Rattle.command_run.specs.Apart.{AreApart, unless_over_input}
use Rattle.command_run.specs.declared.refusal.Reason.TheVariants as reason
use Rattle.command_run.specs.Asked.{first_named}
use Rattle.command_run.specs.Inputs.{module_in}
use Rattle.command_run.specs.Outcome.{CommandStop, CommandOutcome, refuses_at_once, and_then, file_of}
use Rattle.schedule_text.specs.Limits.{most_schedule}
use Rattle.record_command.specs.Record.{run_outcome}

-- the schedule of a schedule file
abbrev pub schedule_or_refusal : List ℕ → Result Schedule ScheduleRefusal → Result Schedule CommandStop
schedule_or_refusal name (Ok schedule) = Ok schedule
schedule_or_refusal name (Err (BadLineAt line)) = Err (refuses_at_once name (reason.BadLine line))
schedule_or_refusal name (Err TooManyRuns) = Err (refuses_at_once name reason.TooMany)

abbrev pub schedule_in : Folder → List ℕ → Result Schedule CommandStop
schedule_in folder name = and_then (file_of folder name most_schedule) (λ bytes. schedule_or_refusal name (schedule_of bytes))

-- the modules of these processes, in their order
abbrev pub modules_of : Folder → List ProcessLine → Result (List Module) CommandStop
modules_of folder [] = Ok []
modules_of folder (line ∷ lines) = and_then (module_in folder line.«module») (λ m. and_then (modules_of folder lines) (λ ms. Ok (m ∷ ms)))

-- the file of the module of process p
abbrev pub module_name : Schedule → ℕ → List ℕ
module_name schedule p = slice_index_or (map (λ line. line.«module») schedule.processes) p []

-- the first states of all processes, or the refusal of the first module with which none begins
abbrev pub states_or_bad_segment : Schedule → Result (List State) ℕ → Result (List State) CommandStop
states_or_bad_segment schedule (Ok first) = Ok first
states_or_bad_segment schedule (Err p) = Err (refuses_at_once (module_name schedule p) reason.BadSegment)

-- the outcome of the recording of a group whose processes begin so
abbrev pub group_outcome : Bool → List ℕ → Schedule → Result (List State) ℕ → CommandOutcome
group_outcome images schedule_name schedule states =
    and_then (states_or_bad_segment schedule states) (λ first.
    run_outcome images schedule_name (group_of schedule first) (run (group_of schedule first) schedule.items))

-- the schedule of a file, and the modules that it names
abbrev pub inputs_in : Folder → List ℕ → Result (Schedule × List Module) CommandStop
inputs_in folder schedule_name =
    and_then (schedule_in folder schedule_name) (λ schedule. and_then (modules_of folder schedule.processes) (λ modules. Ok (schedule, modules)))

-- the names of the images, where they are asked for
abbrev pub image_names : Bool → List ProcessLine → List (List ℕ)
image_names images lines = if images then map (λ line. mem_name line.name) lines ++ map (λ line. out_name line.name) lines else []

-- the names of the files that are made: the logs, and the images
abbrev pub made_names : Bool → Schedule → List (List ℕ)
made_names images schedule = map (λ line. log_name line.name) schedule.processes ++ image_names images schedule.processes

-- the schedule's own file is none of these. No module's can be, as a schedule names none that ends so
abbrev pub KeepsSchedule : Bool → List ℕ → Schedule → Type 0
KeepsSchedule images schedule_name schedule = AreApart (schedule_name ∷ []) (made_names images schedule)

-- the outcome of the recording of a schedule with these modules, unless the schedule's own file would be made
abbrev pub outcome_of_inputs : Bool → List ℕ → Schedule × List Module → CommandOutcome
outcome_of_inputs images schedule_name inputs =
    and_then (unless_over_input (schedule_name ∷ []) (made_names images inputs.0)) (λ _.
    group_outcome images schedule_name inputs.0 (first_states inputs.0 inputs.1))

abbrev pub record_outcome : Bool → List ℕ → Folder → CommandOutcome
record_outcome images schedule_name folder = and_then (inputs_in folder schedule_name) (outcome_of_inputs images schedule_name)

-- the files of the modules of these processes, each once, in the order in which the lines name them first
abbrev pub module_files : List ProcessLine → List (List ℕ)
module_files lines = first_named [] (map (λ line. line.«module») lines)

abbrev pub files_of_schedule : Result Schedule CommandStop → List (List ℕ)
files_of_schedule (Ok schedule) = module_files schedule.processes
files_of_schedule (Err stop) = []

-- the files that a recording reads: the schedule's, and then those of its modules
abbrev pub record_inputs : List ℕ → Folder → List (List ℕ)
record_inputs schedule_name folder = schedule_name ∷ files_of_schedule (schedule_in folder schedule_name)
