-- What `record` says of its result, from what it gathered.
use Rattle.std.proofs.Common.{◌≡◌, ℕ, Bool, List, [], ◌∷◌, Option, Some, option_map, Ok, Result, sym, ap, subst, ◌∙◌}
use Rattle.std.specs.Prelude.{⊤}
use Rattle.fri_outside.specs.Outside.{Counts, Folder, WhenTold}
use Rattle.wasm_types.specs.Modules.{Module}
use Rattle.schedule_text.specs.Schedule.{Schedule}
use Rattle.group_record.specs.Answer.{first_states}
use Rattle.command_run.specs.declared.refusal.WorkText.{WorkText}
use Rattle.command_run.specs.declared.refusal.StopCause.{StopCause}
use Rattle.record_command.specs.Expected.{group_outcome, inputs_in, made_names, modules_of, outcome_of_inputs, files_of_schedule, module_files, record_inputs, record_outcome, schedule_in}
use Rattle.command_run.specs.Asked.{AsksAll, AsksFirst}
use Rattle.command_run.specs.AskedLaws.{asks_before, asks_first_then, asks_then}
use Rattle.record_command.specs.ExpectedLaws.{inputs_are}
use Rattle.command_run.specs.Apart.{unless_over_input}
use Rattle.command_run.specs.Outcome.{CommandOutcome, CommandStop, and_then, writes_of}
use Rattle.command_run.specs.Call.{MakesWorkFiles, StopsAsCause, TellsOutcome}
use Rattle.record_command.specs.Gathering.{GathersFromFolder}
use Rattle.command_run.specs.OutcomeLaws.{outcome_when_told, stops_before_next}

-- a schedule was refused
pub schedule_stops : (folder : Folder) (name : List ℕ) (e : StopCause) → StopsAsCause (schedule_in folder name) e → StopsAsCause (inputs_in folder name) e
schedule_stops folder name e stops = stops_before_next (schedule_in folder name) _ e stops

modules_next : (folder : Folder) (name : List ℕ) (schedule : Schedule) → schedule_in folder name ≡ Ok schedule
    → inputs_in folder name ≡ and_then (modules_of folder schedule.processes) (λ modules. Ok (schedule, modules))
modules_next folder name schedule read =
    ap (λ (r : Result Schedule CommandStop). and_then r (λ schedule. and_then (modules_of folder schedule.processes) (λ modules. Ok (schedule, modules)))) read

-- a module of a schedule was refused
pub modules_stop : (folder : Folder) (name : List ℕ) (schedule : Schedule) (e : StopCause) → schedule_in folder name ≡ Ok schedule → StopsAsCause (modules_of folder schedule.processes) e → StopsAsCause (inputs_in folder name) e
modules_stop folder name schedule e read stops =
    subst (λ (r : Result (Schedule × List Module) CommandStop). StopsAsCause r e) (sym (modules_next folder name schedule read)) (stops_before_next (modules_of folder schedule.processes) _ e stops)

-- what was not gathered is not recorded
pub inputs_stop : (folder : Folder) (images : Bool) (name : List ℕ) (e : StopCause) → StopsAsCause (inputs_in folder name) e → StopsAsCause (record_outcome images name folder) e
inputs_stop folder images name e stops = stops_before_next (inputs_in folder name) (outcome_of_inputs images name) e stops

-- a schedule and its modules come to their outcome
of_inputs : (folder : Folder) (images : Bool) (name : List ℕ) (schedule : Schedule) (modules : List Module) → GathersFromFolder folder name schedule modules
    → record_outcome images name folder ≡ outcome_of_inputs images name (schedule, modules)
of_inputs folder images name schedule modules g =
    ap (λ (r : Result (Schedule × List Module) CommandStop). and_then r (outcome_of_inputs images name)) (inputs_are folder name schedule modules g.spelled g.found)

-- which is the refusal of the schedule's file
pub kept_stops : (folder : Folder) (images : Bool) (name : List ℕ) (schedule : Schedule) (modules : List Module) (e : StopCause) → GathersFromFolder folder name schedule modules
    → StopsAsCause (unless_over_input (name ∷ []) (made_names images schedule)) e → StopsAsCause (record_outcome images name folder) e
kept_stops folder images name schedule modules e g stops =
    subst (λ (o : CommandOutcome). StopsAsCause o e) (sym (of_inputs folder images name schedule modules g))
    (stops_before_next (unless_over_input (name ∷ []) (made_names images schedule)) (λ _. group_outcome images name schedule (first_states schedule modules)) e stops)

-- or that of the recording
gathered : (folder : Folder) (images : Bool) (name : List ℕ) (schedule : Schedule) (modules : List Module) → GathersFromFolder folder name schedule modules
    → unless_over_input (name ∷ []) (made_names images schedule) ≡ Ok tt → record_outcome images name folder ≡ group_outcome images name schedule (first_states schedule modules)
gathered folder images name schedule modules g kept =
    of_inputs folder images name schedule modules g
    ∙ ap (λ (r : Result ⊤ CommandStop). and_then r (λ _. group_outcome images name schedule (first_states schedule modules))) kept

-- so its result tells the outcome
pub group_tells : (told : Option Folder) (images : Bool) (name : List ℕ) (schedule : Schedule) (modules : List Module) (result : Result WorkText StopCause) → WhenTold told (λ folder. GathersFromFolder folder name schedule modules)
    → unless_over_input (name ∷ []) (made_names images schedule) ≡ Ok tt → TellsOutcome (group_outcome images name schedule (first_states schedule modules)) result
    → (o : CommandOutcome) → option_map (record_outcome images name) told ≡ Some o → TellsOutcome o result
group_tells told images name schedule modules result gathers kept tells o is =
    let h = outcome_when_told (record_outcome images name) told o is in
    subst (λ (o : CommandOutcome). TellsOutcome o result) (sym (h.2 ∙ gathered h.0 images name schedule modules (gathers h.0 h.1) kept)) tells

-- what their recording makes
pub group_makes : (told middle after : Option Folder) (images : Bool) (name : List ℕ) (schedule : Schedule) (modules : List Module) (result : Result WorkText StopCause) → WhenTold told (λ folder. GathersFromFolder folder name schedule modules)
    → unless_over_input (name ∷ []) (made_names images schedule) ≡ Ok tt → middle ≡ told → MakesWorkFiles result (writes_of (group_outcome images name schedule (first_states schedule modules))) middle after
    → (o : CommandOutcome) → option_map (record_outcome images name) told ≡ Some o → MakesWorkFiles result (writes_of o) told after
group_makes told middle after images name schedule modules result gathers kept same makes o is =
    let h = outcome_when_told (record_outcome images name) told o is in
    subst (λ (o : CommandOutcome). MakesWorkFiles result (writes_of o) told after) (sym (h.2 ∙ gathered h.0 images name schedule modules (gathers h.0 h.1) kept))
    (subst (λ (t : Option Folder). MakesWorkFiles result (writes_of (group_outcome images name schedule (first_states schedule modules))) t after) same makes)

-- ---- the names that were asked for

pub asks_schedule : (folder : Folder) (name : List ℕ) (old new : Counts) → AsksFirst (name ∷ []) old new → AsksFirst (record_inputs name folder) old new
asks_schedule folder name old new asks = asks_before (name ∷ []) (files_of_schedule (schedule_in folder name)) old new asks

inputs_read : (folder : Folder) (name : List ℕ) (schedule : Schedule) → schedule_in folder name ≡ Ok schedule → record_inputs name folder ≡ name ∷ module_files schedule.processes
inputs_read folder name schedule read = ap (λ (r : Result Schedule CommandStop). name ∷ files_of_schedule r) read

pub asks_modules : (folder : Folder) (name : List ℕ) (schedule : Schedule) (old between new : Counts) → schedule_in folder name ≡ Ok schedule
    → AsksAll (name ∷ []) old between → AsksFirst (module_files schedule.processes) between new → AsksFirst (record_inputs name folder) old new
asks_modules folder name schedule old between new read first asks =
    subst (λ (names : List (List ℕ)). AsksFirst names old new) (sym (inputs_read folder name schedule read)) (asks_first_then (name ∷ []) (module_files schedule.processes) old between new first asks)

pub asks_all_modules : (folder : Folder) (name : List ℕ) (schedule : Schedule) (old between new : Counts) → schedule_in folder name ≡ Ok schedule
    → AsksAll (name ∷ []) old between → AsksAll (module_files schedule.processes) between new → AsksAll (record_inputs name folder) old new
asks_all_modules folder name schedule old between new read first asks =
    subst (λ (names : List (List ℕ)). AsksAll names old new) (sym (inputs_read folder name schedule read)) (asks_then (name ∷ []) (module_files schedule.processes) old between new first asks)
