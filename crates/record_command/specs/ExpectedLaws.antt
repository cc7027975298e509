-- What follows by computing of the outcome of a recording, which crates above need too.
use Rattle.std.specs.Prelude.{◌≡◌, ⊤, ℕ, suc, ◌+◌, List, [], ◌∷◌, length, Bool, Option, Some, None, Result, Ok}
use Rattle.std.specs.List.{AllZip, enumerate_from}
use Rattle.std.proofs.Common.{ap, arith, refl, subst, sym, ◌∙◌}
use Rattle.fri_outside.specs.Outside.{Folder}
use Rattle.wasm_types.specs.Modules.{Module}
use Rattle.schedule_text.specs.Reading.{schedule_of}
use Rattle.schedule_text.specs.Schedule.{Schedule}
use Rattle.schedule_text.specs.declared.process.ProcessLine.{ProcessLine}
use Rattle.guest_process.specs.Start.{start}
use Rattle.guest_process.specs.State.{State}
use Rattle.group_record.specs.Answer.{first_states, first_states_from, group_of, with_first_state}
use Rattle.group_record.specs.Run.{run}
use Rattle.command_run.specs.declared.status.Status.TheVariants as ends
use Rattle.command_run.specs.Apart.{first_clash, refused_over_input, unless_over_input}
use Rattle.command_run.specs.ApartLaws.{apart_goes_on, free_is_apart}
use Rattle.command_run.specs.Inputs.{module_in}
use Rattle.command_run.specs.Outcome.{CommandOutcome, CommandStop, and_then, outcome_status}
use Rattle.record_command.specs.Agreement.{IsRecordable, group_in, run_in}
use Rattle.record_command.specs.Expected.{KeepsSchedule, group_outcome, inputs_in, made_names, modules_of, outcome_of_inputs, record_outcome, schedule_in, schedule_or_refusal}
use Rattle.record_command.specs.Record.{run_outcome}

-- ---- what is read of files that can be recorded

pub schedule_is : {folder : Folder} {name : List ℕ} (r : IsRecordable folder name) → schedule_in folder name ≡ Ok r.schedule
schedule_is {folder} {name} r =
    ap (λ (b : Result (List ℕ) CommandStop). and_then b (λ bytes. schedule_or_refusal name (schedule_of bytes))) r.read ∙ ap (schedule_or_refusal name) r.spelled

found_all : (folder : Folder) (lines : List ProcessLine) (ms : List Module) → AllZip (λ line m. module_in folder line.«module» ≡ Ok m) lines ms → modules_of folder lines ≡ Ok ms
found_all folder [] [] found = refl
found_all folder (line ∷ lines) (m ∷ ms) found =
    ap (λ (r : Result Module CommandStop). and_then r (λ m. and_then (modules_of folder lines) (λ ms. Ok (m ∷ ms)))) found.0
    ∙ ap (λ (r : Result (List Module) CommandStop). and_then r (λ ms. Ok (m ∷ ms))) (found_all folder lines ms found.1)
found_all folder [] (m ∷ ms) found = absurd found
found_all folder (line ∷ lines) [] found = absurd found

pub modules_are : {folder : Folder} {name : List ℕ} (r : IsRecordable folder name) → modules_of folder r.schedule.processes ≡ Ok r.modules
modules_are {folder} r = found_all folder r.schedule.processes r.modules r.found

begun_all : (count p : ℕ) (ms : List Module) (first : List State) → AllZip (λ m S. start m.1 m.0 count ≡ Some S) (enumerate_from p ms) first → first_states_from count p ms ≡ Ok first
begun_all count p [] [] begun = refl
begun_all count p (m ∷ ms) (S ∷ first) begun =
    let next : p + 1 ≡ suc p = omega arith in
    let rest = subst (λ (n : ℕ). AllZip (λ m S. start m.1 m.0 count ≡ Some S) (enumerate_from n ms) first) next begun.1 in
    ap (λ (o : Option State). with_first_state o p (first_states_from count (suc p) ms)) begun.0 ∙ ap (with_first_state (Some S) p) (begun_all count (suc p) ms first rest)
begun_all count p [] (S ∷ first) begun = absurd begun
begun_all count p (m ∷ ms) [] begun = absurd begun

pub first_are : {folder : Folder} {name : List ℕ} (r : IsRecordable folder name) → first_states r.schedule r.modules ≡ Ok r.first
first_are r = begun_all (length r.schedule.processes) 0 r.modules r.first r.begins

-- ---- the outcome

-- a schedule that was read, with its modules
pub inputs_are : (folder : Folder) (name : List ℕ) (schedule : Schedule) (modules : List Module) → schedule_in folder name ≡ Ok schedule → modules_of folder schedule.processes ≡ Ok modules → inputs_in folder name ≡ Ok (schedule, modules)
inputs_are folder name schedule modules spelled found =
    ap (λ (r : Result Schedule CommandStop). and_then r (λ schedule. and_then (modules_of folder schedule.processes) (λ modules. Ok (schedule, modules)))) spelled
    ∙ ap (λ (r : Result (List Module) CommandStop). and_then r (λ modules. Ok (schedule, modules))) found

-- it is that of the run of what was read, unless the schedule's own file would be made
pub outcome_of_read : (images : Bool) (folder : Folder) (name : List ℕ) (schedule : Schedule) (modules : List Module) (first : List State) → schedule_in folder name ≡ Ok schedule → modules_of folder schedule.processes ≡ Ok modules
    → first_states schedule modules ≡ Ok first → KeepsSchedule images name schedule → record_outcome images name folder ≡ run_outcome images name (group_of schedule first) (run (group_of schedule first) schedule.items)
outcome_of_read images folder name schedule modules first spelled found begins kept =
    ap (λ (i : Result (Schedule × List Module) CommandStop). and_then i (outcome_of_inputs images name)) (inputs_are folder name schedule modules spelled found)
    ∙ ap (λ (a : Result ⊤ CommandStop). and_then a (λ _. group_outcome images name schedule (first_states schedule modules))) (apart_goes_on (name ∷ []) (made_names images schedule) kept)
    ∙ ap (group_outcome images name schedule) begins

-- so of what can be recorded
pub outcome_is_run : (images : Bool) {folder : Folder} {name : List ℕ} (r : IsRecordable folder name) → KeepsSchedule images name r.schedule
    → record_outcome images name folder ≡ run_outcome images name (group_in r) (run_in r)
outcome_is_run images {folder} {name} r kept = outcome_of_read images folder name r.schedule r.modules r.first (schedule_is r) (modules_are r) (first_are r) kept

-- where its work was done that was none of them
refused_not_done : ends.Refused ≡ ends.Done → ⊥
refused_not_done e = cc

not_refused : (clash : Option (List ℕ)) (rest : CommandOutcome) → outcome_status (and_then (refused_over_input clash) (λ _. rest)) ≡ ends.Done → refused_over_input clash ≡ Ok tt
not_refused None rest done = refl
not_refused (Some file) rest done = absurd (refused_not_done done)

pub done_is_kept : (images : Bool) {folder : Folder} {name : List ℕ} (r : IsRecordable folder name) → outcome_status (record_outcome images name folder) ≡ ends.Done → KeepsSchedule images name r.schedule
done_is_kept images {folder} {name} r done =
    let is : record_outcome images name folder ≡ outcome_of_inputs images name (r.schedule, r.modules) =
    ap (λ (i : Result (Schedule × List Module) CommandStop). and_then i (outcome_of_inputs images name)) (inputs_are folder name r.schedule r.modules (schedule_is r) (modules_are r)) in
    free_is_apart (name ∷ []) (made_names images r.schedule)
    (not_refused (first_clash (name ∷ []) (made_names images r.schedule)) (group_outcome images name r.schedule (first_states r.schedule r.modules)) (sym (ap outcome_status is) ∙ done))
