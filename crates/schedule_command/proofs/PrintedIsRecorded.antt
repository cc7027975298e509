-- The outcome of recording the schedule that was printed is the work of the run that goes back to the replays.
use Rattle.std.proofs.Common.{◌≡◌, ◌∙◌, ◌+◌, ℕ, zero, suc, Bool, List, [], ◌∷◌, length, map, Option, Some, Ok, ap, arith, refl, subst}
use Rattle.std.specs.Prelude.{slice_get}
use Rattle.std.specs.FinMap.{get}
use Rattle.std.specs.List.{AllZip, enumerate_from}
use Rattle.std.proofs.lemmas.Option.{same_Some}
use Rattle.fri_outside.specs.Outside.{Folder}
use Rattle.wasm_types.specs.Modules.{Module}
use Rattle.wasm_decode.specs.Sections.{module_of_bytes}
use Rattle.guest_process.specs.Start.{start}
use Rattle.group_record.specs.Logs.{files_from, log_name}
use Rattle.proc_replay.specs.Replaying.{Replaying}
use Rattle.schedule_text.specs.Laws.{TextIsRead}
use Rattle.schedule_text.specs.Limits.{most_schedule}
use Rattle.schedule_text.specs.Reading.{schedule_of}
use Rattle.schedule_text.specs.Schedule.{Schedule}
use Rattle.schedule_text.specs.declared.process.ProcessLine.{ProcessLine}
use Rattle.schedule_back.specs.Back.{back}
use Rattle.schedule_back.specs.Laws.{RecordsBack, back_group, back_run}
use Rattle.command_run.specs.declared.refusal.Reason.TheVariants as reason
use Rattle.command_run.specs.Inputs.{module_in, valid_module}
use Rattle.command_run.specs.Laws.{ReadsModules}
use Rattle.command_run.specs.Limits.{most_module}
use Rattle.command_run.specs.Outcome.{and_then, some_or_refused, file_within}
use Rattle.record_command.specs.Agreement.{IsRecordable, group_in, run_in}
use Rattle.record_command.specs.Expected.{KeepsSchedule, record_outcome}
use Rattle.record_command.specs.ExpectedLaws.{outcome_is_run}
use Rattle.record_command.specs.Record.{outcome_by_room, recorded_work}

-- ---- modules

-- a module is read of the file's bytes alone
pub module_again : (folder later : Folder) (name : List ℕ) → get later name ≡ get folder name → module_in later name ≡ module_in folder name
module_again folder later name same =
    ap (λ (o : Option (List ℕ)). and_then (file_within name most_module o) (λ bytes. and_then (some_or_refused name reason.Malformed (module_of_bytes bytes)) (valid_module name))) same

-- a replay begins as process p of so many, of the module of this line
pub record BeginsAs (later : Folder) (count p : ℕ) (line : ProcessLine) (r : Replaying) : Type 0 where
  pub «module» : Module
  pub found : module_in later line.«module» ≡ Ok «module»
  pub begins : start «module» p count ≡ Some r.state

abbrev pub AllBeginAs : Folder → ℕ → ℕ → List ProcessLine → List Replaying → Type 0
AllBeginAs later count p [] [] = Unit {0}
AllBeginAs later count p (line ∷ lines) (r ∷ rs) = BeginsAs later count p line r × AllBeginAs later count (suc p) lines rs
AllBeginAs later count p [] (r ∷ rs) = ⊥
AllBeginAs later count p (line ∷ lines) [] = ⊥

record Gathered (later : Folder) (count p : ℕ) (lines : List ProcessLine) (rs : List Replaying) : Type 0 where
  modules : List Module
  found : AllZip (λ line m. module_in later line.«module» ≡ Ok m) lines modules
  begins : AllZip (λ m S. start m.1 m.0 count ≡ Some S) (enumerate_from p modules) (map (λ (r : Replaying). r.state) rs)

gathered : (later : Folder) (count p : ℕ) (lines : List ProcessLine) (rs : List Replaying) → AllBeginAs later count p lines rs → Gathered later count p lines rs
gathered later count p [] [] all = record { modules = []; found = tt; begins = tt }
gathered later count p (line ∷ lines) (r ∷ rs) all =
    let next : suc p ≡ p + 1 = omega arith in
    let one = all.0 in
    let rest = gathered later count (suc p) lines rs all.1 in
    record {
      modules = one.«module» ∷ rest.modules;
      found = (one.found, rest.found);
      begins = (one.begins, subst (λ (n : ℕ). AllZip (λ m S. start m.1 m.0 count ≡ Some S) (enumerate_from n rest.modules) (map (λ (r : Replaying). r.state) rs)) next rest.begins);
    }
gathered later count p [] (r ∷ rs) all = absurd all
gathered later count p (line ∷ lines) [] all = absurd all

-- ---- the outcome

pub record Recorded (lines : List ProcessLine) (start : List Replaying) (later : Folder) (schedule_name : List ℕ) : Type 0 where
  pub recordable : IsRecordable later schedule_name
  pub group : group_in recordable ≡ back_group lines start
  pub run : run_in recordable ≡ back_run lines start
  pub work : (images : Bool) → KeepsSchedule images schedule_name recordable.schedule → record_outcome images schedule_name later ≡ Ok (recorded_work images (group_in recordable) (run_in recordable))

pub recorded : ReadsModules → TextIsRead → (lines : List ProcessLine) (start : List Replaying) (text : List ℕ) (later : Folder) (schedule_name : List ℕ)
    → RecordsBack lines start text → get later schedule_name ≡ Some text → AllBeginAs later (length lines) 0 lines start → Recorded lines start later schedule_name
recorded reads read_back lines start text later name back_is held begin =
    let s : Schedule = back lines start in
    let g = gathered later (length lines) 0 lines start begin in
    let states = map (λ (r : Replaying). r.state) start in
    let r : IsRecordable later name = record {
      bytes = text;
      read = reads.files later name most_schedule text (record { held = held; within = back_is.short });
      schedule = s;
      spelled = ap schedule_of back_is.spelled ∙ read_back s back_is.formed;
      modules = g.modules;
      found = g.found;
      first = states;
      begins = g.begins;
    } in
    record {
      recordable = r;
      group = refl;
      run = refl;
      work = λ images kept. outcome_is_run images r kept ∙ ap (outcome_by_room images name (back_group lines start) (back_run lines start)) back_is.room;
    }

-- ---- the files

-- a file of a process at a place
pub file_at : (p : ℕ) (names : List (List ℕ)) (bytes : ℕ → List ℕ) (i : ℕ) (name : List ℕ) → slice_get names i ≡ Some name → slice_get (files_from p names bytes) i ≡ Some (log_name name, bytes (p + i))
file_at p [] bytes i name at = cc
file_at p (n ∷ names) bytes zero name at =
    let here : p ≡ p + 0 = omega arith in
    ap (λ (n : List ℕ). Some (log_name n, bytes p)) (same_Some n name at) ∙ ap (λ q. Some (log_name name, bytes q)) here
file_at p (n ∷ names) bytes (suc i) name at =
    let here : suc p + i ≡ p + suc i = omega arith in
    file_at (suc p) names bytes i name at ∙ ap (λ q. Some (log_name name, bytes q)) here

pub file_count : (p : ℕ) (names : List (List ℕ)) (bytes : ℕ → List ℕ) → length (files_from p names bytes) ≡ length names
file_count p [] bytes = refl
file_count p (n ∷ names) bytes = ap suc (file_count (suc p) names bytes)
