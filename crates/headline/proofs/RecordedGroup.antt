-- A recording's group, and each of its processes: its module, its first state, and its log.
use Rattle.std.proofs.Common.{◌≡◌, ◌≢◌, ◌⊎◌, ◌∙◌, ◌<◌, ◌+◌, ℕ, zero, suc, List, [], ◌∷◌, ◌++◌, length, map, slice_get, Option, Some, None, Result, Ok, Err, inl, inr, ap, arith, refl, subst, sym, Bool, true, false, cond}
use Rattle.std.specs.Prelude.{All, AllPairs, slice_index_or, nat_le}
use Rattle.std.specs.FinMap.{get}
use Rattle.std.specs.List.{AllZip, enumerate_from}
use Rattle.std.proofs.lemmas.List.{length-map}
use Rattle.fri_outside.specs.Outside.{Folder}
use Rattle.wasm_types.specs.Modules.{Module}
use Rattle.guest_module.specs.Valid.{IsValid}
use Rattle.wasm_decode.specs.Sections.{module_of_bytes}
use Rattle.schedule_text.specs.declared.item.Item.{Item}
use Rattle.schedule_text.specs.declared.process.ProcessLine.{ProcessLine}
use Rattle.schedule_text.specs.Laws.{GivesSchedules}
use Rattle.schedule_text.specs.Reading.{ScheduleRefusal, BadLineAt, TooManyRuns, schedule_of}
use Rattle.schedule_text.specs.Schedule.{IsInRange, IsWellFormed, Schedule}
use Rattle.guest_process.specs.Start.{start}
use Rattle.guest_process.specs.State.{State}
use Rattle.group_record.specs.Answer.{group_of}
use Rattle.group_record.specs.Laws.{Beginning, IsBegun}
use Rattle.group_record.specs.Logs.{IsLogWithTail}
use Rattle.group_record.specs.Run.{GroupStart, RunStep, head_of_log, log_of, name_of_process, processes_in_group}
use Rattle.command_run.specs.declared.refusal.Reason.TheVariants as reason
use Rattle.command_run.specs.declared.refusal.Reason.{Reason}
use Rattle.command_run.specs.Fault.{fault_of}
use Rattle.command_run.specs.Inputs.{module_in, valid_module}
use Rattle.command_run.specs.Laws.{ReadsModules}
use Rattle.command_run.specs.Limits.{most_module}
use Rattle.command_run.specs.Outcome.{CommandStop, and_then, file_of, some_or_refused, unless_refused, file_within, refuses_at_once}
use Rattle.command_run.specs.OutcomeLaws.{result_follows, same_Ok_value}
use Rattle.log_pairs.specs.Pairs.{Pair}
use Rattle.log_pairs.specs.Valid.{AreOfOneGroup}
use Rattle.record_command.specs.Agreement.{IsRecordable, group_in}
use Rattle.record_command.specs.Expected.{module_name, schedule_in, schedule_or_refusal}
use Rattle.record_command.specs.ExpectedLaws.{first_are, schedule_is}
use Rattle.schedule_text.specs.Limits.{most_schedule}
use Rattle.headline.specs.Headline.{HoldsPair, run_to}
use Rattle.headline.specs.Shown.{RecordedRun}
use Rattle.headline.proofs.LoadedPairs.{PairStands, log_stands}
use Rattle.headline.proofs.ShownReplays.{replay_of}

-- ---- the schedule

read_by : (name : List ℕ) (r : Result Schedule ScheduleRefusal) (schedule : Schedule) → schedule_or_refusal name r ≡ Ok schedule → r ≡ Ok schedule
read_by name (Ok s) schedule is = ap (λ (s : Schedule). Ok s) (same_Ok_value (schedule_or_refusal name (Ok s)) s schedule refl is)
read_by name (Err (BadLineAt line)) schedule is = cc
read_by name (Err TooManyRuns) schedule is = cc

pub schedule_formed : GivesSchedules → (folder : Folder) (name : List ℕ) (schedule : Schedule) → schedule_in folder name ≡ Ok schedule → IsWellFormed schedule
schedule_formed gives folder name schedule is =
    let bytes = result_follows (file_of folder name most_schedule) _ schedule is in
    ((gives bytes.given schedule).0 (read_by name (schedule_of bytes.given) schedule bytes.comes)).0.formed

-- ---- the modules

record AreModules (lines : List ProcessLine) (ms : List Module) : Type 0 where
  count : length ms ≡ length lines
  valid : All IsValid ms

valid_too : (m : Module) (ms : List Module) → IsValid m → All IsValid ms → All IsValid (m ∷ ms)
valid_too m ms valid rest zero d below = valid
valid_too m ms valid rest (suc k) d below = rest k d (omega (arith, below))

no_module : All IsValid []
no_module k d below = absurd (omega (arith, below))

are_modules : ReadsModules → (folder : Folder) (lines : List ProcessLine) (ms : List Module) → AllZip (λ line m. module_in folder line.«module» ≡ Ok m) lines ms → AreModules lines ms
are_modules reads folder [] [] found = record { count = refl; valid = no_module }
are_modules reads folder (line ∷ lines) (m ∷ ms) found =
    let rest = are_modules reads folder lines ms found.1 in
    record { count = ap suc rest.count; valid = valid_too m ms (reads.valid folder line.«module» m found.0) rest.valid }
are_modules reads folder [] (m ∷ ms) found = absurd found
are_modules reads folder (line ∷ lines) [] found = absurd found

-- the group has begun, and the items are in range for it
pub record HasBegun (group : GroupStart) (items : List Item) : Type 0 where
  pub begun : IsBegun group
  pub fits : All (IsInRange (processes_in_group group)) items

pub has_begun : ReadsModules → GivesSchedules → Beginning → {folder : Folder} {name : List ℕ} (r : IsRecordable folder name) → HasBegun (group_in r) r.schedule.items
has_begun reads gives beginning {folder} {name} r =
    let modules = are_modules reads folder r.schedule.processes r.modules r.found in
    let both = beginning r.schedule r.modules r.first (schedule_formed gives folder name r.schedule (schedule_is r)) modules.count modules.valid (first_are r) in
    record { begun = both.0; fits = both.1 }

-- ---- one process

-- the module of a file, with which a process begins so
pub record Begins (folder : Folder) (name : List ℕ) (p count : ℕ) (S : State) : Type 0 where
  pub «module» : Module
  pub reads : module_in folder name ≡ Ok «module»
  pub begins : start «module» p count ≡ Some S

abbrev file_at : List ProcessLine → ℕ → List ℕ
file_at lines i = slice_index_or (map (λ (line : ProcessLine). line.«module») lines) i []

begins_at : (folder : Folder) (count q : ℕ) (line : ProcessLine) (lines : List ProcessLine) (S : State) (m : Module) (one : State) (others : List State) → module_in folder line.«module» ≡ Ok m → start m q count ≡ Some one
    → ((j : ℕ) → slice_get others j ≡ Some S → Begins folder (file_at lines j) (suc q + j) count S)
    → (i : ℕ) → slice_get (one ∷ others) i ≡ Some S → Begins folder (file_at (line ∷ lines) i) (q + i) count S
begins_at folder count q line lines S m one others reads begins later zero at =
    let here : q ≡ q + 0 = omega arith in
    record { «module» = m; reads = reads; begins = ap (λ (n : ℕ). start m n count) (sym here) ∙ begins ∙ at }
begins_at folder count q line lines S m one others reads begins later (suc i) at =
    let here : suc q + i ≡ q + suc i = omega arith in subst (λ (n : ℕ). Begins folder (file_at lines i) n count S) here (later i at)

nothing_at : (S : State) (i : ℕ) → slice_get [] i ≡ Some S → ⊥
nothing_at S i e = cc

begins_from : (folder : Folder) (count q : ℕ) (lines : List ProcessLine) (ms : List Module) (first : List State) → AllZip (λ line m. module_in folder line.«module» ≡ Ok m) lines ms
    → AllZip (λ m S. start m.1 m.0 count ≡ Some S) (enumerate_from q ms) first → (i : ℕ) (S : State) → slice_get first i ≡ Some S → Begins folder (file_at lines i) (q + i) count S
begins_from folder count q [] [] [] found begins i S at = absurd (nothing_at S i at)
begins_from folder count q (line ∷ lines) (m ∷ ms) (one ∷ others) found begins i S at =
    let next : q + 1 ≡ suc q = omega arith in
    let rest = subst (λ (n : ℕ). AllZip (λ m S. start m.1 m.0 count ≡ Some S) (enumerate_from n ms) others) next begins.1 in
    begins_at folder count q line lines S m one others found.0 begins.0 (λ j here. begins_from folder count (suc q) lines ms others found.1 rest j S here) i at
begins_from folder count q [] [] (one ∷ others) found begins i S at = absurd begins
begins_from folder count q [] (m ∷ ms) first found begins i S at = absurd found
begins_from folder count q (line ∷ lines) [] first found begins i S at = absurd found
begins_from folder count q (line ∷ lines) (m ∷ ms) [] found begins i S at = absurd begins

group_size : (schedule : Schedule) (first : List State) → length schedule.processes ≡ processes_in_group (group_of schedule first)
group_size schedule first = sym (length-map schedule.processes (λ (line : ProcessLine). line.name))

pub begins_in : {folder : Folder} {name : List ℕ} (r : IsRecordable folder name) (p : ℕ) (S : State) → slice_get (group_in r).first p ≡ Some S → Begins folder (module_name r.schedule p) p (processes_in_group (group_in r)) S
begins_in {folder} r p S at =
    let here : 0 + p ≡ p = omega arith in
    subst (λ (n : ℕ). Begins folder (module_name r.schedule p) p n S) (group_size r.schedule r.first)
    (subst (λ (n : ℕ). Begins folder (module_name r.schedule p) n (length r.schedule.processes) S) here
    (begins_from folder (length r.schedule.processes) 0 r.schedule.processes r.modules r.first r.found r.begins p S at))

-- ---- its pair, in a folder that holds it

valid_again : (name other : List ℕ) (x m : Module) (why : Option Reason) → unless_refused name x why ≡ Ok m → unless_refused other x why ≡ Ok m
valid_again name other x m None is = is
valid_again name other x m (Some why) is = cc

spelled_again : (name other : List ℕ) (o : Option Module) (m : Module) → and_then (some_or_refused name reason.Malformed o) (valid_module name) ≡ Ok m → and_then (some_or_refused other reason.Malformed o) (valid_module other) ≡ Ok m
spelled_again name other None m is = cc
spelled_again name other (Some x) m is = valid_again name other x m (fault_of x) is

abbrev module_by : List ℕ → Option (List ℕ) → Result Module CommandStop
module_by name file = and_then (file_within name most_module file) (λ bytes. and_then (some_or_refused name reason.Malformed (module_of_bytes bytes)) (valid_module name))

abbrev module_if : List ℕ → List ℕ → Bool → Result Module CommandStop
module_if name bytes fits =
    and_then (cond fits (Ok bytes) (Err (refuses_at_once name reason.TooLarge))) (λ bytes. and_then (some_or_refused name reason.Malformed (module_of_bytes bytes)) (valid_module name))

fitting_again : (name other bytes : List ℕ) (fits : Bool) (m : Module) → module_if name bytes fits ≡ Ok m → module_if other bytes fits ≡ Ok m
fitting_again name other bytes true m is = spelled_again name other (module_of_bytes bytes) m is
fitting_again name other bytes false m is = cc

found_again : (name other : List ℕ) (file : Option (List ℕ)) (m : Module) → module_by name file ≡ Ok m → module_by other file ≡ Ok m
found_again name other None m is = cc
found_again name other (Some bytes) m is = fitting_again name other bytes (nat_le (length bytes) most_module) m is

-- what is a module under one name is that module under another
same_module : (before folder : Folder) (name other : List ℕ) (m : Module) → module_in before name ≡ Ok m → get folder other ≡ get before name → module_in folder other ≡ Ok m
same_module before folder name other m is same =
    ap (module_by other) same ∙ found_again name other (get before name) m is

-- the log of each process, by what was recorded, and what stands after it
abbrev pub logs_of_run : RecordedRun → (ℕ → List ℕ) → ℕ → Option (List ℕ)
logs_of_run run cut p = Some (log_of run.group run.steps p ++ cut p)

pub pair_stands : ReadsModules → {before : Folder} {name : List ℕ} (r : IsRecordable before name) (steps : List RunStep) (cut : ℕ → List ℕ) (folder : Folder) (p : ℕ) (pair : Pair)
    → HoldsPair r (logs_of_run (run_to r steps) cut) folder p pair → (t : IsLogWithTail (group_in r) steps p (cut p)) → PairStands folder pair (replay_of (run_to r steps) cut p t)
pair_stands reads {before} r steps cut folder p pair holds t =
    let b = begins_in r p t.first t.begun in
    record {
      «module» = b.«module»;
      reads = same_module before folder (module_name r.schedule p) pair.module_name b.«module» b.reads holds.«module»;
      begins = b.begins;
      log = log_stands reads folder pair.log_name (log_of (group_in r) steps p ++ cut p) (head_of_log (group_in r) p) t.left holds.log t.within t.head;
    }

-- ---- the heads go together

names_differ : (lines : List ProcessLine) → AllPairs (λ a b. a.name ≢ b.name) lines → (p q : ℕ) → p < q → q < length lines
    → slice_index_or (map (λ (line : ProcessLine). line.name) lines) p [] ≢ slice_index_or (map (λ (line : ProcessLine). line.name) lines) q []
names_differ lines apart p q before inside same =
    apart p q none before inside (name_is lines p (omega (arith, before, inside)) ∙ same ∙ sym (name_is lines q inside)) where
      none : ProcessLine
      none = record { name = []; «module» = [] }

      name_is : (lines : List ProcessLine) (i : ℕ) → i < length lines → (slice_index_or lines i none).name ≡ slice_index_or (map (λ (line : ProcessLine). line.name) lines) i []
      name_is [] i below = absurd (omega (arith, below))
      name_is (line ∷ lines) zero below = refl
      name_is (line ∷ lines) (suc i) below = name_is lines i (omega (arith, below))

less_or_more : (p q : ℕ) → p ≢ q → (p < q) ⊎ (q < p)
less_or_more zero zero apart = absurd (apart refl)
less_or_more zero (suc q) apart = inl (omega arith)
less_or_more (suc p) zero apart = inr (omega arith)
less_or_more (suc p) (suc q) apart = further (less_or_more p q (λ same. apart (ap suc same))) where
  further : (p < q) ⊎ (q < p) → (suc p < suc q) ⊎ (suc q < suc p)
  further (inl less) = inl (omega (arith, less))
  further (inr more) = inr (omega (arith, more))

pub together : (schedule : Schedule) (first : List State) → IsWellFormed schedule → (p q : ℕ) → p < processes_in_group (group_of schedule first) → q < processes_in_group (group_of schedule first) → p ≢ q
    → AreOfOneGroup (head_of_log (group_of schedule first) p) (head_of_log (group_of schedule first) q)
together schedule first formed p q below also apart = record {
  count = refl;
  process = apart;
  name = by_order (less_or_more p q apart);
} where
  count : length schedule.processes ≡ processes_in_group (group_of schedule first)
  count = group_size schedule first

  by_order : (p < q) ⊎ (q < p) → name_of_process (group_of schedule first) p ≢ name_of_process (group_of schedule first) q
  by_order (inl less) same = names_differ schedule.processes formed.names p q less (omega (arith, also, count)) same
  by_order (inr more) same = names_differ schedule.processes formed.names q p more (omega (arith, below, count)) (sym same)
