-- What a recording leaves: its files, and the modules as they stood.
use lib.Pointwise.{pointwise}
use Rattle.std.proofs.Common.{◌≡◌, ◌≢◌, ◌⊎◌, eqb, ◌∙◌, ◌<◌, ◌-◌, ℕ, zero, suc, Bool, true, false, cond, not, List, [], ◌∷◌, ◌++◌, length, drop, map, Option, Some, None, Result, Ok, Err, inl, inr, ap, arith, refl, subst, sym}
use Rattle.std.specs.Prelude.{Contains, IsTrue, ◌&&◌, codes, is_none, nat_eq, nat_le, slice_index_or}
use Rattle.std.specs.List.{AllByRecursion, ends_with, list_all}
use Rattle.std.proofs.Math.Seq.{drop-append_seam}
use Rattle.std.proofs.lemmas.Bool.{and_parts}
use Rattle.std.proofs.lemmas.Bool.Decides.{eqb_tells}
use Rattle.std.proofs.lemmas.List.{length-append}
use Rattle.fri_outside.specs.Outside.{Folder}
use Rattle.wasm_types.specs.Modules.{Module}
use Rattle.schedule_text.specs.Laws.{GivesSchedules}
use Rattle.schedule_text.specs.Reading.{ScheduleRefusal, BadLineAt, TooManyRuns, schedule_of}
use Rattle.schedule_text.specs.Schedule.{IsWellFormed, Schedule, is_module_name, is_visible}
use Rattle.schedule_text.specs.declared.process.ProcessLine.{ProcessLine}
use Rattle.group_record.specs.Answer.{first_states}
use Rattle.group_record.specs.Images.{images_from, images_of, images as all_images}
use Rattle.process_files.specs.Images.{mem_name, out_name}
use Rattle.group_record.specs.Logs.{files_from, log_name, logs_of_steps}
use Rattle.group_record.specs.Run.{GroupStart, RunProgress, RunStep, log_of}
use Rattle.command_run.specs.declared.status.Status.TheVariants as ends
use Rattle.command_run.specs.Outcome.{CommandOutcome, CommandStop, and_then, file_of, outcome_status, written_names}
use Rattle.command_run.specs.OutcomeLaws.{result_follows, same_Ok_value}
use Rattle.record_command.specs.Agreement.{IsRecordable, group_in, run_in, steps_in}
use Rattle.record_command.specs.Expected.{module_name, record_outcome, schedule_in, schedule_or_refusal}
use Rattle.record_command.specs.ExpectedLaws.{done_is_kept, outcome_is_run}
use Rattle.schedule_text.specs.Limits.{most_schedule}
use Rattle.record_command.specs.Record.{outcome_by_room, recorded_work}

-- ---- a schedule that was read

read_by : (name : List ℕ) (r : Result Schedule ScheduleRefusal) (schedule : Schedule) → schedule_or_refusal name r ≡ Ok schedule → r ≡ Ok schedule
read_by name (Ok s) schedule is = ap (λ (s : Schedule). Ok s) (same_Ok_value (schedule_or_refusal name (Ok s)) s schedule refl is)
read_by name (Err (BadLineAt line)) schedule is = cc
read_by name (Err TooManyRuns) schedule is = cc

pub schedule_formed : GivesSchedules → (folder : Folder) (name : List ℕ) (schedule : Schedule) → schedule_in folder name ≡ Ok schedule → IsWellFormed schedule
schedule_formed gives folder name schedule is =
    let bytes = result_follows (file_of folder name most_schedule) _ schedule is in
    ((gives bytes.given schedule).0 (read_by name (schedule_of bytes.given) schedule bytes.comes)).0.formed

-- ---- the outcome of a recording that is done

-- it is whole, and its work is that of the run
pub record IsDone (images : Bool) {folder : Folder} {name : List ℕ} (r : IsRecordable folder name) : Type 0 where
  pub whole : (run_in r).full ≡ None
  pub outcome : record_outcome images name folder ≡ Ok (recorded_work images (group_in r) (run_in r))

pub is_done : (images : Bool) {folder : Folder} {name : List ℕ} (r : IsRecordable folder name) → ends.Done ≡ outcome_status (record_outcome images name folder) → IsDone images r
is_done images {folder} {name} r done = by_room (run_in r).full refl (outcome_is_run images r (done_is_kept images r (sym done))) where
  by_room : (full : Option ℕ) → (run_in r).full ≡ full → record_outcome images name folder ≡ outcome_by_room images name (group_in r) (run_in r) full → IsDone images r
  by_room None whole is = record { whole = whole; outcome = is }
  by_room (Some item) full is = absurd (refused (done ∙ ap outcome_status is)) where
    refused : ends.Done ≡ ends.Refused → ⊥
    refused e = cc

-- ---- the names of its files

-- a name ends as those of the files that a recording makes
abbrev pub EndsAsMade : List ℕ → Type 0
EndsAsMade name = (before : List ℕ) × ((name ≡ log_name before) ⊎ ((name ≡ mem_name before) ⊎ (name ≡ out_name before)))

abbrev AreMade : List (List ℕ × List ℕ) → Type 0
AreMade files = AllByRecursion (λ file. EndsAsMade file.0) files

both : (files more : List (List ℕ × List ℕ)) → AreMade files → AreMade more → AreMade (files ++ more)
both [] more one other = other
both (file ∷ files) more one other = (one.0, both files more one.1 other)

logs_made : (p : ℕ) (names : List (List ℕ)) (bytes : ℕ → List ℕ) → AreMade (files_from p names bytes)
logs_made p [] bytes = tt
logs_made p (name ∷ names) bytes = ((name, inl refl), logs_made (suc p) names bytes)

images_made : (group : GroupStart) (steps : List RunStep) (p : ℕ) (names : List (List ℕ)) → AreMade (images_from group steps p names)
images_made group steps p [] = tt
images_made group steps p (name ∷ names) = ((name, inr (inl refl)), ((name, inr (inr refl)), images_made group steps (suc p) names))

made_if : (b : Bool) (files : List (List ℕ × List ℕ)) → AreMade files → AreMade (cond b files [])
made_if true files made = made
made_if false files made = tt

pub recording_made : (images : Bool) (group : GroupStart) (done : RunProgress) → AreMade (logs_of_steps group done.steps ++ images_of images group done)
recording_made images group done =
    both (logs_of_steps group done.steps) (images_of images group done) (logs_made 0 group.names (log_of group done.steps))
    (made_if (images && is_none done.full) (all_images group done.steps) (images_made group done.steps 0 group.names))

made_at : (files : List (List ℕ × List ℕ)) (name d : List ℕ) (k : ℕ) → AreMade files → k < length (map (λ (file : List ℕ × List ℕ). file.0) files) → slice_index_or (map (λ (file : List ℕ × List ℕ). file.0) files) k d ≡ name → EndsAsMade name
made_at [] name d k made below is = absurd (omega (arith, below))
made_at (file ∷ files) name d zero made below is = subst EndsAsMade is made.0
made_at (file ∷ files) name d (suc k) made below is = made_at files name d k made.1 (omega (arith, below)) is

among_made : (files : List (List ℕ × List ℕ)) (name : List ℕ) → AreMade files → Contains (map (λ (file : List ℕ × List ℕ). file.0) files) name → EndsAsMade name
among_made files name made (k, below, is) = made_at files name name k made below is

-- ---- no module has such a name

last_part : (name ending : List ℕ) → drop (length (name ++ ending) - length ending) (name ++ ending) ≡ ending
last_part name ending =
    let place : length (name ++ ending) - length ending ≡ length name = omega (arith, length-append name ending) in
    ap (λ (n : ℕ). drop n (name ++ ending)) place ∙ drop-append_seam name ending

same_number : (n : ℕ) → nat_eq n n ≡ true
same_number n = tells (eqb_tells n n) where
  tells : ((eqb n n ≡ true) × (n ≡ n)) ⊎ ((eqb n n ≡ false) × (n ≢ n)) → eqb n n ≡ true
  tells (inl h) = h.0
  tells (inr h) = absurd (h.1 refl)

same_all : (xs : List ℕ) → pointwise nat_eq xs xs ≡ true
same_all [] = refl
same_all (x ∷ xs) = ap (λ (b : Bool). b && pointwise nat_eq xs xs) (same_number x) ∙ same_all xs

ends_in : (name : List ℕ) (a b c d : ℕ) → ends_with nat_eq (name ++ (a ∷ b ∷ c ∷ d ∷ [])) (a ∷ b ∷ c ∷ d ∷ []) ≡ true
ends_in name a b c d =
    let ending = a ∷ b ∷ c ∷ d ∷ [] in
    ap (λ (xs : List ℕ). pointwise nat_eq ending xs) (last_part name ending) ∙ same_all ending

ends_so : (name : List ℕ) → (ends_with nat_eq (log_name name) (codes ".log") ≡ true) × ((ends_with nat_eq (mem_name name) (codes ".mem") ≡ true) × (ends_with nat_eq (out_name name) (codes ".out") ≡ true))
ends_so name = (ends_in name 46 108 111 103, (ends_in name 46 109 101 109, ends_in name 46 111 117 116))

-- the endings that no module's name has
record HasNone (name : List ℕ) : Type 0 where
  log : not (ends_with nat_eq name (codes ".log")) ≡ true
  mem : not (ends_with nat_eq name (codes ".mem")) ≡ true
  out : not (ends_with nat_eq name (codes ".out")) ≡ true

has_none : (name : List ℕ) → IsTrue (is_module_name name) → HasNone name
has_none name is =
    let log = not (ends_with nat_eq name (codes ".log")) in
    let mem = not (ends_with nat_eq name (codes ".mem")) in
    let out = not (ends_with nat_eq name (codes ".out")) in
    let front = nat_le 1 (length name) && nat_le (length name) 255 && list_all is_visible name in
    let one = and_parts (front && log && mem) out is in
    let two = and_parts (front && log) mem one.0 in
    let three = and_parts front log two.0 in
    record { log = three.1; mem = two.1; out = one.1 }

not_both : (b : Bool) → b ≡ true → not b ≡ true → ⊥
not_both true is none = cc
not_both false is none = cc

pub module_is_not_made : (name : List ℕ) → IsTrue (is_module_name name) → EndsAsMade name → ⊥
module_is_not_made name is (before, made) = by_ending made where
  none : HasNone name
  none = has_none name is

  by_ending : (name ≡ log_name before) ⊎ ((name ≡ mem_name before) ⊎ (name ≡ out_name before)) → ⊥
  by_ending (inl same) = not_both (ends_with nat_eq name (codes ".log")) (ap (λ (n : List ℕ). ends_with nat_eq n (codes ".log")) same ∙ (ends_so before).0) none.log
  by_ending (inr (inl same)) = not_both (ends_with nat_eq name (codes ".mem")) (ap (λ (n : List ℕ). ends_with nat_eq n (codes ".mem")) same ∙ (ends_so before).1.0) none.mem
  by_ending (inr (inr same)) = not_both (ends_with nat_eq name (codes ".out")) (ap (λ (n : List ℕ). ends_with nat_eq n (codes ".out")) same ∙ (ends_so before).1.1) none.out

module_at : (lines : List ProcessLine) (p : ℕ) (d : ProcessLine) → p < length lines → (slice_index_or lines p d).«module» ≡ slice_index_or (map (λ (line : ProcessLine). line.«module») lines) p []
module_at [] p d below = absurd (omega (arith, below))
module_at (line ∷ lines) zero d below = refl
module_at (line ∷ lines) (suc p) d below = module_at lines p d (omega (arith, below))

pub module_named : (lines : List ProcessLine) (p : ℕ) → ((d : ProcessLine) → IsTrue (is_module_name (slice_index_or lines p d).«module»)) → p < length lines → IsTrue (is_module_name (slice_index_or (map (λ (line : ProcessLine). line.«module») lines) p []))
module_named lines p named below =
    let none : ProcessLine = record { name = []; «module» = [] } in
    subst (λ (n : List ℕ). IsTrue (is_module_name n)) (module_at lines p none below) (named none)

-- so the modules stand as they stood
pub module_not_written : (images : Bool) {folder : Folder} {name : List ℕ} (r : IsRecordable folder name) → IsWellFormed r.schedule → IsDone images r → (p : ℕ) → p < length r.schedule.processes
    → Contains (written_names (record_outcome images name folder)) (module_name r.schedule p) → ⊥
module_not_written images {folder} {name} r formed done p below among =
    let named = module_named r.schedule.processes p (λ d. (formed.lines p d below).file) below in
    let files = logs_of_steps (group_in r) (steps_in r) ++ images_of images (group_in r) (run_in r) in
    let there : Contains (map (λ (file : List ℕ × List ℕ). file.0) files) (module_name r.schedule p) =
    subst (λ (o : CommandOutcome). Contains (written_names o) (module_name r.schedule p)) done.outcome among in
    module_is_not_made (module_name r.schedule p) named (among_made files (module_name r.schedule p) (recording_made images (group_in r) (run_in r)) there)
