-- The logs that the recording leaves in memory.
use Rattle.std.proofs.Common.{◌≡◌, ◌≢◌, ◌∙◌, ◌<◌, ◌≤◌, ℕ, zero, suc, false, List, [], ◌∷◌, ◌++◌, Option, Some, None, Ok, Err, get_or, ap, arith, refl, subst, sym}
use Rattle.std.specs.Prelude.{All, AllPairs}
use Rattle.std.specs.FinMap.{empty, get}
use Rattle.std.specs.List.{AllByRecursion}
use Rattle.std.proofs.lemmas.List.Kept.{AllPairs-cons}
use Rattle.std.proofs.lemmas.Option.{same_Some}
use Rattle.fri_outside.specs.Laws.{KeepsFiles}
use Rattle.fri_outside.specs.Memory.{FilesInMemory}
use Rattle.fri_outside.specs.Outside.{Folder}
use Rattle.fri_outside.specs.Several.{AddsFiles, AreApartNames, with_files}
use Rattle.wasm_types.specs.Modules.{Module}
use Rattle.guest_module.specs.Valid.{IsValid}
use Rattle.wasm_validate.specs.Fault.{ExactFault}
use Rattle.schedule_text.specs.Drill.{drill_schedule}
use Rattle.schedule_text.specs.Limits.{most_rounds}
use Rattle.schedule_text.specs.Schedule.{IsInRange, IsSchedule, Schedule}
use Rattle.guest_process.specs.State.{State}
use Rattle.group_record.specs.declared.error.RecordError.{RecordError}
use Rattle.group_record.specs.declared.error.RecordError.TheVariants as errors
use Rattle.group_record.specs.declared.summary.Summary.{Summary}
use Rattle.group_record.specs.Answer.{IsRecordedWhole, IsFullLogOfRun, RecordAnswers, first_states, first_states_from, group_of}
use Rattle.group_record.specs.Laws.{Agreement, Beginning, IsBegun}
use Rattle.group_record.specs.Logs.{TellsEvents, log_name, logs_of_steps}
use Rattle.group_record.specs.Files.{change}
use Rattle.group_record.specs.Run.{RunStep, log_of, name_of_process, run, processes_in_group}
use Rattle.command_run.specs.OutcomeLaws.{same_Ok_value}
use Rattle.drill_command.specs.Drill.{drill_group, drill_modules, drill_run, drill_states}
use Rattle.drill_command.specs.inside.Results.{HasAllRounds}
use Rattle.drill_command.proofs.ProcessesBegin.{all_begin}
use Rattle.drill_command.proofs.RunFits.{fills_no_log}
use Rattle.drill_command.proofs.RingIsValid.{ring_is_valid}

-- ---- lists of four

pub each : {X : Type 0} (P : X → Type 0) (xs : List X) → AllByRecursion P xs → All P xs
each P [] all k d below = absurd (omega (arith, below))
each P (x ∷ xs) all zero d below = all.0
each P (x ∷ xs) all (suc k) d below = each P xs all.1 k d (omega (arith, below))

abbrev File : Type 0
File = List ℕ × List ℕ

abbrev Apart : File → File → Type 0
Apart one other = one.0 ≢ other.0

abbrev ApartBehind : List File → Type 0
ApartBehind [] = Unit {0}
ApartBehind (x ∷ xs) = AllByRecursion (Apart x) xs × ApartBehind xs

all_apart : (xs : List File) → ApartBehind xs → AllPairs Apart xs
all_apart [] apart = λ i j d below within. absurd (omega (arith, below, within))
all_apart (x ∷ xs) apart = AllPairs-cons Apart x xs (each (Apart x) xs apart.0) (all_apart xs apart.1)

abbrev digit : List ℕ → ℕ
digit name = get_or name 1 0

unlike : (a b : File) → (digit a.0 ≡ digit b.0 → ⊥) → Apart a b
unlike a b differ same = differ (ap digit same)

-- ---- the logs

abbrev log_at : List RunStep → ℕ → File
log_at steps p = (log_name (name_of_process drill_group p), log_of drill_group steps p)

abbrev all_logs : List RunStep → List File
all_logs steps = log_at steps 0 ∷ log_at steps 1 ∷ log_at steps 2 ∷ log_at steps 3 ∷ []

logs_are : (steps : List RunStep) → logs_of_steps drill_group steps ++ [] ≡ all_logs steps
logs_are steps = refl

logs_apart : (steps : List RunStep) → AreApartNames (all_logs steps)
logs_apart steps = all_apart (all_logs steps) (
  (unlike (log_at steps 0) (log_at steps 1) (λ (e : 48 ≡ 49). omega (arith, e)), (unlike (log_at steps 0) (log_at steps 2) (λ (e : 48 ≡ 50). omega (arith, e)), (unlike (log_at steps 0) (log_at steps 3) (λ (e : 48 ≡ 51). omega (arith, e)), tt))),
  (
    (unlike (log_at steps 1) (log_at steps 2) (λ (e : 49 ≡ 50). omega (arith, e)), (unlike (log_at steps 1) (log_at steps 3) (λ (e : 49 ≡ 51). omega (arith, e)), tt)),
    ((unlike (log_at steps 2) (log_at steps 3) (λ (e : 50 ≡ 51). omega (arith, e)), tt), (tt, tt)),
  ),
)

logs_held : KeepsFiles → (steps : List RunStep) (folder : Folder) → Some folder ≡ with_files (all_logs steps) (Some empty)
    → (p : ℕ) → p < 4 → get folder (log_name (name_of_process drill_group p)) ≡ Some (log_of drill_group steps p)
logs_held keeps steps folder is = at
  where
    stands : AddsFiles (all_logs steps) empty folder
    stands = let made = keeps.stands empty (all_logs steps) (logs_apart steps) in
        subst (AddsFiles (all_logs steps) empty) (sym (same_Some folder made.0 (is ∙ made.1))) made.2

    at : (p : ℕ) → p < 4 → get folder (log_name (name_of_process drill_group p)) ≡ Some (log_of drill_group steps p)
    at zero below = stands.held 0 (log_at steps 0).0 (log_at steps 0).1 refl
    at (suc zero) below = stands.held 1 (log_at steps 1).0 (log_at steps 1).1 refl
    at (suc (suc zero)) below = stands.held 2 (log_at steps 2).0 (log_at steps 2).1 refl
    at (suc (suc (suc zero))) below = stands.held 3 (log_at steps 3).0 (log_at steps 3).1 refl
    at (suc (suc (suc (suc p)))) below = absurd (omega (arith, below))

-- the logs of the whole run tell its events
logs_tell : ExactFault → Beginning → Agreement → (rounds : ℕ) → IsSchedule (drill_schedule rounds) → (p : ℕ) → p < 4 → TellsEvents drill_group (drill_run rounds).steps p
unfolding drill_run
logs_tell exact beginning agreement rounds schedule p below =
    let valid = ring_is_valid exact in
    let begun : IsBegun drill_group × All (IsInRange (processes_in_group drill_group)) (drill_schedule rounds).items =
    beginning (drill_schedule rounds) drill_modules drill_states schedule.formed refl (each IsValid drill_modules (valid, (valid, (valid, (valid, tt))))) all_begin in
    agreement drill_group (drill_schedule rounds).items begun.0 begun.1 (drill_run rounds).steps ([], refl) p below

-- ---- the answers

pub recorded : KeepsFiles → ExactFault → Beginning → Agreement → (rounds : ℕ) → IsSchedule (drill_schedule rounds) → (ms : List Module) → ms ≡ drill_modules
    → (summary : Summary) (files : FilesInMemory) → RecordAnswers (drill_schedule rounds) false (first_states (drill_schedule rounds) ms) (Ok summary) (change (Some empty) (Some files.folder))
    → HasAllRounds rounds (record { files = files; idle = summary.idle })
unfolding drill_run
recorded keeps exact beginning agreement rounds schedule ms are summary files (first, begun, done) =
    let same : first ≡ drill_states = same_Ok_value (first_states_from 4 0 ms) first drill_states begun (ap (first_states_from 4 0) are ∙ all_begin) in
    let is : IsRecordedWhole false drill_group (drill_run rounds) summary (change (Some empty) (Some files.folder)) =
    subst (λ (states : List State). IsRecordedWhole false (group_of (drill_schedule rounds) states) (run (group_of (drill_schedule rounds) states) (drill_schedule rounds).items) summary (change (Some empty) (Some files.folder))) same done in
    record {
      idle = is.summary.idle;
      logs = record {
        logs = logs_held keeps (drill_run rounds).steps files.folder is.files;
        tells = logs_tell exact beginning agreement rounds schedule;
      };
    }

-- the same of a schedule and a folder that are these
pub recorded_by : KeepsFiles → ExactFault → Beginning → Agreement → (rounds : ℕ) → IsSchedule (drill_schedule rounds) → (ms : List Module) → ms ≡ drill_modules
    → (s : Schedule) → s ≡ drill_schedule rounds → (before : Folder) → before ≡ empty
    → (summary : Summary) (files : FilesInMemory) → RecordAnswers s false (first_states s ms) (Ok summary) (change (Some before) (Some files.folder))
    → HasAllRounds rounds (record { files = files; idle = summary.idle })
recorded_by keeps exact beginning agreement rounds schedule ms are s is before fresh summary files answers =
    recorded keeps exact beginning agreement rounds schedule ms are summary files
    (subst (λ (f : Folder). RecordAnswers (drill_schedule rounds) false (first_states (drill_schedule rounds) ms) (Ok summary) (change (Some f) (Some files.folder))) fresh
    (subst (λ (x : Schedule). RecordAnswers x false (first_states x ms) (Ok summary) (change (Some before) (Some files.folder))) is answers))

pub never_bad : (rounds : ℕ) (ms : List Module) → ms ≡ drill_modules → (p : ℕ) (before after : Option Folder)
    → RecordAnswers (drill_schedule rounds) false (first_states (drill_schedule rounds) ms) (Err (errors.BadSegment p)) (change before after) → ⊥
never_bad rounds ms are p before after answers = refuted (sym answers.0 ∙ ap (first_states_from 4 0) are ∙ all_begin)
  where
    refuted : Err p ≡ Ok drill_states → ⊥
    refuted e = cc

-- no log was full
pub never_full : (rounds : ℕ) → rounds ≤ most_rounds → (ms : List Module) → ms ≡ drill_modules → (s : Schedule) → s ≡ drill_schedule rounds
    → (item : ℕ) (error : RecordError) → error ≡ errors.LogFull item → (before after : Option Folder) → RecordAnswers s false (first_states s ms) (Err error) (change before after) → ⊥
unfolding drill_run
never_full rounds few ms are s is item error full before after answers = refuted (sym (fills_no_log rounds few) ∙ full_is)
  where
    answers_of : RecordAnswers (drill_schedule rounds) false (first_states (drill_schedule rounds) ms) (Err (errors.LogFull item)) (change before after)
    answers_of =
        subst (λ (x : RecordError). RecordAnswers (drill_schedule rounds) false (first_states (drill_schedule rounds) ms) (Err x) (change before after)) full
        (subst (λ (x : Schedule). RecordAnswers x false (first_states x ms) (Err error) (change before after)) is answers)

    same : answers_of.0 ≡ drill_states
    same = same_Ok_value (first_states_from 4 0 ms) answers_of.0 drill_states answers_of.1 (ap (first_states_from 4 0) are ∙ all_begin)

    full_is : (drill_run rounds).full ≡ Some item
    full_is = (subst (λ (states : List State). IsFullLogOfRun (group_of (drill_schedule rounds) states) (run (group_of (drill_schedule rounds) states) (drill_schedule rounds).items) item before after) same answers_of.2).full

    refuted : None ≡ Some item → ⊥
    refuted e = cc
