-- What a run of a command says, from one state of the outside to another.
use Rattle.std.specs.Prelude.{◌≡◌, ◌≢◌, ◌⊎◌, ℕ, Bool, IsTrue, List, Option, Some, option_map, Result, IfErr, OnOk}
use Rattle.std.specs.Result.{IsOk}
use Rattle.fri_outside.specs.Outside.{Folder, WhenTold, Counts, CountRose, raised_count}
use Rattle.fri_outside.specs.Terminal.{Hearing}
use Rattle.fri_outside.specs.Several.{with_files, AreFirstMade, OtherFilesStay}
use Rattle.command_run.specs.declared.status.Status.{Status}
use Rattle.command_run.specs.declared.status.Status.TheVariants as ends
use Rattle.command_run.specs.declared.refusal.WorkText.{WorkText}
use Rattle.command_run.specs.declared.refusal.StopCause.{StopCause}
use Rattle.command_run.specs.Outcome.{CommandOutcome, outcome_status, outcome_text, writes_of, written_names}
use Rattle.command_run.specs.Call.{CountsFaults, DivergesOnlyIf, IsAnswerResult, IsAnswerStatus, IsIdleStatus, KeepsFolder, LeavesFiles, MakesWorkFiles, PrintsText, PrintsAbsent, PrintsAfterFiles, PrintsRefusal, RaisesCount, TellsOutcome, misses_of_refusal}
use Rattle.command_run.specs.Asked.{AsksAll, AsksFirst, AsksInputs}

-- what is handed in, as far as it tells
pub record Outside : Type 0 where
  pub told : Option Folder
  pub counts : Counts
  pub hearing : Hearing
  pub taken : Option (List ℕ)
  pub out_faults : ℕ

-- all of it at one moment
abbrev pub outside : Option Folder → Counts → Hearing → Option (List ℕ) → ℕ → Outside
outside told counts hearing taken out_faults = record {
  told = told;
  counts = counts;
  hearing = hearing;
  taken = taken;
  out_faults = out_faults;
}

-- ---- faults

-- no count of faults rose
pub record NoFault (old new : Outside) : Type 0 where
  pub reads : CountRose old.counts.reads new.counts.reads → ⊥
  pub writes : CountRose old.counts.writes new.counts.writes → ⊥
  pub input : CountRose old.hearing.faults new.hearing.faults → ⊥
  pub out : CountRose old.out_faults new.out_faults → ⊥

-- how often a read of files failed, and a write, a read of the input, and a write of the output
abbrev pub faults_of : Outside → (ℕ × ℕ) × (ℕ × ℕ)
faults_of o = ((o.counts.reads, o.counts.writes), (o.hearing.faults, o.out_faults))

-- a fault is told by the status, and a status of a fault tells one: exactly one was counted. At each other status no
-- count of faults is another than before
abbrev pub TellsFaults : Status → Outside → Outside → Type 0
TellsFaults ends.ReadFault old new =
    (faults_of new ≡ ((raised_count old.counts.reads, old.counts.writes), (old.hearing.faults, old.out_faults)))
    ⊎ (faults_of new ≡ ((old.counts.reads, old.counts.writes), (raised_count old.hearing.faults, old.out_faults)))
TellsFaults ends.WriteFault old new =
    (faults_of new ≡ ((old.counts.reads, raised_count old.counts.writes), (old.hearing.faults, old.out_faults)))
    ⊎ (faults_of new ≡ ((old.counts.reads, old.counts.writes), (old.hearing.faults, raised_count old.out_faults)))
TellsFaults answer old new = faults_of new ≡ faults_of old

-- how often a file was not found, or too large: once if it is absent, never if the work is done or a read failed, and once at
-- most at any other end
abbrev pub TellsMisses : Status → ℕ → ℕ → Type 0
TellsMisses ends.Absent old new = new ≡ raised_count old
TellsMisses ends.Refused old new = (new ≡ old) ⊎ (new ≡ raised_count old)
TellsMisses ends.WriteFault old new = (new ≡ old) ⊎ (new ≡ raised_count old)
TellsMisses ends.NoMemory old new = (new ≡ old) ⊎ (new ≡ raised_count old)
TellsMisses answer old new = new ≡ old

-- ---- the end of a call, whatever its command

-- a command from which this is expected, as far as files and input tell it, and which may write these names, reached its
-- end with this status
pub record CallEnds (expected : Option CommandOutcome) (written : Folder → List (List ℕ)) (old new : Outside) (answer : Status) : Type 0 where
  pub status : WhenTold expected (λ outcome. IsAnswerStatus answer → answer ≡ outcome_status outcome)
  pub text : WhenTold expected (λ outcome. PrintsText answer (outcome_text outcome) old.taken new.taken)
  pub files : WhenTold expected (λ outcome. LeavesFiles answer (writes_of outcome) old.told new.told)
  pub others : OtherFilesStay written old.told new.told
  pub idle : IsIdleStatus answer → new.told ≡ old.told
  -- nothing is printed before the files are made
  pub prints_last : WhenTold expected (λ outcome. PrintsAfterFiles (writes_of outcome) old.taken new.taken old.told new.told)
  pub faults : TellsFaults answer old new
  pub misses : TellsMisses answer old.counts.misses new.counts.misses
  pub absent_text : answer ≡ ends.Absent → PrintsAbsent old.taken new.taken
  pub out_fault : WhenTold expected (λ outcome. answer ≡ ends.WriteFault
      → CountRose old.counts.writes new.counts.writes ⊎ (new.told ≡ with_files (writes_of outcome) old.told))

-- ---- a command that reads no input

-- the input stays as it was. So a read that failed was one of a file, and a miss was counted exactly if a file is refused for
-- its size
pub record LeavesInput (old new : Outside) (answer : Status) : Type 0 where
  pub unheard : new.hearing ≡ old.hearing
  pub read : answer ≡ ends.ReadFault → CountRose old.counts.reads new.counts.reads
  pub refused : answer ≡ ends.Refused → PrintsRefusal old.taken new.taken (λ file why. new.counts.misses ≡ misses_of_refusal why old.counts.misses)

-- ---- a command that makes each of its files whole

-- it reads no input. Whatever its status, the first of the files of its outcome are made, each with all its bytes, and
-- no other name changed: so each file is the old one or the new one
pub record LeavesWholeFiles (outcome_of : Folder → CommandOutcome) (old new : Outside) (answer : Status) : Type 0 where
  pub input : LeavesInput old new answer
  pub whole : WhenTold old.told (λ folder. AreFirstMade (writes_of (outcome_of folder)) old.told new.told)

-- ---- a command that prints once, at its end

-- nothing changed, or what may be written are the names of the files that are expected
abbrev pub WritesOnly : (Folder → List (List ℕ)) → Option CommandOutcome → Option Folder → Option Folder → Folder → Type 0
WritesOnly written expected before after folder =
    (after ≡ before) ⊎ ((outcome : CommandOutcome) × (expected ≡ Some outcome) × (written folder ≡ written_names outcome))

-- what is expected of a command: its outcome, as far as files and input tell it, the names that it may write, by the
-- folder, those that it reads, in their order, and whether it may tell that a log diverged
pub record Expectation : Type 0 where
  pub outcome : Option CommandOutcome
  pub written : Folder → List (List ℕ)
  pub inputs : Folder → List (List ℕ)
  pub may_diverge : Bool

abbrev pub expectation : Option CommandOutcome → (Folder → List (List ℕ)) → (Folder → List (List ℕ)) → Bool → Expectation
expectation outcome written inputs may_diverge = record { outcome = outcome; written = written; inputs = inputs; may_diverge = may_diverge }

-- of a command whose outcome depends on the folder alone, and which may write the files of that outcome
abbrev pub expected_by_folder : (Folder → CommandOutcome) → Option Folder → (Folder → List (List ℕ)) → Bool → Expectation
expected_by_folder outcome_of told inputs may_diverge = expectation (option_map outcome_of told) (λ folder. written_names (outcome_of folder)) inputs may_diverge

-- the files at one moment, as far as they tell, with the counts of their faults
pub record FileState : Type 0 where
  pub told : Option Folder
  pub counts : Counts

abbrev pub file_state : Option Folder → Counts → FileState
file_state told counts = record { told = told; counts = counts }

-- its work is done or was stopped, and nothing is printed yet
pub record PerformedCommand (expected : Expectation) (old new : FileState) (ended : Result WorkText StopCause) : Type 0 where
  pub tells : WhenTold expected.outcome (λ outcome. TellsOutcome outcome ended)
  pub makes : WhenTold expected.outcome (λ outcome. MakesWorkFiles ended (writes_of outcome) old.told new.told)
  pub names : WhenTold old.told (WritesOnly expected.written expected.outcome old.told new.told)
  pub keeps : KeepsFolder ended old.told new.told
  pub diverges : DivergesOnlyIf expected.may_diverge ended
  pub counted : CountsFaults old.counts new.counts ended
  pub asks : WhenTold old.told (λ folder. AsksFirst (expected.inputs folder) old.counts new.counts)
  pub asks_all : WhenTold old.told (λ folder. OnOk ended (AsksAll (expected.inputs folder) old.counts new.counts))
  pub cause : IfErr ended (RaisesCount old.counts new.counts)

-- and its text was printed. It read no input
pub record FinishedCommand (expected : Expectation) (ended : Result WorkText StopCause) (old new : Outside) (answer : Status) : Type 0 where
  pub call : CallEnds expected.outcome expected.written old new answer
  pub is_command : answer ≢ ends.Usage
  pub diverged : answer ≡ ends.Diverged → IsTrue expected.may_diverge
  pub done : answer ≡ ends.Done → IsOk ended
  pub came_to_end : IsAnswerStatus answer → IsAnswerResult ended
  pub asks : WhenTold old.told (λ folder. AsksInputs (expected.inputs folder) old.counts new.counts answer)
  pub input : LeavesInput old new answer
