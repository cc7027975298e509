-- How the result of a command is printed, and the status that it ends with.
use Rattle.std.specs.Prelude.{ℕ, List, string_bytes, Option, Some, None, Result, Ok, Err, ◌≡◌, ◌≢◌, IfSome, IfNone, []}
use Rattle.std.specs.Io.KnownBytes.{append_known}
use Rattle.std.proofs.Common.{refl, sym, ap, append-nil, ◌∙◌}
use Rattle.command_run.specs.declared.status.Status.{Status}
use Rattle.command_run.specs.declared.status.Status.TheVariants as ends
use Rattle.command_run.specs.declared.refusal.WorkText.{WorkText}
use Rattle.command_run.specs.declared.refusal.WorkText.TheVariants as answered
use Rattle.command_run.specs.declared.refusal.StopCause.{StopCause}
use Rattle.command_run.specs.declared.refusal.StopCause.TheVariants as refusal
use Rattle.fri_outside.specs.Outside.{CountRose}
use Rattle.command_run.specs.Outcome.{refused_line, absent_line}
use Rattle.command_run.specs.Call.{IsAnswerStatus, PrintsText, failed_says_after}

-- the status and the text of a command's result, unless a fault or want of memory ended it
abbrev pub status_and_text : Result WorkText StopCause → Option (Status × List ℕ)
status_and_text (Ok (answered.Done text)) = Some (ends.Done, text)
status_and_text (Ok (answered.Diverged text)) = Some (ends.Diverged, text)
status_and_text (Err (refusal.Refused file why)) = Some (ends.Refused, refused_line (string_bytes file) why)
status_and_text (Err (refusal.Absent file)) = Some (ends.Absent, absent_line (string_bytes file))
status_and_text (Err refusal.ReadFault) = None
status_and_text (Err refusal.WriteFault) = None
status_and_text (Err refusal.NoMemory) = None

-- the status of a fault, and of want of memory
abbrev pub FaultStatus : Result WorkText StopCause → Status → Type 0
FaultStatus (Err refusal.ReadFault) answer = answer ≡ ends.ReadFault
FaultStatus (Err refusal.WriteFault) answer = answer ≡ ends.WriteFault
FaultStatus (Err refusal.NoMemory) answer = answer ≡ ends.NoMemory
FaultStatus result answer = Unit {0}

-- what a sink took by one moment, as far as it tells, and how often it failed
pub record OutputState : Type 0 where
  pub taken : Option (List ℕ)
  pub faults : ℕ

abbrev pub output_state : Option (List ℕ) → ℕ → OutputState
output_state taken faults = record { taken = taken; faults = faults }

-- the end of a command's result, with its text written
pub record FinishesCall (ended : Result WorkText StopCause) (answer : Status) (old new : OutputState) : Type 0 where
  pub status : IfSome (status_and_text ended) (λ a. IsAnswerStatus answer → answer ≡ a.0)
  pub text : IfSome (status_and_text ended) (λ a. PrintsText answer a.1 old.taken new.taken)
  pub silent : IfNone (status_and_text ended) (new.taken ≡ old.taken)
  pub fault : FaultStatus ended answer
  pub read_fault : IfSome (status_and_text ended) (λ _. answer ≢ ends.ReadFault)
  pub write_fault : IfSome (status_and_text ended) (λ _. answer ≡ ends.WriteFault → CountRose old.faults new.faults)
  pub counted : IfSome (status_and_text ended) (λ _. new.faults ≡ failed_says_after old.faults answer)
  pub quiet : IfNone (status_and_text ended) (new.faults ≡ old.faults)

nothing_more : (o : Option (List ℕ)) → o ≡ append_known o []
nothing_more None = refl
nothing_more (Some xs) = ap Some (sym (append-nil xs))

-- nothing was printed, at a status that is no answer
pub prints_none : (answer : Status) (text : List ℕ) (before after : Option (List ℕ)) → (IsAnswerStatus answer → ⊥) → after ≡ before → PrintsText answer text before after
prints_none answer text before after none e = record { whole = λ is. absurd (none is); part = (0, e ∙ nothing_more before) }
