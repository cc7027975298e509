-- What a session says to a terminal and hears from it, by what the terminal tells.
use Rattle.std.specs.Prelude.{ℕ, List, Option, ◌≡◌, ◌++◌}
use Rattle.std.specs.Io.KnownBytes.{append_known}
use Rattle.fri_outside.specs.Terminal.{Hearing}
use Rattle.command_run.specs.declared.refusal.Reason.TheVariants as reason
use Rattle.command_run.specs.Outcome.{refused_line, outcome_status, outcome_text}
use Rattle.command_run.specs.declared.status.Status.{Status}
use Rattle.command_run.specs.declared.status.Status.TheVariants as status
use Rattle.fri_outside.specs.Outside.{raised_count, WhenTold}
use Rattle.command_run.specs.Call.{IsAnswerStatus, PrintsText, failed_says_after}
use Rattle.conversation.specs.Outcome.{conversation_outcome, input_name}
use Rattle.conversation.specs.Talker.{Talker}
use Rattle.conversation.specs.Input.{HasAnsweredLines, HasReadInput, TakesTurns}

-- what a terminal tells at one moment: what is heard, what it took, and how many of its writes failed
pub record TerminalState : Type 0 where
  pub hearing : Hearing
  pub taken : Option (List ℕ)
  pub faults : ℕ

-- all of it, of an object that tells each of these
abbrev pub terminal_at : {A : Type 0} → (A → Hearing) → (A → Option (List ℕ)) → (A → ℕ) → A → TerminalState
terminal_at hearing taken faults io = record { hearing = hearing io; taken = taken io; faults = faults io }

-- a sink took the line that says of the input that it is too large
abbrev pub SaysLarge : Option (List ℕ) → Option (List ℕ) → Type 0
SaysLarge printed printed_after = (earlier : List ℕ) × (printed_after ≡ append_known printed (earlier ++ refused_line input_name reason.TooLarge))

-- statuses with which a session never ends
abbrev pub IsNoSessionStatus : Status → Type 0
IsNoSessionStatus status.Diverged = Unit {0}
IsNoSessionStatus status.Usage = Unit {0}
IsNoSessionStatus status.Absent = Unit {0}
IsNoSessionStatus answer = ⊥

-- how many reads of an input failed by a session that ended so: one, exactly where it ended for that
abbrev pub heard_after : ℕ → Status → ℕ
heard_after count status.ReadFault = raised_count count
heard_after count answer = count

-- a session read an input, answered it, and ended with this status
pub record Converses {S : Type 0} (talker : Talker S) (old new : TerminalState) (answer : Status) : Type 0 where
  pub ended : WhenTold old.hearing.left (λ input. IsAnswerStatus answer → answer ≡ outcome_status (conversation_outcome talker input))
  pub text : WhenTold old.hearing.left (λ input. PrintsText answer (outcome_text (conversation_outcome talker input)) old.taken new.taken)
  pub input : WhenTold old.hearing.left (λ input. HasReadInput talker input new.hearing.left answer)
  pub turns : WhenTold old.hearing.asked (TakesTurns talker old.hearing new.hearing old.taken)
  pub answered : answer ≡ status.ReadFault → WhenTold old.hearing.left (λ input. HasAnsweredLines talker input new.hearing.left old.taken new.taken)
  pub other : IsNoSessionStatus answer → ⊥
  pub refused : answer ≡ status.Refused → SaysLarge old.taken new.taken
  pub reads : new.hearing.faults ≡ heard_after old.hearing.faults answer
  pub writes : new.faults ≡ failed_says_after old.faults answer
