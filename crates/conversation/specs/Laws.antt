-- What is so of all conversations.
use Rattle.std.specs.Prelude.{ℕ, List}
use Rattle.command_run.specs.declared.status.Status.TheVariants as status
use Rattle.conversation.specs.Conversing.{Converses, TerminalState}
use Rattle.conversation.specs.Talker.{Answered, talker_of}

-- a session that could not begin for want of memory, where nothing was printed and nothing was read, ended so
abbrev pub EndsUnbegun : {S : Type 0} → (S → List ℕ → Answered S) → Type 0
EndsUnbegun answer = (opening : List ℕ) (state : _) (terminal : TerminalState) → Converses (talker_of opening state answer) terminal terminal status.NoMemory
