-- The outcome of a conversation over an input.
use Rattle.std.specs.Prelude.{ℕ, ◌&&◌, Bool, false, not, nat_lt, List, [], length, codes, Ok, Err, if◌then◌else◌}
use Rattle.fri_text.specs.Line.{lines_of}
use Rattle.command_run.specs.declared.refusal.Reason.TheVariants as reason
use Rattle.command_run.specs.Outcome.{CommandOutcome, Refuses, CommandWork}
use Rattle.conversation.specs.Limits.{most_input}
use Rattle.conversation.specs.Lines.{early_lines}
use Rattle.conversation.specs.Talker.{Talker, ends_session, spoken_text}

-- what a refusal calls the input
abbrev pub input_name : List ℕ
input_name = codes "input"

-- there are more bytes than may be read before a line ends the session, and none did
abbrev pub is_large_input : {S : Type 0} → Talker S → List ℕ → Bool
is_large_input talker input = nat_lt most_input (length input) && not (ends_session talker (early_lines input))

-- a session prints this, and makes no file
abbrev pub spoken_work : List ℕ → CommandWork
spoken_work text = record { text = text; writes = []; diverged = false }

-- the outcome of a session of which this is the input
abbrev pub conversation_outcome : {S : Type 0} → Talker S → List ℕ → CommandOutcome
conversation_outcome talker input =
    if is_large_input talker input then Err (Refuses input_name reason.TooLarge (spoken_work (spoken_text talker (early_lines input))))
    else Ok (spoken_work (spoken_text talker (lines_of input)))
