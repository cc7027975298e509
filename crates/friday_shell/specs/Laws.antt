-- What holds of the lines of a session, whatever they are.
use Rattle.std.specs.Prelude.{◌≡◌, ℕ, false, List}
use Rattle.proc_replay.specs.Replaying.{Replaying}
use Rattle.shell_lines.specs.Refusals.{refusal_line}
use Rattle.shell_lines.specs.declared.refusal.LineRefusal.{LineRefusal}
use Rattle.friday_shell.specs.Answer.{answer}
use Rattle.friday_shell.specs.Points.{SessionState}
use Rattle.friday_shell.specs.SameGroup.{SameAnswer, SameGroup, SameSession}

-- A line whose answer is the line of a refusal leaves the session as it was, and does not end it.
abbrev pub RefusedStays : Type 0
RefusedStays = (state : SessionState) (line : List ℕ) (why : LineRefusal) → (answer state line).text ≡ refusal_line why
    → ((answer state line).state ≡ state) × ((answer state line).quits ≡ false)

-- Of its replays a session sees the names of the nodes, their events in order and the states at each position, and nothing else.
-- Where these are the same it answers every line the same.
abbrev pub SameGroupSameSession : Type 0
SameGroupSameSession = (a b : List Replaying) → SameGroup a b → (s t : SessionState) → SameSession a b s t → (line : List ℕ)
    → SameAnswer a b (answer s line) (answer t line)
