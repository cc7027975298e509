-- What stays after a line.
use Rattle.std.proofs.Common.{◌≡◌, ◌∙◌, ℕ, List, Result, Ok, Err, ap}
use Rattle.std.specs.Prelude.{IfOk, OnOk}
use Rattle.shell_lines.specs.Lines.{LineCommand}
use Rattle.friday_shell.specs.Answer.{command_answer}
use Rattle.friday_shell.specs.Points.{SessionState}
use Rattle.friday_shell.specs.inside.Meanings.{PerformsCommand}
use Rattle.friday_shell.proofs.LogsStay.{kept_start}

-- a command that was done left the logs as they were
pub start_stays : {E : Type 0} (state : SessionState) (line : List ℕ) (command : LineCommand) (r : Result (List ℕ) E) (new : SessionState)
    → IfOk r (PerformsCommand (command_answer state line command) new) → OnOk r (new.place.start ≡ state.place.start)
start_stays state line command (Ok text) new did = ap (λ (s : SessionState). s.place.start) did.state ∙ kept_start state line command
start_stays state line command (Err e) new did = tt
