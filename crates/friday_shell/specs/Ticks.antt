-- How often the lines of a session evaluate watchpoints.
use Rattle.std.specs.Prelude.{ℕ, ◌-◌, List}
use Rattle.group_state.specs.Touch.{watch_ticks}
use Rattle.shell_lines.specs.Lines.{Continue, LineCommand, Rcontinue}
use Rattle.shell_lines.specs.Meaning.{Does, LineMeaning, line_meaning}
use Rattle.shell_points.specs.Watching.{watched_expressions}
use Rattle.group_state.specs.Place.{node_names}
use Rattle.friday_shell.specs.Points.{SessionState}

-- A command that ends at position `to`: `continue` does from where the session is to there, `rcontinue` over the positions
-- from 0 to the one before where the session is, and no other does.
abbrev pub command_ticks : SessionState → LineCommand → ℕ → ℕ
command_ticks state (Continue most) to = watch_ticks state.place.start (watched_expressions state.points) state.place.at (to - state.place.at)
command_ticks state Rcontinue to = watch_ticks state.place.start (watched_expressions state.points) 0 (state.place.at - 1)
command_ticks state _ to = 0

abbrev pub meaning_ticks : SessionState → LineMeaning → ℕ → ℕ
meaning_ticks state (Does command) to = command_ticks state command to
meaning_ticks state _ to = 0

-- a line after which the session is at position `to`
abbrev pub line_ticks : SessionState → List ℕ → ℕ → ℕ
line_ticks state line to = meaning_ticks state (line_meaning (node_names state.place.start) line) to
