-- What is so of drills of any number of rounds.
use Rattle.std.specs.Prelude.{◌≡◌, ◌≤◌, ℕ, None}
use Rattle.schedule_text.specs.Limits.{most_rounds}
use Rattle.drill_command.specs.Drill.{drill_run}

-- no log is full, so the run is that of all items
abbrev pub FillsNoLog : Type 0
FillsNoLog = (rounds : ℕ) → rounds ≤ most_rounds → (drill_run rounds).full ≡ None
