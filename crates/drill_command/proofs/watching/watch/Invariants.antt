use Rattle.std.proofs.Common.{◌≡◌, ◌-◌, length}
use Rattle.group_state.specs.Place.{events_of_replays}
use Rattle.expression_text.specs.Expression.{expression_of}
use Rattle.drill_command.specs.Drill.{drill_watch}
use Rattle.drill_command.proofs.PositionWalk.{WalkedTo}
use Rattle.drill_command.proofs.watching.watch.Given as goal

abbrev pub invariant-positions : goal.invariant-positions
invariant-positions l = WalkedTo l.fn.group l.here l.firings l.last × (expression_of l.watchpoint ≡ drill_watch)

abbrev pub decreases-positions : goal.decreases-positions
decreases-positions l = length (events_of_replays l.fn.group.start) - l.here.at
