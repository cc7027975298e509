use Rattle.std.proofs.Common.{◌≡◌, ◌+◌, ◌-◌, ◌≤◌, map, suc}
use Rattle.group_state.specs.Touch.{watch_ticks}
use Rattle.shell_points.specs.declared.point.Point.{Point as Held}
use Rattle.shell_points.specs.Firing.{place_at}
use Rattle.shell_points.specs.Returning.{return_from}
use Rattle.shell_points.specs.inside.Meanings.{point, return_of}
use Rattle.shell_points.specs.inside.Watches.{IsWatching}
use Rattle.shell_points.specs.Watching.{watched_expressions}
use Rattle.shell_points.proofs.back.last_firing.Given as goal

-- up to here points fired last where is kept
abbrev pub invariant-positions : goal.invariant-positions
invariant-positions g l = record {
  start : l.group.start ≡ l.fn.group.start;
  within : l.group.at ≤ l.count;
  read : IsWatching l.fn.group.start l.group.at (map {A = Held} point l.points) l.watching;
  last : return_of l.last ≡ return_from (place_at l.fn.group.start (suc l.group.at)) (map {A = Held} point l.points);
  ticks : l.steps ≡ l.fn.steps + watch_ticks l.fn.group.start (watched_expressions (map {A = Held} point l.points)) 0 l.group.at;
}

abbrev pub decreases-positions : goal.decreases-positions
decreases-positions g l = l.count - l.group.at
