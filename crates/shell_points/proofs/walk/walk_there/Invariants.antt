use Rattle.std.proofs.Common.{◌≡◌, ◌+◌, ◌-◌, ◌≤◌, length, map}
use Rattle.group_state.specs.Place.{events_of_replays}
use Rattle.group_state.specs.Touch.{watch_ticks}
use Rattle.shell_points.specs.declared.point.Point.{Point as Held}
use Rattle.shell_points.specs.inside.Meanings.{point}
use Rattle.shell_points.specs.Walking.{lines_in, most_walk_lines}
use Rattle.shell_points.specs.inside.Watches.{IsWatching}
use Rattle.shell_points.specs.Watching.{watched_expressions}
use Rattle.shell_points.proofs.PointWalks.{IsAhead}
use Rattle.shell_points.proofs.walk.walk_there.Given as goal

-- the walk from here on, after what it made and said so far, is the whole
abbrev pub invariant-positions : goal.invariant-positions
invariant-positions g l = record {
  start : l.group.start ≡ l.fn.group.start;
  within : l.group.at ≤ length (events_of_replays l.fn.group.start);
  after : l.fn.group.at ≤ l.group.at;
  read : IsWatching l.fn.group.start l.group.at (map {A = Held} point l.points) l.watching;
  few : l.room + lines_in l.text ≡ most_walk_lines;
  ahead : IsAhead l.fn.group (map {A = Held} point l.points) l.fn.variables l.fn.most l.group.at l.left l.variables l.text;
  ticks : l.steps ≡ l.fn.steps + watch_ticks l.fn.group.start (watched_expressions (map {A = Held} point l.points)) l.fn.group.at (l.group.at - l.fn.group.at);
}

abbrev pub decreases-positions : goal.decreases-positions
decreases-positions g l = length (events_of_replays l.fn.group.start) - l.group.at
