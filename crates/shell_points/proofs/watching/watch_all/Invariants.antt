use Rattle.std.proofs.Common.{◌≡◌, map, take}
use Rattle.std.specs.Prelude.{All}
use Rattle.group_state.specs.Nodes.{nodes_at}
use Rattle.page_watch.specs.Watched.{WatchStands, Watched}
use Rattle.shell_points.specs.declared.point.Point.{Point as Held}
use Rattle.shell_points.specs.inside.Meanings.{point}
use Rattle.shell_points.specs.Watching.{watched_expressions}
use Rattle.shell_points.proofs.watching.watch_all.Given as goal

abbrev pub invariant-loop-point : goal.invariant-loop-point
invariant-loop-point g l = record {
  expressions : map (λ (w : Watched). w.expression) l.watches ≡ watched_expressions (map {A = Held} point (take l.point-index l.points));
  stand : All (λ w. WatchStands w (nodes_at l.group)) l.watches;
}
