use Rattle.std.proofs.Common.{◌<◌, ◌++◌, List, length, sym, ap, ◌∙◌, arith}
use Rattle.expression_text.specs.Expression.{Expression}
use Rattle.shell_points.specs.inside.Meanings.{point}
use Rattle.shell_points.specs.Watching.{expressions_of}
use Rattle.shell_points.proofs.PointReads.{watched_next}
use Rattle.shell_points.proofs.watching.watch_all.Goals as goal

pub loop-point-preserved : goal.loop-point-preserved
loop-point-preserved g c =
    let e = c.in_ok-watches.ensures in
    let i = c.loop-point.invariant in
    let p = c.point-item.result in
    let below : c.loop-point.point-index < length c.args.points.now = omega arith in
    record {
      expressions = e.expressions ∙ ap (λ (xs : List Expression). xs ++ expressions_of (point p)) i.expressions ∙ sym (watched_next c.args.points.now c.loop-point.point-index p below (sym c.point-item.is));
      stand = e.stand i.stand;
    }
