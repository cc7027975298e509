use Rattle.std.proofs.Common.{map, ◌∙◌}
use Rattle.shell_points.specs.declared.point.Point.{Point as Held}
use Rattle.shell_points.specs.inside.Meanings.{point}
use Rattle.shell_points.proofs.PointReads.{breaks_same, reads_by}
use Rattle.shell_points.proofs.watching.Watching.begin.Goals as goal

pub returns : goal.returns
returns c =
    let e = c.in_ok-watches.ensures in
    record {
      expressions = e.expressions;
      stand = e.stand;
      values = c.in_ok-values.ensures
          ∙ reads_by c.args.group.now.start c.args.group.now.at (map {A = Held} point c.args.points.now) c.in_ok-watches.watches e.expressions e.stand;
      breaks = c.has_breaks.ensures ∙ breaks_same c.args.points.now;
    }
