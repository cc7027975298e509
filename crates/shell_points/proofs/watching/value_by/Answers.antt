use Rattle.shell_points.proofs.PointReads.{dealt_next}
use Rattle.shell_points.proofs.watching.value_by.Goals as goal

pub returns-in-Watch-clause-value : goal.returns-in-Watch-clause-value
returns-in-Watch-clause-value c = dealt_next c.args.point.now.trigger _ c.in-Watch.is c.args.watches.now c.args.n c.value.result c.value.ensures
