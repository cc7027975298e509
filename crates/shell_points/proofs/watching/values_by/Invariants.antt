use Rattle.shell_points.proofs.PointReads.{AreDealt}
use Rattle.shell_points.proofs.watching.values_by.Given as goal

abbrev pub invariant-loop-point : goal.invariant-loop-point
invariant-loop-point l = AreDealt l.points l.watches l.point-index l.n l.values.items
