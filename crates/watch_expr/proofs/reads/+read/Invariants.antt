use Rattle.expression_text.specs.Expression.{expression_of}
use Rattle.watch_expr.specs.Reads.{no_variables}
use Rattle.watch_expr.specs.Value.{expression_setting}
use Rattle.watch_expr.proofs.ReadTallies.{IsReadOnTheWay, so_far}
use Rattle.watch_expr.proofs.reads.+read.Given as goal

abbrev pub decreases-read : goal.decreases-read
decreases-read g l = goal.size-read g l

abbrev pub invariant-loop-node : goal.invariant-loop-node
invariant-loop-node g l =
    IsReadOnTheWay (expression_setting (g.V.View.nodes l.v) no_variables) (expression_of l.x.value) (so_far l.initial.tally l.initial.places.items)
    (so_far l.tally l.places.items) l.node
