use Rattle.expression_text.specs.Expression.{expression_of}
use Rattle.watch_expr.specs.Value.{setting_in_event}
use Rattle.watch_expr.proofs.ValueTallies.{IsOnTheWay}
use Rattle.watch_expr.proofs.value.+eval.Given as goal

abbrev pub decreases-eval_at : goal.decreases-eval_at
decreases-eval_at g l = goal.size-eval_at g l

abbrev pub invariant-loop-node : goal.invariant-loop-node
invariant-loop-node g l =
    IsOnTheWay (setting_in_event (g.V.View.nodes l.v) (g.S.Scope.variables l.scope) l.event) (expression_of l.x.value) l.initial.tally l.tally l.node
