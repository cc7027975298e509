use Rattle.std.proofs.Common.{◌≤◌, ◌<◌, length, sym, ap, ◌∙◌, arith, rules, FitsSigned, w64}
use Rattle.expression_text.specs.declared.expr.Expr.{Expr}
use Rattle.expression_text.specs.Expression.{expression_of}
use Rattle.watch_expr.specs.Value.{setting_in_event, value_at}
use Rattle.watch_expr.proofs.ValueTallies.{ends_all, ends_none, goes_on}
use Rattle.watch_expr.proofs.value.+eval.Goals as goal

pub returns-in_err-a-in-Over : goal.returns-in_err-a-in-Over
returns-in_err-a-in-Over g t c =
    let s = setting_in_event (g.V.View.nodes c.args.v.now) (g.S.Scope.variables c.args.scope.now) c.args.event in
    let lt : c.loop-node.node < length s.nodes = omega (arith, c.node_count-node-end.ensures, c.loop-node-test.true) in
    c.from_residual-in_err-a-in-Over.ensures
    ∙ ends_none s (expression_of c.in-Over.x.value) (expression_of c.deref-in-loop-node.result.now) c.in-Over.agg c.args.each c.start-tally.result c.loop-node.tally c.loop-node.node c.start-tally.ensures c.loop-node.invariant lt (ap expression_of c.deref-in-loop-node.ensures) c.in_err-a-in-Over.ensures
    ∙ sym (ap (λ (y : Expr). value_at s c.args.each (expression_of y)) c.in-Over.is)

pub loop-node-preserved : goal.loop-node-preserved
loop-node-preserved g t c =
    let s = setting_in_event (g.V.View.nodes c.args.v.now) (g.S.Scope.variables c.args.scope.now) c.args.event in
    let lt : c.loop-node.node < length s.nodes = omega (arith, c.node_count-node-end.ensures, c.loop-node-test.true) in
    let fit : FitsSigned w64 c.in_ok-a-in-Over.a = search rules in
    goes_on s (expression_of c.in-Over.x.value) (expression_of c.deref-in-loop-node.result.now) c.start-tally.result c.loop-node.tally c.add-tally.result c.loop-node.node c.in_ok-a-in-Over.a c.loop-node.invariant lt fit (ap expression_of c.deref-in-loop-node.ensures) c.in_ok-a-in-Over.ensures c.add-tally.ensures

pub returns-after-loop-node : goal.returns-after-loop-node
returns-after-loop-node g t c =
    let s = setting_in_event (g.V.View.nodes c.args.v.now) (g.S.Scope.variables c.args.scope.now) c.args.event in
    let end : length s.nodes ≤ c.loop-node.node = omega (arith, c.node_count-node-end.ensures, c.loop-node-test.false) in
    c.total.ensures
    ∙ ends_all s (expression_of c.in-Over.x.value) c.in-Over.agg c.args.each c.start-tally.result c.loop-node.tally c.loop-node.node c.start-tally.ensures c.loop-node.invariant end
    ∙ sym (ap (λ (y : Expr). value_at s c.args.each (expression_of y)) c.in-Over.is)
