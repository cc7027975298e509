use Rattle.std.proofs.Common.{rules, ◌<◌, ◌≤◌, length, sym, ap, ◌∙◌, arith, Some, FitsSigned, w64}
use Rattle.std.specs.Prelude.{IfSome}
use Rattle.expression_text.specs.declared.expr.Expr.{Expr}
use Rattle.expression_text.specs.Expression.{expression_of}
use Rattle.watch_expr.specs.Reads.{no_variables}
use Rattle.watch_expr.specs.Value.{expression_setting, value_at}
use Rattle.watch_expr.proofs.ReadTallies.{reads_on, reads_whole}
use Rattle.watch_expr.proofs.reads.+read.Goals as goal

pub loop-node-preserved : goal.loop-node-preserved
loop-node-preserved g t c =
    let s = expression_setting (g.V.View.nodes c.args.v.now) no_variables in
    let lt : c.loop-node.node < length s.nodes = omega (arith, c.node_count-node-end.ensures, c.loop-node-test.true) in
    let fits : IfSome c.in_ok-a-in-Over.a (FitsSigned w64) = search rules in
    reads_on s (expression_of c.in-Over.x.value) (expression_of c.deref-in-loop-node.result.now) (Some c.start.result) c.loop-node.tally c.add_if-tally.result c.args.places.now.items c.loop-node.places.items c.read-in-loop-node.new.places.items c.loop-node.node c.in_ok-a-in-Over.a c.loop-node.invariant lt fits (ap expression_of c.deref-in-loop-node.ensures) c.in_ok-a-in-Over.ensures.value c.in_ok-a-in-Over.ensures.places c.add_if-tally.ensures

pub returns-after-loop-node-clause-value : goal.returns-after-loop-node-clause-value
returns-after-loop-node-clause-value g t c =
    let s = expression_setting (g.V.View.nodes c.args.v.now) no_variables in
    let end : length s.nodes ≤ c.loop-node.node = omega (arith, c.node_count-node-end.ensures, c.loop-node-test.false) in
    let whole = reads_whole s (expression_of c.in-Over.x.value) c.in-Over.agg c.args.each (Some c.start.result) c.loop-node.tally c.args.places.now.items c.loop-node.places.items c.loop-node.node (ap Some c.start.ensures) c.loop-node.invariant end in
    c.total_of.ensures ∙ whole.value ∙ sym (ap (λ (y : Expr). value_at s c.args.each (expression_of y)) c.in-Over.is)
