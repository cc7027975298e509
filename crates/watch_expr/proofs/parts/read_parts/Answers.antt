use Rattle.std.proofs.Common.{arith}
use Rattle.expression_text.specs.Expression.{expression_of}
use Rattle.watch_expr.specs.Parts.{nth_part}
use Rattle.watch_expr.proofs.PartValues.{one_more, so_many}
use Rattle.watch_expr.proofs.parts.read_parts.Goals as goal

pub loop-n-preserved : goal.loop-n-preserved
loop-n-preserved g c =
    one_more (nth_part (g.V.View.nodes c.args.v.now) (expression_of c.args.e.now)) c.loop-n.n c.loop-n.parts.items c.push.new.self.items c.in_ok-part.part c.loop-n.invariant c.in_ok-part.ensures
    c.in_ok-push.ensures.items

pub returns-clause-few : goal.returns-clause-few
returns-clause-few g c =
    omega (arith, so_many (nth_part (g.V.View.nodes c.args.v.now) (expression_of c.args.e.now)) c.loop-n.n c.loop-n.parts.items c.loop-n.invariant)
