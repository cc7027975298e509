use Rattle.expression_text.specs.Expression.{expression_of}
use Rattle.watch_expr.specs.Reads.{no_variables}
use Rattle.watch_expr.specs.Value.{expression_setting}
use Rattle.watch_expr.proofs.LowReads.{low_read}
use Rattle.watch_expr.proofs.parts.read_part.Goals as goal

pub invariant_of-result : goal.invariant_of-result
invariant_of-result g c =
    low_read (expression_setting (g.V.View.nodes c.args.v.now) no_variables) c.node_of_part.result (expression_of c.body_of_parts.result.now) c.new-places.result.items c.read.new.places.items
    c.new-places.ensures.items c.in_ok-value.ensures.places
