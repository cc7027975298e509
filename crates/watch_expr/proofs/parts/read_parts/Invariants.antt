use Rattle.std.proofs.Common.{◌≡◌, map}
use Rattle.std.specs.List.{range_with_len}
use Rattle.expression_text.specs.Expression.{expression_of}
use Rattle.watch_expr.specs.Parts.{nth_part}
use Rattle.watch_expr.proofs.parts.read_parts.Given as goal

abbrev pub invariant-loop-n : goal.invariant-loop-n
invariant-loop-n g l = l.parts.items ≡ map (nth_part (g.V.View.nodes l.v) (expression_of l.e)) (range_with_len 0 l.n)
