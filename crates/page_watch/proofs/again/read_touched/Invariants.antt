use Rattle.std.specs.Prelude.{nat_eq}
use Rattle.expression_text.specs.Expression.{expression_of}
use Rattle.watch_expr.specs.Parts.{nth_part}
use Rattle.page_watch.proofs.TouchedParts.{AreReadAgain}
use Rattle.page_watch.proofs.again.read_touched.Given as goal

abbrev pub invariant-loop-n : goal.invariant-loop-n
invariant-loop-n g l =
    let V = g.V.TouchView in
    AreReadAgain (nth_part (V.states l.v (V.at l.v)) (expression_of l.expr)) (λ p. nat_eq (V.marks l.v p) (V.at l.v)) l.fn.parts.items l.fn.places l.n l.parts.items l.all l.touched
