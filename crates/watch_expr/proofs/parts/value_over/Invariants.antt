use Rattle.watch_expr.proofs.PartValues.{IsTalliedTo}
use Rattle.watch_expr.proofs.parts.value_over.Given as goal

abbrev pub invariant-loop-part : goal.invariant-loop-part
invariant-loop-part l = IsTalliedTo l.fn.agg l.parts l.tally l.part-index
