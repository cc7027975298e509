use Rattle.page_watch.proofs.MarkedPlaces.{IsUnmetBefore}
use Rattle.page_watch.proofs.touched.is_met.Given as goal

abbrev pub invariant-loop-place : goal.invariant-loop-place
invariant-loop-place g l = IsUnmetBefore (g.V.TouchView.marks l.v) l.at l.places l.place-index
