use Rattle.page_watch.proofs.TouchedParts.{AreHeld}
use Rattle.page_watch.proofs.again.places_with.Given as goal

abbrev pub invariant-loop-part : goal.invariant-loop-part
invariant-loop-part l = AreHeld l.parts l.fn.places l.all l.part-index
