use Rattle.page_watch.proofs.OneNode.{IsUnmetBelow}
use Rattle.page_watch.proofs.places.is_met_at.Given as goal

abbrev pub invariant-loop-of_node : goal.invariant-loop-of_node
invariant-loop-of_node g l = IsUnmetBelow (g.V.TouchView.marks l.v) l.at l.nodes l.of_node-index
