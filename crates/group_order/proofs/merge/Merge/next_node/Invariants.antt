use Rattle.group_order.proofs.FirstHead.{IsFirstOf}
use Rattle.group_order.proofs.merge.Merge.next_node.Given as goal

abbrev pub invariant-nodes : goal.invariant-nodes
invariant-nodes l = IsFirstOf l.self l.node l.first
