use Rattle.std.proofs.Common.{◌≤◌, Option, Some, length, rules, subst}
use Rattle.group_order.specs.declared.merge.Head.{Head}
use Rattle.group_order.proofs.FirstHead.{IsFirstOf, whole}
use Rattle.group_order.proofs.merge.Merge.next_node.Goals as goal

pub returns-clause-next : goal.returns-clause-next
returns-clause-next c =
    let all : length c.args.self.now ≤ c.nodes.node = search rules in
    let leads = subst (λ (o : Option Head). IsFirstOf c.args.self.now c.nodes.node o) c.in_ok-first.was c.nodes.invariant in
    whole c.args.self.now c.nodes.node (Some c.in_ok-first.field-0) all leads
