use Rattle.std.proofs.Common.{◌≡◌, ℕ, List, Some, slice_get, ap, ◌∙◌}
use Rattle.group_state.specs.Place.{node_names}
use Rattle.friday_shell.proofs.ProcessNames.{named_more}
use Rattle.friday_shell.proofs.session.node_names.Goals as goal

pub loop-node-preserved : goal.loop-node-preserved
loop-node-preserved c =
    let names = node_names c.args.group.now.start in
    let there : Some c.in_ok-from_slice.field-0 ≡ slice_get names c.loop-node.node = ap (λ (x : List ℕ). Some x) c.in_ok-from_slice.ensures ∙ c.in-Some.ensures in
    named_more names c.loop-node.names.items c.push.new.self.items c.loop-node.node c.in_ok-from_slice.field-0 there c.loop-node.invariant c.in_ok-push.ensures.items
