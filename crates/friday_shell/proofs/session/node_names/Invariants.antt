use Rattle.std.proofs.Common.{◌≡◌, take}
use Rattle.group_state.specs.Place.{node_names}
use Rattle.friday_shell.proofs.session.node_names.Given as goal

abbrev pub invariant-loop-node : goal.invariant-loop-node
invariant-loop-node l = l.names.items ≡ take l.node (node_names l.group.start)
