use Rattle.std.proofs.Common.{◌-◌, rules}
use Rattle.group_state.proofs.GroupSteps.{turned}
use Rattle.group_state.proofs.forward.take_turn.Goals as goal

pub returns : goal.returns
returns c =
    turned c.args.replayers.now.items c.args.node (c.len-last.result - 1) c.swap_remove-replayer.result c.in_ok-replayer.replayer c.swap_remove-replayer.new.self.items c.push.new.self.items
    c.swap.new.self.items c.requires (search rules) c.swap_remove-replayer.ensures.value c.swap_remove-replayer.ensures.items c.in_ok-push.ensures.items c.swap.ensures.items c.in_ok-replayer.ensures.after
