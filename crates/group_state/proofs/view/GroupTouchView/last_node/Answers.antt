use Rattle.std.proofs.Common.{◌∙◌, ap}
use Rattle.std.specs.Prelude.{option_map}
use Rattle.lib_calls.specs.declared.entry.Entry.{Entry}
use Rattle.group_order.specs.Order.{NodeEvent}
use Rattle.group_state.proofs.GroupMarks.{last_mover}
use Rattle.group_state.proofs.view.GroupTouchView.last_node.Goals as goal

pub returns : goal.returns
returns c =
    λ some n is.
    ap (option_map (λ (x : NodeEvent Entry). x.node)) c.in_ok-event.ensures ∙ last_mover c.args.self.now.start c.args.self.now.at n some is

pub returns-in_err-event : goal.returns-in_err-event
returns-in_err-event c =
    λ some n is.
    c.from_residual.ensures ∙ ap (option_map (λ (x : NodeEvent Entry). x.node)) c.in_err-event.ensures ∙ last_mover c.args.self.now.start c.args.self.now.at n some is
