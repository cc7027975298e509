use Rattle.std.proofs.Common.{◌∙◌, ap}
use Rattle.group_order.specs.Motions.{position_of}
use Rattle.group_state.proofs.GroupMarks.{position_told}
use Rattle.group_state.proofs.group.Course.position_of.Goals as goal

pub returns : goal.returns
returns c =
    let g = c.args.self.now in
    let i = c.requires in
    (λ S l here own is.
    c.position.ensures ∙ ap (position_of g.motions c.args.node) is
    ∙ position_told c.stepwise.ensures.steps c.rises.ensures c.states_fit.ensures.ranges c.unmarked_stays.ensures g.start.items i.replayers i.fits
    g.here.at c.args.node g.motions S l i.moved i.been here own)
