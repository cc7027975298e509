use Rattle.std.proofs.Common.{◌∙◌, map, ap}
use Rattle.group_state.proofs.AheadInOrder.{states_at}
use Rattle.group_state.proofs.GroupMarks.{sound_at, tells}
use Rattle.group_state.proofs.view.GroupTouchView.position.Goals as goal

pub returns-clause-tells : goal.returns-clause-tells
returns-clause-tells c =
    let g = c.course.result.now in
    let i = c.course.ensures.sound in
    let states = ap (map (λ r. r.state)) i.here.replayers
    ∙ states_at c.merges.ensures c.rises.ensures c.states_fit.ensures.ranges c.replays.ensures.turn g.start.items i.fits g.here.at c.replays.ensures.course i.replayers.fresh in
    rw (← c.course.ensures.place)
    (tells c.stepwise.ensures.steps c.rises.ensures c.states_fit.ensures.ranges c.unmarked_stays.ensures g.start.items i.replayers i.fits g.here.at i.here.within
    (sound_at g.start.items g.here.replayers.items g.here.at i.here.sound states))
