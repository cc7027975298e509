use Rattle.std.proofs.Common.{◌∙◌, map, subst, sym, ap}
use Rattle.group_order.specs.Heads.{AreNoHeads, IsFirstNode}
use Rattle.group_state.specs.Place.{events_of_replays}
use Rattle.group_state.specs.inside.Turns.{head_of_replay}
use Rattle.group_state.proofs.AheadInOrder.{ends, goes, none_left, some_left}
use Rattle.group_state.proofs.group.Course.is_last.Goals as goal

pub returns-in-None : goal.returns-in-None
returns-in-None c =
    let g = c.args.self.now in
    let i = c.requires in
    sym (none_left (events_of_replays g.start.items) g.here.at
    (ends c.merges.ensures c.rises.ensures c.states_fit.ensures.ranges c.replays.ensures.turn g.start.items i.fits g.here.at
    (subst AreNoHeads (i.heads ∙ ap (map head_of_replay) i.here.replayers) c.in-None.ensures.next)))

pub returns-in-Some : goal.returns-in-Some
returns-in-Some c =
    let g = c.args.self.now in
    let i = c.requires in
    let ahead = goes c.merges.ensures c.rises.ensures c.states_fit.ensures.ranges c.replays.ensures.turn g.start.items i.fits g.here.at c.in-Some.field-0
    (subst (λ h. IsFirstNode h c.in-Some.field-0) (i.heads ∙ ap (map head_of_replay) i.here.replayers) c.in-Some.ensures.next) in
    sym (some_left (events_of_replays g.start.items) g.here.at ahead.within)
