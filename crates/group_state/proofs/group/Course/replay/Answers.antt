use Rattle.std.proofs.Common.{◌∙◌, ◌<◌, map, length, get_or, ap, refl, arith}
use Rattle.group_state.specs.Place.{states_of_nodes}
use Rattle.group_state.proofs.AheadInOrder.{no_state_at, state_at, states_at}
use Rattle.group_state.proofs.group.Course.replay.Goals as goal

pub returns-in_err-replayer : goal.returns-in_err-replayer
returns-in_err-replayer c =
    let g = c.args.self.now in
    let at = ap (map (λ r. r.state)) c.requires.here.replayers
    ∙ states_at c.merges.ensures c.rises.ensures c.states_fit.ensures.ranges c.replays.ensures.turn g.start.items c.requires.fits g.here.at c.replays.ensures.course c.requires.replayers.fresh in
    let past = c.in_err-replayer.ensures.lookup.3 in
    (rw c.from_residual.ensures (no_state_at g.here.replayers.items (states_of_nodes g.start.items g.here.at) c.args.node at (omega (arith, past, c.deref.ensures.len))))

pub returns : goal.returns
returns c =
    let g = c.args.self.now in
    let at = ap (map (λ r. r.state)) c.requires.here.replayers
    ∙ states_at c.merges.ensures c.rises.ensures c.states_fit.ensures.ranges c.replays.ensures.turn g.start.items c.requires.fits g.here.at c.replays.ensures.course c.requires.replayers.fresh in
    let lookup = c.in_ok-replayer.ensures.lookup in
    let replayer = c.in_ok-replayer.replayer.now in
    let within : c.args.node < length g.here.replayers.items = omega (arith, lookup.3.0, ap length c.deref.ensures.value) in
    (state_at g.here.replayers.items (states_of_nodes g.start.items g.here.at) c.args.node replayer replayer.state at within (lookup.1 ∙ ap (λ rs. get_or rs c.args.node replayer) c.deref.ensures.value) refl)
