use Rattle.std.proofs.Common.{◌<◌, ◌∙◌, length, get_or, take, ap, arith}
use Rattle.group_state.specs.Place.{events_of_replays}
use Rattle.group_state.specs.Report.{verdict_on}
use Rattle.group_state.proofs.VerdictsAtEnd.{none_said, said_at, told}
use Rattle.group_state.proofs.group.Course.verdict.Goals as goal

pub returns-in_err-replayer : goal.returns-in_err-replayer
returns-in_err-replayer c =
    let g = c.args.self.now in
    let past = c.in_err-replayer.ensures.lookup.3 in
    let none = none_said g.start.items g.here.replayers.items (take g.here.at (events_of_replays g.start.items)) c.args.node c.requires.sound.here.replayers (omega (arith, past, c.deref.ensures.len)) in
    (rw c.from_residual.ensures none)

pub verdict-requires : goal.verdict-requires
verdict-requires c =
    let g = c.args.self.now in
    let i = c.requires.sound in
    let lookup = c.in_ok-replayer.ensures.lookup in
    let replayer = c.in_ok-replayer.replayer.now in
    let within : c.args.node < length g.here.replayers.items = omega (arith, lookup.3.0, ap length c.deref.ensures.value) in
    let ended = c.requires.end in
    let t = told c.merges.ensures c.rises.ensures c.states_fit.ensures.ranges g.start.items i.fits c.replays.ensures.course i.replayers g.here.at g.here.replayers.items c.args.node replayer
    ended i.here.replayers within (lookup.1 ∙ ap (λ rs. get_or rs c.args.node replayer) c.deref.ensures.value) in
    (verdict_on t.first, t.tells)

pub returns : goal.returns
returns c =
    let g = c.args.self.now in
    let i = c.requires.sound in
    let lookup = c.in_ok-replayer.ensures.lookup in
    let replayer = c.in_ok-replayer.replayer.now in
    let within : c.args.node < length g.here.replayers.items = omega (arith, lookup.3.0, ap length c.deref.ensures.value) in
    let ended = c.requires.end in
    let t = told c.merges.ensures c.rises.ensures c.states_fit.ensures.ranges g.start.items i.fits c.replays.ensures.course i.replayers g.here.at g.here.replayers.items c.args.node replayer
    ended i.here.replayers within (lookup.1 ∙ ap (λ rs. get_or rs c.args.node replayer) c.deref.ensures.value) in
    (said_at g.start.items c.args.node replayer c.verdict.result t c.verdict.ensures)
