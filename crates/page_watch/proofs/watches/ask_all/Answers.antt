use Rattle.std.proofs.Common.{◌-◌, ◌<◌, length, sym, arith}
use Rattle.watch_expr.specs.Parts.{places_of_parts}
use Rattle.page_watch.specs.Touch.{meets}
use Rattle.page_watch.specs.inside.Watching.{watch_after_event}
use Rattle.page_watch.proofs.AskedWatches.{one_more, stands_here}
use Rattle.page_watch.proofs.watches.ask_all.Goals as goal

pub ask-requires-clause-stands : goal.ask-requires-clause-stands
ask-requires-clause-stands g c =
    let V = g.V.TouchView in
    let v = c.args.v.now in
    let below : c.loop-n.n < length c.args.watches.items = omega (arith, c.len-n-end.ensures, c.loop-n-test.true) in
    stands_here (watch_after_event (V.marks v) (V.at v) (V.states v (V.at v))) (λ w. meets (V.marks v) (V.at v) (places_of_parts w.parts)) c.args.watches.items c.args.steps.now c.loop-n.n c.loop-n.watches.items c.loop-n.places
    c.loop-n.steps c.loop-n.invariant c.index_mut.result.now below (V.states v (V.at v - 1)) c.index_mut.result.now (sym c.index_mut.ensures.value) c.requires.stand

pub loop-n-preserved : goal.loop-n-preserved
loop-n-preserved g c =
    let V = g.V.TouchView in
    let v = c.args.v.now in
    let below : c.loop-n.n < length c.args.watches.items = omega (arith, c.len-n-end.ensures, c.loop-n-test.true) in
    let e = c.in_ok-places.ensures in
    one_more (watch_after_event (V.marks v) (V.at v) (V.states v (V.at v))) (λ w. meets (V.marks v) (V.at v) (places_of_parts w.parts)) c.args.watches.items c.args.steps.now c.loop-n.n c.loop-n.watches.items c.loop-n.places
    c.loop-n.steps c.loop-n.invariant c.index_mut.result.now below c.index_mut.result.now c.ask.new.self c.in_ok-places.places c.ask.new.steps (sym c.index_mut.ensures.value) e.watch e.all e.places
    e.steps
