use Rattle.watch_expr.specs.Parts.{places_of_parts}
use Rattle.page_watch.specs.Touch.{meets}
use Rattle.page_watch.specs.inside.Watching.{watch_after_event}
use Rattle.page_watch.proofs.AskedWatches.{AreAsked}
use Rattle.page_watch.proofs.watches.ask_all.Given as goal

abbrev pub invariant-loop-n : goal.invariant-loop-n
invariant-loop-n g l =
    let marks = g.V.TouchView.marks l.v in
    let at = g.V.TouchView.at l.v in
    AreAsked (watch_after_event marks at (g.V.TouchView.states l.v at)) (λ w. meets marks at (places_of_parts w.parts)) l.fn.watches.items l.fn.steps l.n l.watches.items l.places l.steps
