use Rattle.std.proofs.Common.{List, [], ◌∷◌, sym, ap, ◌∙◌, subst}
use Rattle.std.proofs.lemmas.List.Elements.{All-append}
use Rattle.std.specs.Prelude.{All}
use Rattle.std.specs.List.{list_any}
use Rattle.page_watch.specs.Watched.{WatchStands, Watched}
use Rattle.page_watch.specs.inside.Places.{places_of}
use Rattle.page_watch.proofs.AskedWatches.{All-one, covers_more}
use Rattle.page_watch.proofs.watches.Watches.with.Goals as goal

pub invariant_of-result : goal.invariant_of-result
invariant_of-result g c p none =
    ap (λ (ws : List Watched). list_any p (places_of ws)) c.in_ok-push.ensures.items
    ∙ covers_more c.self.inside.places c.in_ok-watch.places c.self.inside.watches.items c.in_ok-watch.watch c.in_ok-watch.ensures.all c.in_ok-watch.ensures.places c.self.invariant p none

pub returns-clause-stand : goal.returns-clause-stand
returns-clause-stand g c stand =
    let nodes = g.V.TouchView.states c.args.v.now (g.V.TouchView.at c.args.v.now) in
    let before = subst (λ (ws : List Watched). All (λ (w : Watched). WatchStands w nodes) ws) (sym c.self.view_is) stand in
    subst (λ (ws : List Watched). All (λ (w : Watched). WatchStands w nodes) ws) (sym c.in_ok-push.ensures.items)
    (All-append (λ (w : Watched). WatchStands w nodes) c.self.inside.watches.items (c.in_ok-watch.watch ∷ []) before (All-one nodes c.in_ok-watch.watch c.in_ok-watch.ensures.stands))
