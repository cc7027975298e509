use Rattle.std.proofs.Common.{◌≡◌, ◌<◌, ◌∷◌, [], List, length, slice_get, true, refl, sym, ap, ◌∙◌, arith}
use Rattle.std.specs.Prelude.{option_map, slice_set}
use Rattle.std.specs.List.{list_all}
use Rattle.page_watch.specs.declared.places.NodePlaces.{NodePlaces}
use Rattle.page_watch.specs.inside.Places.{AddsPlace, AreUnion, is_in_order, places_in}
use Rattle.page_watch.specs.Touch.{node_of}
use Rattle.page_watch.proofs.AddedPlaces.{node_at, on_ok, set_order, set_union}
use Rattle.page_watch.proofs.places.add.Goals as goal

pub returns-in-Some-clause-order : goal.returns-in-Some-clause-order
returns-in-Some-clause-order c =
    let nodes = c.args.nodes.now.items in
    let k = c.in-Some.n in
    let n = c.index_mut.result.now in
    let new : NodePlaces = record { node = n.node; places = c.add_to.new.places } in
    let below : k < length nodes = omega (arith, c.in-Some.ensures.within, ap (λ (ns : List NodePlaces). length ns) c.deref.ensures.value) in
    let own : n.node ≡ node_of c.args.place =
    node_at nodes k n c.node_of-node.result below (sym c.index_mut.ensures.value)
    (sym (ap (λ (ns : List NodePlaces). option_map (λ (p : NodePlaces). p.node) (slice_get ns k)) c.deref.ensures.value) ∙ c.in-Some.ensures.node)
    ∙ c.node_of-node.ensures in
    on_ok c.add_to.result (AddsPlace n.places.items new.places.items c.args.place) (list_all is_in_order (slice_set nodes k new) ≡ true)
    (λ adds. set_order nodes k n new c.args.place below (sym c.index_mut.ensures.value) own refl adds c.requires.low c.requires.order) c.add_to.ensures

pub returns-in-Some-clause-union : goal.returns-in-Some-clause-union
returns-in-Some-clause-union c =
    let nodes = c.args.nodes.now.items in
    let k = c.in-Some.n in
    let n = c.index_mut.result.now in
    let new : NodePlaces = record { node = n.node; places = c.add_to.new.places } in
    let below : k < length nodes = omega (arith, c.in-Some.ensures.within, ap (λ (ns : List NodePlaces). length ns) c.deref.ensures.value) in
    on_ok c.add_to.result (AddsPlace n.places.items new.places.items c.args.place) (AreUnion (places_in (slice_set nodes k new)) (places_in nodes) (c.args.place ∷ []))
    (λ adds. set_union nodes k n new c.args.place below (sym c.index_mut.ensures.value) adds) c.add_to.ensures
