-- Places of several watches, by node.
use Rattle.std.specs.Prelude.{◌≡◌, ◌==◌, ◌&&◌, ◌||◌, ◌⊎◌, Bool, false, List, [], ◌∷◌, ◌++◌}
use Rattle.std.specs.List.{flat_map, list_all, list_any}
use Rattle.watch_expr.specs.declared.reads.Place.{Place}
use Rattle.watch_expr.specs.Parts.{places_of_parts}
use Rattle.watch_expr.specs.Reads.{is_low_place}
use Rattle.page_watch.specs.declared.places.NodePlaces.{NodePlaces}
use Rattle.page_watch.specs.Touch.{node_of}
use Rattle.page_watch.specs.Watched.{Watched}

-- all places of these nodes
abbrev pub places_in : List NodePlaces → List Place
places_in nodes = flat_map (λ n. n.places.items) nodes

-- they are of the node, and of globals with a number below 2^32 at most
abbrev pub is_in_order : NodePlaces → Bool
is_in_order n = list_all (λ l. is_low_place l && node_of l == n.node) n.places.items

-- the places of the one and of the other, and no more
abbrev pub AreUnion : List Place → List Place → List Place → Type 0
AreUnion all some others = (p : Place → Bool) → list_any p all ≡ (list_any p some || list_any p others)

-- all places of these watches
abbrev pub places_of : List Watched → List Place
places_of watches = flat_map (λ w. places_of_parts w.parts) watches

-- every place of the others is among these
abbrev pub CoversPlaces : List Place → List Place → Type 0
CoversPlaces all some = (p : Place → Bool) → list_any p all ≡ false → list_any p some ≡ false

-- the place is there, or comes after the others
abbrev pub AddsPlace : List Place → List Place → Place → Type 0
AddsPlace old new place = (new ≡ old ++ place ∷ []) ⊎ ((new ≡ old) × CoversPlaces old (place ∷ []))
