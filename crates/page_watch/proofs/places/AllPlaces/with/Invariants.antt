use Rattle.std.proofs.Common.{◌≡◌, true, drop, take}
use Rattle.std.specs.List.{list_all}
use Rattle.watch_expr.specs.Reads.{is_low_place}
use Rattle.page_watch.specs.inside.Places.{AreUnion, is_in_order, places_in}
use Rattle.page_watch.proofs.places.AllPlaces.with.Given as goal

-- the places so far are added, and those to come are of globals with low numbers too
abbrev pub invariant-loop-place : goal.invariant-loop-place
invariant-loop-place l = record {
  order : list_all is_in_order l.nodes.items ≡ true;
  union : AreUnion (places_in l.nodes.items) (places_in l.initial.nodes.items) (take l.place-index l.places);
  low : list_all is_low_place (drop l.place-index l.places) ≡ true;
}
