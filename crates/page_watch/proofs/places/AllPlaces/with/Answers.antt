use Rattle.std.proofs.Common.{◌<◌, length, arith}
use Rattle.page_watch.specs.inside.Places.{places_in}
use Rattle.page_watch.proofs.AddedPlaces.{low_behind, union_more}
use Rattle.page_watch.proofs.places.AllPlaces.with.Goals as goal

pub loop-place-preserved : goal.loop-place-preserved
loop-place-preserved c =
    let i = c.loop-place.invariant in
    let below : c.loop-place.place-index < length c.args.places.now = omega arith in
    record {
      order = c.in_ok-add.ensures.order;
      union = union_more c.args.places.now c.loop-place.place-index _ (places_in c.add.new.nodes.items) (places_in c.loop-place.nodes.items)
          (places_in c.self.inside.nodes.items) below c.in_ok-add.ensures.union i.union;
      low = low_behind c.args.places.now c.loop-place.place-index i.low;
    }
