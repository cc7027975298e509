use Rattle.std.proofs.Common.{◌≡◌, ◌+◌, drop}
use Rattle.std.specs.Prelude.{sum_by}
use Rattle.group_record.specs.Run.{after_items}
use Rattle.play_command.specs.inside.Counts.{HasRoomToCount, counted_tries}
use Rattle.play_command.specs.inside.Playing.{IsUnderWay}
use Rattle.play_command.proofs.Reached.{ReachedFrom}
use Rattle.play_command.proofs.going.perform_all.Given as goal

abbrev pub invariant-loop-item : goal.invariant-loop-item
invariant-loop-item l = record {
  number : l.number ≡ l.item-index;
  under_way : IsUnderWay l.names l.live;
  counts : HasRoomToCount (sum_by counted_tries (drop l.item-index l.items)) l.told;
  reached : ReachedFrom l.names (λ group. after_items group 1 l.items) (λ group. after_items group (l.item-index + 1) (drop l.item-index l.items)) l.initial.live l.initial.told l.live l.told;
}
