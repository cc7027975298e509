use Rattle.std.proofs.Common.{◌∙◌, ℕ, ◌+◌, Bool, Some, ap, drop, subst, sym, add-one}
use Rattle.group_record.specs.Run.{GroupStart, RunProgress, after_item, after_items}
use Rattle.play_command.specs.inside.Playing.{GoesOnBy, StopsAtItem}
use Rattle.play_command.proofs.CountRoom.{room_first, room_next}
use Rattle.play_command.proofs.ItemsDone.{items-none, items-one, items_stop}
use Rattle.play_command.proofs.Reached.{reached_end, reached_item, reached_next, still_under_way}
use Rattle.play_command.proofs.going.perform_all.Goals as goal

pub perform-requires-clause-counts : goal.perform-requires-clause-counts
perform-requires-clause-counts c = room_first c.args.items.now c.loop-item.item-index c.item-item.result c.loop-item.told c.loop-item-test.true c.item-item.is c.loop-item.invariant.counts

pub returns-then-branch : goal.returns-then-branch
returns-then-branch c =
    let items = c.args.items.now in
    let i = c.loop-item.item-index in
    let this = c.item-item.result in
    let next : GroupStart → RunProgress → RunProgress = λ group. after_item group (i + 1) this in
    subst (λ (n : ℕ). StopsAtItem c.args.names.now (λ group. after_items group 1 items) c.args.live.now c.args.told.now c.perform.new.live c.perform.new.told (Some n)) (ap (λ (n : ℕ). n + 1) (sym c.loop-item.invariant.number))
    (reached_item c.args.names.now (λ group. after_items group 1 items) (λ group. after_items group (i + 1) (drop i items)) (i + 1) this c.args.live.now c.loop-item.live c.perform.new.live
    c.args.told.now c.loop-item.told c.perform.new.told c.loop-item.invariant.reached
    (subst (λ (full : Bool). GoesOnBy c.args.names.now next c.loop-item.live c.loop-item.told c.perform.new.live c.perform.new.told full) c.if-branch.true (c.in_ok-perform.ensures.goes (i + 1)))
    (λ group done full. items_stop group (i + 1) items i this done c.loop-item-test.true c.item-item.is full))

pub loop-item-preserved : goal.loop-item-preserved
loop-item-preserved c =
    let items = c.args.items.now in
    let i = c.loop-item.item-index in
    let this = c.item-item.result in
    let next : GroupStart → RunProgress → RunProgress = λ group. after_item group (i + 1) this in
    record {
      number = ap (λ (n : ℕ). n + 1) c.loop-item.invariant.number;
      under_way = still_under_way c.args.names.now next c.loop-item.live c.perform.new.live c.loop-item.told c.perform.new.told c.in_ok-perform.field-0 c.loop-item.invariant.under_way (c.in_ok-perform.ensures.goes (i + 1));
      counts = room_next items i this c.loop-item.told c.perform.new.told c.loop-item-test.true c.item-item.is c.loop-item.invariant.counts c.in_ok-perform.ensures.counted;
      reached = reached_next c.args.names.now (λ group. after_items group 1 items) (λ group. after_items group (i + 1) (drop i items)) (λ group. after_items group (i + 1 + 1) (drop (i + 1) items)) next
          c.args.live.now c.loop-item.live c.perform.new.live c.args.told.now c.loop-item.told c.perform.new.told c.loop-item.invariant.reached
          (subst (λ (full : Bool). GoesOnBy c.args.names.now next c.loop-item.live c.loop-item.told c.perform.new.live c.perform.new.told full) c.if-branch.false (c.in_ok-perform.ensures.goes (i + 1)))
          (λ group done. items-one group (i + 1) items i this done c.loop-item-test.true c.item-item.is
          ∙ ap (λ (n : ℕ). after_items group n (drop (i + 1) items) (after_item group (i + 1) this done)) (sym (add-one (i + 1))));
    }

pub returns : goal.returns
returns c =
    let items = c.args.items.now in
    let i = c.loop-item.item-index in
    reached_end c.args.names.now (λ group. after_items group 1 items) (λ group. after_items group (i + 1) (drop i items)) c.args.live.now c.loop-item.live c.args.told.now c.loop-item.told c.loop-item.invariant.reached
    (λ group done. items-none group (i + 1) items i done c.loop-item-test.false)
