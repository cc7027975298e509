-- The counts of a recorder have room for all that a schedule makes.
use Rattle.std.proofs.Common.{◌≡◌, ℕ, suc, ◌+◌, ◌<◌, ◌≤◌, ◌^◌, Bool, true, false, List, [], ◌∷◌, length, drop, drop-cons, slice_index_or, ap, sym, subst, ◌∙◌, add-one, arith}
use Rattle.std.specs.Prelude.{⊤, OnOk, Ok, Err, Result, sum_by}
use Rattle.std.proofs.lemmas.List.Sums.{sum_by-cons}
use Rattle.lib_calls.specs.declared.entry.Entry.{Entry}
use Rattle.schedule_text.specs.Limits.{most_runs}
use Rattle.schedule_text.specs.Schedule.{run_count, tries}
use Rattle.schedule_text.specs.declared.item.Item.{Item}
use Rattle.schedule_text.specs.declared.item.Item.TheVariants as item
use Rattle.group_world.specs.World.{World}
use Rattle.group_record.specs.declared.error.RecordError.{RecordError}
use Rattle.group_record.specs.declared.member.Member.{Member}
use Rattle.group_record.specs.declared.recorder.Recorder.{Recorder}
use Rattle.group_record.specs.inside.Recorded.{HasCountsFor, IsLoggedEvent, recorder_acted_on, total_counted_tries, counted_tries_of}

-- ---- what is counted of items

item_few : (i : Item) → counted_tries_of i ≤ 1 + tries i
item_few (item.Run p thread times) = omega arith
item_few (item.Deliver p n) = omega arith
item_few (item.Inject p bytes) = omega arith
item_few (item.Clock p value) = omega arith
item_few (item.Random p bytes) = omega arith
item_few (item.Signal p s) = omega arith
item_few (item.Kill p) = omega arith

items_few : (items : List Item) → sum_by counted_tries_of items ≤ length items + run_count items
items_few [] = omega arith
items_few (i ∷ items) = omega (arith, items_few items, item_few i, sum_by-cons counted_tries_of i items, sum_by-cons tries i items)

-- a schedule fits, since it lies in memory
pub schedule_few : (items : List Item) (r : Recorder) → r.acted ≡ 0 → r.idle ≡ 0 → length items < 2 ^ 63 → run_count items ≤ most_runs → HasCountsFor (sum_by counted_tries_of items) r
schedule_few items r acted idle short runs = omega (arith, acted, idle, short, runs, items_few items)

-- of the items from here on, the first and those after it
from_next : (items : List Item) (i : ℕ) (d : Item) → i < length items → sum_by counted_tries_of (drop i items) ≡ counted_tries_of (slice_index_or items i d) + sum_by counted_tries_of (drop (i + 1) items)
from_next items i d inside =
    ap (sum_by counted_tries_of) (drop-cons items i d inside) ∙ sum_by-cons counted_tries_of (slice_index_or items i d) (drop (suc i) items)
    ∙ ap (λ (n : ℕ). counted_tries_of (slice_index_or items i d) + sum_by counted_tries_of (drop n items)) (sym (add-one i))

pub few_first : (items : List Item) (i : ℕ) (this : Item) (r : Recorder) → i < length items → this ≡ slice_index_or items i this → HasCountsFor (sum_by counted_tries_of (drop i items)) r → HasCountsFor (counted_tries_of this) r
few_first items i this r inside at few = omega (arith, few, from_next items i this inside, ap counted_tries_of at)

pub few_next : (items : List Item) (i : ℕ) (this : Item) (old new : Recorder) → i < length items → this ≡ slice_index_or items i this → HasCountsFor (sum_by counted_tries_of (drop i items)) old
    → total_counted_tries new ≡ total_counted_tries old + counted_tries_of this → HasCountsFor (sum_by counted_tries_of (drop (i + 1) items)) new
few_next items i this old new inside at few made = omega (arith, few, made, from_next items i this inside, ap counted_tries_of at)

-- ---- what was counted

-- an event
pub counted_kept : (result : Result ⊤ RecordError) (old new : Recorder) (p : ℕ) (m : Member) (e : Entry) → OnOk result (IsLoggedEvent old p m e new) → OnOk result (total_counted_tries new ≡ total_counted_tries old + 1)
counted_kept (Ok _) old new p m e kept = omega (arith, kept.acted, kept.idle)
counted_kept (Err error) old new p m e kept = kept

-- an item that is not `run`
pub few_other : (r : Recorder) (i : Item) → counted_tries_of i ≡ 1 → HasCountsFor (counted_tries_of i) r → HasCountsFor 1 r
few_other r i one few = subst (λ (n : ℕ). HasCountsFor n r) one few

counted_act : (acts : Bool) (w : World) (old new : Recorder) → new ≡ recorder_acted_on acts w old → total_counted_tries new ≡ total_counted_tries old + 1
counted_act true w old new is = ap total_counted_tries is ∙ omega arith
counted_act false w old new is = ap total_counted_tries is ∙ omega arith

pub counted_other : (acts : Bool) (w : World) (old new : Recorder) (i : Item) → counted_tries_of i ≡ 1 → new ≡ recorder_acted_on acts w old → total_counted_tries new ≡ total_counted_tries old + counted_tries_of i
counted_other acts w old new i one is = counted_act acts w old new is ∙ ap (λ (n : ℕ). total_counted_tries old + n) (sym one)
