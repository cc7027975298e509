-- The counts of what is told have room for all that a schedule makes.
use Rattle.std.proofs.Common.{◌≡◌, ℕ, zero, suc, ◌+◌, ◌<◌, ◌≤◌, ◌^◌, List, [], ◌∷◌, ◌++◌, length, drop, drop-cons, take, slice_index_or, ap, sym, ◌∙◌, add-one, arith}
use Rattle.std.specs.Prelude.{sum_by}
use Rattle.std.proofs.lemmas.List.{take_all, take_more}
use Rattle.std.proofs.lemmas.List.Sums.{sum_by-cons}
use Rattle.schedule_text.specs.Limits.{most_runs}
use Rattle.schedule_text.specs.Schedule.{run_count, tries}
use Rattle.schedule_text.specs.declared.item.Item.{Item}
use Rattle.schedule_text.specs.declared.item.Item.TheVariants as item
use Rattle.play_command.specs.declared.told.Told.{Told}
use Rattle.play_command.specs.inside.Counts.{HasRoomToCount, counted_of, counted_tries}

item_few : (i : Item) → counted_tries i ≤ 1 + tries i
item_few (item.Run p thread times) = omega arith
item_few (item.Deliver p n) = omega arith
item_few (item.Inject p bytes) = omega arith
item_few (item.Clock p value) = omega arith
item_few (item.Random p bytes) = omega arith
item_few (item.Signal p s) = omega arith
item_few (item.Kill p) = omega arith

items_few : (items : List Item) → sum_by counted_tries items ≤ length items + run_count items
items_few [] = omega arith
items_few (i ∷ items) = omega (arith, items_few items, item_few i, sum_by-cons counted_tries i items, sum_by-cons tries i items)

-- a schedule fits, since it lies in memory
pub schedule_few : (items : List Item) (told : Told) → told.acted ≡ 0 → told.idle ≡ 0 → length items < 2 ^ 63 → run_count items ≤ most_runs → HasRoomToCount (sum_by counted_tries items) told
schedule_few items told acted idle short runs = omega (arith, acted, idle, short, runs, items_few items)

-- of the items from here on, the first and those after it
from_next : (items : List Item) (i : ℕ) (d : Item) → i < length items → sum_by counted_tries (drop i items) ≡ counted_tries (slice_index_or items i d) + sum_by counted_tries (drop (i + 1) items)
from_next items i d inside =
    ap (sum_by counted_tries) (drop-cons items i d inside) ∙ sum_by-cons counted_tries (slice_index_or items i d) (drop (suc i) items)
    ∙ ap (λ (n : ℕ). counted_tries (slice_index_or items i d) + sum_by counted_tries (drop n items)) (sym (add-one i))

pub room_first : (items : List Item) (i : ℕ) (this : Item) (told : Told) → i < length items → this ≡ slice_index_or items i this → HasRoomToCount (sum_by counted_tries (drop i items)) told → HasRoomToCount (counted_tries this) told
room_first items i this told inside at few = omega (arith, few, from_next items i this inside, ap counted_tries at)

pub room_next : (items : List Item) (i : ℕ) (this : Item) (old new : Told) → i < length items → this ≡ slice_index_or items i this → HasRoomToCount (sum_by counted_tries (drop i items)) old
    → counted_of new ≤ counted_of old + counted_tries this → HasRoomToCount (sum_by counted_tries (drop (i + 1) items)) new
room_next items i this old new inside at few made = omega (arith, few, made, from_next items i this inside, ap counted_tries at)

-- the tries of one item more
pub tries_more : (items : List Item) (i : Item) → run_count (items ++ i ∷ []) ≡ run_count items + tries i
tries_more [] i = omega (arith, sum_by-cons tries i [])
tries_more (first ∷ items) i = omega (arith, sum_by-cons tries first (items ++ i ∷ []), sum_by-cons tries first items, tries_more items i)

-- the tries of the items up to one
pub tries_next : (items : List Item) (i : ℕ) (this : Item) → i < length items → this ≡ slice_index_or items i this → run_count (take (i + 1) items) ≡ run_count (take i items) + tries this
tries_next items i this inside at = ap run_count (take_more items i this inside) ∙ tries_more (take i items) (slice_index_or items i this) ∙ ap (λ (x : Item). run_count (take i items) + tries x) (sym at)

pub tries_within : (items : List Item) (i : ℕ) → run_count (take i items) ≤ run_count items
tries_within [] zero = omega arith
tries_within [] (suc i) = omega arith
tries_within (x ∷ items) zero = omega arith
tries_within (x ∷ items) (suc i) = omega (arith, sum_by-cons tries x (take i items), sum_by-cons tries x items, tries_within items i)

pub all_tries : (items : List Item) (i : ℕ) → length items ≤ i → run_count (take i items) ≡ run_count items
all_tries items i all = ap run_count (take_all i items all)
