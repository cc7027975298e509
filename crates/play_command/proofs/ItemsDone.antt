-- Tries and items, one after the other.
use Rattle.std.proofs.Common.{◌≡◌, ◌∙◌, ℕ, zero, suc, ◌+◌, ◌<◌, ◌≤◌, Bool, true, false, cond, List, [], ◌∷◌, ◌++◌, length, drop, drop-cons, slice_index_or, Option, Some, None, refl, ap, sym, subst, add-one, arith}
use Rattle.std.specs.Prelude.{is_some}
use Rattle.std.proofs.lemmas.List.{drop_all}
use Rattle.schedule_text.specs.declared.item.Item.{Item}
use Rattle.schedule_text.specs.declared.item.Item.TheVariants as item
use Rattle.guest_process.specs.Live.{Event}
use Rattle.group_record.specs.Run.{GroupStart, Had, RunProgress, RunStep, after_item, after_items, attempt, done_by_item, event_of_try, had_event, log_has_room, run_attempts, with_full_log, with_step, with_step_if}
use Rattle.play_command.proofs.Attempts.{unless_some}

-- ---- tries

attempts-next : (group : GroupStart) (number p thread n : ℕ) (done : RunProgress) → run_attempts group number p thread (suc n) done ≡ run_attempts group number p thread n (attempt group number p thread done)
unfolding run_attempts
attempts-next group number p thread n done = refl

no_attempt : (group : GroupStart) (number p thread : ℕ) (done : RunProgress) → run_attempts group number p thread 0 done ≡ done
unfolding run_attempts
no_attempt group number p thread done = refl

pub attempts-none : (group : GroupStart) (number p thread n : ℕ) (done : RunProgress) → n ≡ 0 → run_attempts group number p thread n done ≡ done
attempts-none group number p thread n done none = ap (λ n. run_attempts group number p thread n done) none ∙ no_attempt group number p thread done

pub attempts-one : (group : GroupStart) (number p thread left less : ℕ) (done : RunProgress) → left ≡ suc less → run_attempts group number p thread left done ≡ run_attempts group number p thread less (attempt group number p thread done)
attempts-one group number p thread left less done is = ap (λ n. run_attempts group number p thread n done) is ∙ attempts-next group number p thread less done

-- once a log is full no try does anything
attempts_full : (group : GroupStart) (number p thread n : ℕ) (done : RunProgress) → is_some done.full ≡ true → run_attempts group number p thread n done ≡ done
attempts_full group number p thread zero done full = no_attempt group number p thread done
attempts_full group number p thread (suc n) done full =
    attempts-next group number p thread n done ∙ ap (λ (d : RunProgress). run_attempts group number p thread n d) (unless_some done _ full) ∙ attempts_full group number p thread n done full

pub attempts_stop : (group : GroupStart) (number p thread left less : ℕ) (done : RunProgress) → left ≡ suc less → is_some (attempt group number p thread done).full ≡ true
    → run_attempts group number p thread left done ≡ attempt group number p thread done
attempts_stop group number p thread left less done is full = attempts-one group number p thread left less done is ∙ attempts_full group number p thread less (attempt group number p thread done) full

-- ---- items

pub items-none : (group : GroupStart) (number : ℕ) (items : List Item) (i : ℕ) (done : RunProgress) → length items ≤ i → after_items group number (drop i items) done ≡ done
items-none group number items i done all = ap (λ (is : List Item). after_items group number is done) (drop_all i items all)

pub items-one : (group : GroupStart) (number : ℕ) (items : List Item) (i : ℕ) (this : Item) (done : RunProgress) → i < length items → this ≡ slice_index_or items i this
    → after_items group number (drop i items) done ≡ after_items group (suc number) (drop (i + 1) items) (after_item group number this done)
items-one group number items i this done inside at =
    ap (λ (is : List Item). after_items group number is done) (drop-cons items i this inside)
    ∙ ap (λ (x : Item). after_items group (suc number) (drop (suc i) items) (after_item group number x done)) (sym at)
    ∙ ap (λ (n : ℕ). after_items group (suc number) (drop n items) (after_item group number this done)) (sym (add-one i))

items_full : (group : GroupStart) (number : ℕ) (items : List Item) (done : RunProgress) → is_some done.full ≡ true → after_items group number items done ≡ done
items_full group number [] done full = refl
items_full group number (i ∷ items) done full =
    ap (λ (d : RunProgress). after_items group (suc number) items d) (unless_some done _ full) ∙ items_full group (suc number) items done full

pub items_stop : (group : GroupStart) (number : ℕ) (items : List Item) (i : ℕ) (this : Item) (done : RunProgress) → i < length items → this ≡ slice_index_or items i this → is_some (after_item group number this done).full ≡ true
    → after_items group number (drop i items) done ≡ after_item group number this done
items_stop group number items i this done inside at full =
    items-one group number items i this done inside at ∙ items_full group (suc number) (drop (i + 1) items) (after_item group number this done) full

-- one item more
pub items_more : (group : GroupStart) (number : ℕ) (items : List Item) (i : Item) (done : RunProgress) → after_items group number (items ++ i ∷ []) done ≡ after_item group (number + length items) i (after_items group number items done)
items_more group number [] i done = ap (λ (n : ℕ). after_item group n i done) (omega arith)
items_more group number (first ∷ items) i done =
    items_more group (suc number) items i (after_item group number first done)
    ∙ ap (λ (n : ℕ). after_item group n i (after_items group (suc number) items (after_item group number first done))) (omega arith)

-- ---- which item is full

-- no log is full, or it is so since the item with this number
abbrev pub IsFullAt : ℕ → Option ℕ → Type 0
IsFullAt number None = Unit {0}
IsFullAt number (Some n) = n ≡ number

room_at : (number : ℕ) (full : Option ℕ) → full ≡ None → IsFullAt number full
room_at number None room = tt
room_at number (Some n) room = cc

unless_at : (number : ℕ) (b : Bool) (done next : RunProgress) → IsFullAt number done.full → IsFullAt number next.full → IsFullAt number (cond b done next).full
unless_at number true done next at later = at
unless_at number false done next at later = later

had_if_at : (number : ℕ) (fits : Bool) (step : RunStep) (done : RunProgress) → IsFullAt number done.full → IsFullAt number (cond fits (with_step step done) (with_full_log number done)).full
had_if_at number true step done at = at
had_if_at number false step done at = refl

had_at : (group : GroupStart) (number p : ℕ) (o : Option Event) (done : RunProgress) → IsFullAt number done.full → IsFullAt number (had_event group number p o done).full
had_at group number p None done at = at
had_at group number p (Some e) done at = had_if_at number (log_has_room group done.steps p e) (Had p e) done at

attempt_at : (group : GroupStart) (number p thread : ℕ) (done : RunProgress) → IsFullAt number done.full → IsFullAt number (attempt group number p thread done).full
attempt_at group number p thread done at =
    unless_at number (is_some done.full) done (had_event group number p (event_of_try group done.steps p thread) done) at (had_at group number p (event_of_try group done.steps p thread) done at)

attempts_at : (group : GroupStart) (number p thread n : ℕ) (done : RunProgress) → IsFullAt number done.full → IsFullAt number (run_attempts group number p thread n done).full
attempts_at group number p thread zero done at = subst (λ (d : RunProgress). IsFullAt number d.full) (sym (no_attempt group number p thread done)) at
attempts_at group number p thread (suc n) done at =
    subst (λ (d : RunProgress). IsFullAt number d.full) (sym (attempts-next group number p thread n done)) (attempts_at group number p thread n (attempt group number p thread done) (attempt_at group number p thread done at))

step_if_at : (number : ℕ) (acts : Bool) (step : RunStep) (done : RunProgress) → IsFullAt number done.full → IsFullAt number (with_step_if acts step done).full
step_if_at number true step done at = at
step_if_at number false step done at = at

done_at : (group : GroupStart) (number : ℕ) (i : Item) (done : RunProgress) → IsFullAt number done.full → IsFullAt number (done_by_item group number i done).full
done_at group number (item.Run p thread times) done at = attempts_at group number p thread times done at
done_at group number (item.Deliver p n) done at = step_if_at number _ _ done at
done_at group number (item.Inject p bytes) done at = at
done_at group number (item.Clock p time) done at = at
done_at group number (item.Random p bytes) done at = at
done_at group number (item.Signal p signal) done at = at
done_at group number (item.Kill p) done at = step_if_at number _ _ done at

-- where no log was full before an item, one is full after it only since this item
pub item_at : (group : GroupStart) (number : ℕ) (i : Item) (done : RunProgress) → done.full ≡ None → IsFullAt number (after_item group number i done).full
item_at group number i done room =
    let at = room_at number done.full room in
    unless_at number (is_some done.full) done (done_by_item group number i done) at (done_at group number i done at)

pub full_at : (number item : ℕ) (full : Option ℕ) → IsFullAt number full → full ≡ Some item → item ≡ number
full_at number item None at is = cc
full_at number item (Some n) at is = cc

pub full_here : (number : ℕ) (full : Option ℕ) → IsFullAt number full → is_some full ≡ true → full ≡ Some number
full_here number None at is = cc
full_here number (Some n) at is = ap Some at
