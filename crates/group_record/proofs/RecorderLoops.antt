-- Recorders that do one thing after the other.
use Rattle.std.proofs.Common.{◌≡◌, ℕ, suc, ◌+◌, ◌<◌, ◌≤◌, List, length, drop, drop-cons, slice_index_or, Option, refl, ap, sym, subst, ◌∙◌, add-one}
use Rattle.std.specs.Prelude.{Ok, Err}
use Rattle.std.proofs.lemmas.List.{drop_all}
use Rattle.fri_outside.specs.Outside.{Folder}
use Rattle.schedule_text.specs.declared.item.Item.{Item}
use Rattle.group_record.specs.declared.error.RecordError.{RecordError}
use Rattle.group_record.specs.declared.recorder.Recorder.{Recorder}
use Rattle.group_record.specs.Run.{GroupStart, RunProgress, after_item, after_items, attempt, run_attempts}
use Rattle.group_record.specs.Files.{change}
use Rattle.group_record.specs.inside.Recorded.{RecorderReaches, AdvancesRecorder, FilesOf, KeepsUpWithRun, RecordingUnderWay}
use Rattle.group_record.proofs.GroupRunStops.{LeadsTo, attempts_lead, comes_on, items_lead}

-- the recorder has come as far as some progress from which the rest gives the whole
pub record ComesTo (group : GroupStart) (now : Recorder) (before told : Option Folder) (rest : RunProgress → RunProgress) (whole : RunProgress) : Type 0 where
  pub middle : RunProgress
  pub keeps : KeepsUpWithRun group middle now
  pub files : FilesOf group middle before told
  pub leads : rest middle ≡ whole

pub under_next : (next : GroupStart → RunProgress → RunProgress) (old new : Recorder) (told now : Option Folder) → RecordingUnderWay old told → AdvancesRecorder next old (Ok tt) new (change told now) → RecordingUnderWay new now
under_next next old new told now u does =
    let c = does u.group u.done u.before u.keeps u.files in
    record { group = u.group; done = next u.group u.done; before = u.before; keeps = c.0; files = c.1 }

pub count_next : (next : GroupStart → RunProgress → RunProgress) (old new : Recorder) (told now : Option Folder) → RecordingUnderWay old told → AdvancesRecorder next old (Ok tt) new (change told now) → length new.members.items ≡ length old.members.items
count_next next old new told now u does = (does u.group u.done u.before u.keeps u.files).0.count ∙ sym u.keeps.count

pub comes_at : (group : GroupStart) (next : RunProgress) (now : Recorder) (before told : Option Folder) → RecorderReaches group next (Ok tt) now (change before told) → (rest : RunProgress → RunProgress) (whole : RunProgress) → rest next ≡ whole
    → ComesTo group now before told rest whole
comes_at group next now before told c rest whole leads = record { middle = next; keeps = c.0; files = c.1; leads = leads }

pub has_come : (group : GroupStart) (now : Recorder) (before told : Option Folder) (rest : RunProgress → RunProgress) (whole : RunProgress) → ComesTo group now before told rest whole → ((done : RunProgress) → rest done ≡ done)
    → RecorderReaches group whole (Ok tt) now (change before told)
has_come group now before told rest whole h none =
    subst (λ (d : RunProgress). RecorderReaches group d (Ok tt) now (change before told)) (sym (none h.middle) ∙ h.leads) (h.keeps, h.files)

-- ---- tries

pub attempts-next : (group : GroupStart) (number p thread n : ℕ) (done : RunProgress) → run_attempts group number p thread (suc n) done ≡ run_attempts group number p thread n (attempt group number p thread done)
unfolding run_attempts
attempts-next group number p thread n done = refl

no_attempt : (group : GroupStart) (number p thread : ℕ) (done : RunProgress) → run_attempts group number p thread 0 done ≡ done
unfolding run_attempts
no_attempt group number p thread done = refl

pub attempts-none : (group : GroupStart) (number p thread n : ℕ) (done : RunProgress) → n ≡ 0 → run_attempts group number p thread n done ≡ done
attempts-none group number p thread n done none = ap (λ n. run_attempts group number p thread n done) none ∙ no_attempt group number p thread done

pub attempts-one : (group : GroupStart) (number p thread left less : ℕ) (done : RunProgress) → left ≡ suc less → run_attempts group number p thread left done ≡ run_attempts group number p thread less (attempt group number p thread done)
attempts-one group number p thread left less done is = ap (λ n. run_attempts group number p thread n done) is ∙ attempts-next group number p thread less done

pub try_next : (group : GroupStart) (number p thread left less : ℕ) (old new : Recorder) (before told now : Option Folder) (whole : RunProgress) → left ≡ suc less
    → ComesTo group old before told (run_attempts group number p thread left) whole → AdvancesRecorder (λ group. attempt group number p thread) old (Ok tt) new (change told now)
    → ComesTo group new before now (run_attempts group number p thread less) whole
try_next group number p thread left less old new before told now whole is h does =
    comes_at group (attempt group number p thread h.middle) new before now (does group h.middle before h.keeps h.files) (run_attempts group number p thread less) whole
    (sym (attempts-one group number p thread left less h.middle is) ∙ h.leads)

pub try_stops : (group : GroupStart) (number p thread left less : ℕ) (old new : Recorder) (error : RecordError) (before told now : Option Folder) (whole : RunProgress) → left ≡ suc less
    → ComesTo group old before told (run_attempts group number p thread left) whole → AdvancesRecorder (λ group. attempt group number p thread) old (Err error) new (change told now)
    → RecorderReaches group whole (Err error) new (change before now)
try_stops group number p thread left less old new error before told now whole is h does =
    let next = attempt group number p thread h.middle in
    comes_on group next whole error new before now
    (subst (λ (d : RunProgress). LeadsTo next d) (sym (attempts-one group number p thread left less h.middle is) ∙ h.leads) (attempts_lead group number p thread less next))
    (does group h.middle before h.keeps h.files)

-- ---- items

pub items_next : (group : GroupStart) (number : ℕ) (items : List Item) (i : ℕ) (d : Item) (done : RunProgress) → i < length items
    → after_items group number (drop i items) done ≡ after_items group (suc number) (drop (i + 1) items) (after_item group number (slice_index_or items i d) done)
items_next group number items i d done inside =
    ap (λ (xs : List Item). after_items group number xs done) (drop-cons items i d inside)
    ∙ ap (λ (n : ℕ). after_items group (suc number) (drop n items) (after_item group number (slice_index_or items i d) done)) (sym (add-one i))

pub items_end : (group : GroupStart) (number : ℕ) (items : List Item) (i : ℕ) (done : RunProgress) → length items ≤ i → after_items group number (drop i items) done ≡ done
items_end group number items i done past = ap (λ (xs : List Item). after_items group number xs done) (drop_all i items past)

pub item_next : (group : GroupStart) (number next : ℕ) (items : List Item) (i : ℕ) (this : Item) (old new : Recorder) (before told now : Option Folder) (whole : RunProgress) → i < length items → next ≡ suc number
    → this ≡ slice_index_or items i this → ComesTo group old before told (after_items group number (drop i items)) whole → AdvancesRecorder (λ group. after_item group number this) old (Ok tt) new (change told now)
    → ComesTo group new before now (after_items group next (drop (i + 1) items)) whole
item_next group number next items i this old new before told now whole inside is at h does =
    comes_at group (after_item group number this h.middle) new before now (does group h.middle before h.keeps h.files) (after_items group next (drop (i + 1) items)) whole
    (ap (λ n. after_items group n (drop (i + 1) items) (after_item group number this h.middle)) is
    ∙ ap (λ (x : Item). after_items group (suc number) (drop (i + 1) items) (after_item group number x h.middle)) at
    ∙ sym (items_next group number items i this h.middle inside) ∙ h.leads)

pub item_stops : (group : GroupStart) (number : ℕ) (items : List Item) (i : ℕ) (this : Item) (old new : Recorder) (error : RecordError) (before told now : Option Folder) (whole : RunProgress) → i < length items
    → this ≡ slice_index_or items i this → ComesTo group old before told (after_items group number (drop i items)) whole → AdvancesRecorder (λ group. after_item group number this) old (Err error) new (change told now)
    → RecorderReaches group whole (Err error) new (change before now)
item_stops group number items i this old new error before told now whole inside at h does =
    let next = after_item group number this h.middle in
    comes_on group next whole error new before now
    (subst (λ (d : RunProgress). LeadsTo next d)
    (ap (λ (x : Item). after_items group (suc number) (drop (i + 1) items) (after_item group number x h.middle)) at
    ∙ sym (items_next group number items i this h.middle inside) ∙ h.leads)
    (items_lead group (suc number) (drop (i + 1) items) next))
    (does group h.middle before h.keeps h.files)
