-- A run goes on, and where it was stopped it stays stopped.
use Rattle.std.proofs.Common.{◌≡◌, ℕ, zero, suc, ◌++◌, Bool, true, false, cond, List, [], ◌∷◌, Option, Some, None, refl, take, ap, sym, subst, ◌∙◌, append_assoc}
use Rattle.std.specs.Prelude.{is_some, Err}
use Rattle.std.specs.Int.{w64, cast_unsigned}
use Rattle.fri_outside.specs.Outside.{Folder}
use Rattle.fri_outside.specs.Several.{AreFirstMade, with_files}
use Rattle.schedule_text.specs.declared.item.Item.{Item}
use Rattle.schedule_text.specs.declared.item.Item.TheVariants as item
use Rattle.guest_process.specs.Live.{Event}
use Rattle.group_world.specs.History as world
use Rattle.group_record.specs.declared.error.RecordError.{RecordError}
use Rattle.group_record.specs.declared.error.RecordError.TheVariants as errors
use Rattle.group_record.specs.declared.recorder.Recorder.{Recorder}
use Rattle.group_record.specs.Files.{IsStoppedRecording, InHeads, Between, InEntry, InImages, change}
use Rattle.group_record.specs.Logs.{logs_of_steps}
use Rattle.group_record.specs.inside.Recorded.{RecorderReaches, FilesOf}
use Rattle.group_record.specs.Run.{GroupStart, RunProgress, RunStep, Had, Did, IsMoment, after_item, after_items, attempt, run_attempts, done_by_item, event_of_try, had_event, log_has_room, unless_log_full}
use Rattle.process_files.specs.FirstLaws.{after_none, files_after}

-- the steps of one progress stand in front of the other's; and where a log is full, it is all there is
pub record LeadsTo (early late : RunProgress) : Type 0 where
  pub front : IsMoment early.steps late.steps
  pub full : (number : ℕ) → early.full ≡ Some number → late ≡ early

pub front_on : (early middle late : List RunStep) → IsMoment early middle → IsMoment middle late → IsMoment early late
front_on early middle late first then =
    (then.0 ++ first.0, then.1 ∙ ap (λ xs. then.0 ++ xs) first.1 ∙ sym (append_assoc then.0 first.0 early))

pub leads_same : (done : RunProgress) → LeadsTo done done
leads_same done = record { front = ([], refl); full = λ number is. refl }

pub leads_on : (early middle late : RunProgress) → LeadsTo early middle → LeadsTo middle late → LeadsTo early late
leads_on early middle late first then = record {
  front = front_on early.steps middle.steps late.steps first.front then.front;
  full = λ number is.
      let same = first.full number is in
      then.full number (ap (λ (d : RunProgress). d.full) same ∙ is) ∙ same;
}

unless_leads : (done next : RunProgress) → IsMoment done.steps next.steps → LeadsTo done (unless_log_full done next)
unless_leads done next front = by_full done.full refl
  where
    by_full : (full : Option ℕ) → done.full ≡ full → LeadsTo done (cond (is_some full) done next)
    by_full (Some number) is = leads_same done
    by_full None is = record { front = front; full = λ number h. cc }

had_front : (group : GroupStart) (number p : ℕ) (found : Option Event) (done : RunProgress) → IsMoment done.steps (had_event group number p found done).steps
had_front group number p None done = ([], refl)
had_front group number p (Some e) done = by_room (log_has_room group done.steps p e)
  where
    by_room : (room : Bool) → IsMoment done.steps (cond room (record done { steps = Had p e ∷ done.steps }) (record done { full = Some number })).steps
    by_room true = (Had p e ∷ [], refl)
    by_room false = ([], refl)

pub attempt_leads : (group : GroupStart) (number p thread : ℕ) (done : RunProgress) → LeadsTo done (attempt group number p thread done)
attempt_leads group number p thread done =
    unless_leads done (had_event group number p (event_of_try group done.steps p thread) done) (had_front group number p (event_of_try group done.steps p thread) done)

pub attempts_lead : (group : GroupStart) (number p thread n : ℕ) (done : RunProgress) → LeadsTo done (run_attempts group number p thread n done)
unfolding run_attempts
attempts_lead group number p thread zero done = leads_same done
attempts_lead group number p thread (suc n) done =
    leads_on done (attempt group number p thread done) (run_attempts group number p thread n (attempt group number p thread done))
    (attempt_leads group number p thread done) (attempts_lead group number p thread n (attempt group number p thread done))

acted_front : (acts : Bool) (step : RunStep) (done : RunProgress) → IsMoment done.steps (cond acts (record done { steps = step ∷ done.steps }) (record done { idle = suc done.idle })).steps
acted_front true step done = (step ∷ [], refl)
acted_front false step done = ([], refl)

does_front : (group : GroupStart) (number : ℕ) (i : Item) (done : RunProgress) → IsMoment done.steps (done_by_item group number i done).steps
does_front group number (item.Run p thread times) done = (attempts_lead group number p thread times done).front
does_front group number (item.Deliver p n) done = acted_front _ _ done
does_front group number (item.Inject p bytes) done = (Did (world.Inject p bytes) ∷ [], refl)
does_front group number (item.Clock p value) done = (Did (world.Clock p (cast_unsigned w64 value)) ∷ [], refl)
does_front group number (item.Random p bytes) done = (Did (world.Random p bytes) ∷ [], refl)
does_front group number (item.Signal p s) done = (Did (world.Signal p s) ∷ [], refl)
does_front group number (item.Kill p) done = acted_front _ _ done

pub item_leads : (group : GroupStart) (number : ℕ) (i : Item) (done : RunProgress) → LeadsTo done (after_item group number i done)
item_leads group number i done = unless_leads done (done_by_item group number i done) (does_front group number i done)

pub items_lead : (group : GroupStart) (number : ℕ) (items : List Item) (done : RunProgress) → LeadsTo done (after_items group number items done)
items_lead group number [] done = leads_same done
items_lead group number (i ∷ items) done =
    leads_on done (after_item group number i done) (after_items group (suc number) items (after_item group number i done))
    (item_leads group number i done) (items_lead group (suc number) items (after_item group number i done))

-- ---- where it was stopped

pub stopped_on : (group : GroupStart) (early late : List RunStep) (before after : Option Folder) → IsMoment early late → IsStoppedRecording group early [] before after → IsStoppedRecording group late [] before after
stopped_on group early late before after on (InHeads many cut is) = InHeads many cut is
stopped_on group early late before after on (Between steps front is) = Between steps (front_on steps early late front on) is
stopped_on group early late before after on (InEntry steps later p n e split short is) =
    InEntry steps (on.0 ++ later) p n e (on.1 ∙ ap (λ xs. on.0 ++ xs) split ∙ sym (append_assoc on.0 later (Had p e ∷ steps))) short is
stopped_on group early late before after on (InImages n is) = Between early on (is ∙ ap (λ fs. with_files fs before) (after_none (logs_of_steps group early) n))

-- the same where images are asked for
pub stopped_before : (group : GroupStart) (steps : List RunStep) (images : List (List ℕ × List ℕ)) (before after : Option Folder) → IsStoppedRecording group steps [] before after → IsStoppedRecording group steps images before after
stopped_before group steps images before after (InHeads many cut is) = InHeads many cut is
stopped_before group steps images before after (Between early front is) = Between early front is
stopped_before group steps images before after (InEntry early later p n e split short is) = InEntry early later p n e split short is
stopped_before group steps images before after (InImages n is) = Between steps ([], refl) (is ∙ ap (λ fs. with_files fs before) (after_none (logs_of_steps group steps) n))

-- or where one was not made
pub stopped_in : (group : GroupStart) (steps : List RunStep) (images : List (List ℕ × List ℕ)) (before now after : Option Folder) → now ≡ with_files (logs_of_steps group steps) before → AreFirstMade images now after
    → IsStoppedRecording group steps images before after
stopped_in group steps images before now after written (n, is) =
    InImages n (is ∙ ap (with_files (take n images)) written ∙ sym (files_after (logs_of_steps group steps) (take n images) before))

-- what is answered at one moment is answered of the whole
pub comes_on : (group : GroupStart) (early late : RunProgress) (error : RecordError) (r : Recorder) (before after : Option Folder) → LeadsTo early late
    → RecorderReaches group early (Err error) r (change before after) → RecorderReaches group late (Err error) r (change before after)
comes_on group early late (errors.BadSegment p) r before after leads h = h
comes_on group early late (errors.LogFull number) r before after leads h =
    subst (λ (d : RunProgress). (d.full ≡ Some number) × FilesOf group d before after) (sym (leads.full number h.0)) h
comes_on group early late errors.WriteFault r before after leads h = stopped_on group early.steps late.steps before after leads.front h
comes_on group early late errors.NoMemory r before after leads h = stopped_on group early.steps late.steps before after leads.front h
