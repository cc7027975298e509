-- A run, step by step.
use Rattle.std.proofs.Common.{◌≡◌, ℕ, zero, suc, ◌<◌, ◌^◌, ◌++◌, Bool, true, false, cond, List, [], ◌∷◌, Option, Some, None, refl, subst, arith, ℤ, pos, negsuc}
use Rattle.std.specs.Prelude.{All, is_some, FitsSigned}
use Rattle.std.specs.Int.{w64, cast_unsigned}
use Rattle.std.proofs.lemmas.List.Elements.{All-head, All-tail}
use Rattle.schedule_text.specs.declared.item.Item.{Item}
use Rattle.schedule_text.specs.declared.item.Item.TheVariants as item
use Rattle.schedule_text.specs.Schedule.{IsInRange}
use Rattle.guest_process.specs.Live.{Event}
use Rattle.group_world.specs.History.{Act}
use Rattle.group_world.specs.History as world
use Rattle.group_record.specs.Run.{GroupStart, RunProgress, RunStep, Had, Did, IsMoment, with_step_if, after_item, after_items, attempt, run_attempts, can_be_killed, done_by_item, event_of_try, had_event, log_has_room, has_sent, no_progress_yet, run, processes_in_group}
use Rattle.group_record.specs.Standing.{IsDoneAct, IsRun}

-- the steps so far are those of a run
pub record Runs (group : GroupStart) (done : RunProgress) : Type 0 where
  pub steps : IsRun group done.steps

-- so are those at each moment
pub front_runs : (group : GroupStart) (later early steps : List RunStep) → steps ≡ later ++ early → IsRun group steps → IsRun group early
front_runs group [] early steps is run = subst (λ (s : List RunStep). IsRun group s) is run
front_runs group (Had p e ∷ later) early steps is run =
    let all : IsRun group (Had p e ∷ (later ++ early)) = subst (λ (s : List RunStep). IsRun group s) is run in
    front_runs group later early (later ++ early) refl all.1
front_runs group (Did act ∷ later) early steps is run =
    let all : IsRun group (Did act ∷ (later ++ early)) = subst (λ (s : List RunStep). IsRun group s) is run in
    front_runs group later early (later ++ early) refl all.1

-- either of two
either : {A : Type 0} (P : A → Type 0) (test : Bool) (a b : A) → P a → P b → P (cond test a b)
either P true a b first second = first
either P false a b first second = second

had_runs : (group : GroupStart) (number p thread : ℕ) (done : RunProgress) (o : Option Event) → p < processes_in_group group → Runs group done → event_of_try group done.steps p thread ≡ o → Runs group (had_event group number p o done)
had_runs group number p thread done None within so_far comes = record { steps = so_far.steps }
had_runs group number p thread done (Some e) within so_far comes = by_room (log_has_room group done.steps p e) refl where
  by_room : (test : Bool) → log_has_room group done.steps p e ≡ test → Runs group (cond test (record done { steps = Had p e ∷ done.steps }) (record done { full = Some number }))
  by_room true room = record { steps = (record { within = within; thread = thread; comes = comes; room = room }, so_far.steps) }
  by_room false room = record { steps = so_far.steps }

attempt_runs : (group : GroupStart) (number p thread : ℕ) (done : RunProgress) → p < processes_in_group group → Runs group done → Runs group (attempt group number p thread done)
attempt_runs group number p thread done within so_far =
    either (Runs group) (is_some done.full) done (had_event group number p (event_of_try group done.steps p thread) done) so_far
    (had_runs group number p thread done (event_of_try group done.steps p thread) within so_far refl)

attempts_run : (group : GroupStart) (number p thread n : ℕ) (done : RunProgress) → p < processes_in_group group → Runs group done → Runs group (run_attempts group number p thread n done)
unfolding run_attempts
attempts_run group number p thread zero done within so_far = so_far
attempts_run group number p thread (suc n) done within so_far =
    attempts_run group number p thread n (attempt group number p thread done) within (attempt_runs group number p thread done within so_far)

-- an item that acts
act_runs : (group : GroupStart) (act : Act) (done : RunProgress) → IsDoneAct group done.steps act → Runs group done → Runs group (record done { steps = Did act ∷ done.steps })
act_runs group act done fits so_far = record { steps = (fits, so_far.steps) }

-- or is idle where it does not
act_if_runs : (group : GroupStart) (act : Act) (acts : Bool) (done : RunProgress) → (acts ≡ true → IsDoneAct group done.steps act) → Runs group done → Runs group (with_step_if acts (Did act) done)
act_if_runs group act true done fits so_far = act_runs group act done (fits refl) so_far
act_if_runs group act false done fits so_far = record { steps = so_far.steps }

-- the bits of a signed number
bits_fit : (value : ℤ) → FitsSigned w64 value → cast_unsigned w64 value < 2 ^ 64
bits_fit (pos n) fits = omega (arith, fits.sfits)
bits_fit (negsuc n) fits = omega arith

does_runs : (group : GroupStart) (number : ℕ) (i : Item) (done : RunProgress) → IsInRange (processes_in_group group) i → Runs group done → Runs group (done_by_item group number i done)
does_runs group number (item.Run p thread times) done fits so_far = attempts_run group number p thread times done fits.0 so_far
does_runs group number (item.Deliver p n) done fits so_far =
    act_if_runs group (world.Deliver p n) (has_sent (processes_in_group group) done.steps p n) done (λ sent. (fits.0, sent)) so_far
does_runs group number (item.Inject p bytes) done fits so_far = act_runs group (world.Inject p bytes) done fits.0 so_far
does_runs group number (item.Clock p value) done fits so_far = act_runs group (world.Clock p (cast_unsigned w64 value)) done (fits.0, bits_fit value fits.1) so_far
does_runs group number (item.Random p bytes) done fits so_far = act_runs group (world.Random p bytes) done fits.0 so_far
does_runs group number (item.Signal p s) done fits so_far = act_runs group (world.Signal p s) done (fits.0, fits.1, fits.2) so_far
does_runs group number (item.Kill p) done fits so_far =
    act_if_runs group (world.Kill p) (can_be_killed group done.steps p) done (λ can. (fits, can)) so_far

item_runs : (group : GroupStart) (number : ℕ) (i : Item) (done : RunProgress) → IsInRange (processes_in_group group) i → Runs group done → Runs group (after_item group number i done)
item_runs group number i done fits so_far =
    either (Runs group) (is_some done.full) done (done_by_item group number i done) so_far (does_runs group number i done fits so_far)

items_run : (group : GroupStart) (number : ℕ) (items : List Item) (done : RunProgress) → All (IsInRange (processes_in_group group)) items → Runs group done → Runs group (after_items group number items done)
items_run group number [] done fits so_far = so_far
items_run group number (i ∷ items) done fits so_far =
    items_run group (suc number) items (after_item group number i done) (All-tail (IsInRange (processes_in_group group)) i items fits)
    (item_runs group number i done (All-head (IsInRange (processes_in_group group)) i items fits) so_far)

-- the steps of a run, and those at each of its moments
pub is_run : (group : GroupStart) (items : List Item) → All (IsInRange (processes_in_group group)) items → (early : List RunStep) → IsMoment early (run group items).steps → IsRun group early
is_run group items fits early front =
    front_runs group front.0 early (run group items).steps front.1 (items_run group 1 items no_progress_yet fits (record { steps = tt })).steps
