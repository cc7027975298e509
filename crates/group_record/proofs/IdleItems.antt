-- A run without its idle tries and items.
use Rattle.std.proofs.Common.{◌≡◌, ℕ, zero, suc, ◌≤◌, ◌∙◌, Bool, true, false, cond, List, ◌∷◌, Option, Some, None, refl, sym, ap, subst, arith}
use Rattle.std.specs.Prelude.{is_some}
use Rattle.std.specs.Int.{w64, cast_unsigned}
use Rattle.schedule_text.specs.declared.item.Item.{Item}
use Rattle.schedule_text.specs.declared.item.Item.TheVariants as item
use Rattle.guest_process.specs.Live.{Event}
use Rattle.group_world.specs.History as world
use Rattle.group_record.specs.Idle.{AreSameSteps, IdleLeftOut, IsIdleItem, LeavesOutIdle, ended, fewer_tries, kept, left_out}
use Rattle.group_record.specs.Run.{GroupStart, RunProgress, RunStep, Had, Did, after_item, after_items, attempt, run_attempts, can_be_killed, done_by_item, event_of_try, had_event, has_sent, log_has_room, no_progress_yet, processes_in_group, unless_log_full, with_full_log, with_step, with_step_if}

same : (done : RunProgress) → AreSameSteps done done
same done = record { steps = refl; full = refl }

then_same : (one other third : RunProgress) → AreSameSteps one other → AreSameSteps other third → AreSameSteps one third
then_same one other third first then = record { steps = first.steps ∙ then.steps; full = first.full ∙ then.full }

-- ---- what is done in both

unless_same : (d e next further : RunProgress) → AreSameSteps d e → AreSameSteps next further → AreSameSteps (unless_log_full d next) (unless_log_full e further)
unless_same d e next further before after = by_full (is_some d.full) (is_some e.full) before.full
  where
    by_full : (b c : Bool) → b ≡ c → AreSameSteps (cond b d next) (cond c e further)
    by_full true true is = before
    by_full true false is = absurd (cc)
    by_full false true is = absurd (cc)
    by_full false false is = after

had_same : (group : GroupStart) (n m p : ℕ) (o : Option Event) (d e : RunProgress) → AreSameSteps d e → AreSameSteps (had_event group n p o d) (had_event group m p o e)
had_same group n m p None d e before = record { steps = before.steps; full = before.full }
had_same group n m p (Some event) d e before =
    by_room (log_has_room group d.steps p event) (log_has_room group e.steps p event) (ap (λ (steps : List RunStep). log_has_room group steps p event) before.steps)
  where
    by_room : (b c : Bool) → b ≡ c → AreSameSteps (cond b (with_step (Had p event) d) (with_full_log n d)) (cond c (with_step (Had p event) e) (with_full_log m e))
    by_room true true is = record { steps = ap (λ (steps : List RunStep). Had p event ∷ steps) before.steps; full = before.full }
    by_room true false is = absurd (cc)
    by_room false true is = absurd (cc)
    by_room false false is = record { steps = before.steps; full = refl }

attempt_same : (group : GroupStart) (n m p thread : ℕ) (d e : RunProgress) → AreSameSteps d e → AreSameSteps (attempt group n p thread d) (attempt group m p thread e)
attempt_same group n m p thread d e before =
    let comes : event_of_try group d.steps p thread ≡ event_of_try group e.steps p thread = ap (λ (steps : List RunStep). event_of_try group steps p thread) before.steps in
    let had = had_same group n m p (event_of_try group d.steps p thread) d e before in
    unless_same d e (had_event group n p (event_of_try group d.steps p thread) d) (had_event group m p (event_of_try group e.steps p thread) e) before
    (subst (λ (o : Option Event). AreSameSteps (had_event group n p (event_of_try group d.steps p thread) d) (had_event group m p o e)) comes had)

attempts_same : (group : GroupStart) (n m p thread times : ℕ) (d e : RunProgress) → AreSameSteps d e → AreSameSteps (run_attempts group n p thread times d) (run_attempts group m p thread times e)
unfolding run_attempts
attempts_same group n m p thread zero d e before = before
attempts_same group n m p thread (suc times) d e before =
    attempts_same group n m p thread times (attempt group n p thread d) (attempt group m p thread e) (attempt_same group n m p thread d e before)

step_same : (step : RunStep) (d e : RunProgress) → AreSameSteps d e → AreSameSteps (with_step step d) (with_step step e)
step_same step d e before = record { steps = ap (λ (steps : List RunStep). step ∷ steps) before.steps; full = before.full }

step_if_same : (step : RunStep) (b c : Bool) (d e : RunProgress) → b ≡ c → AreSameSteps d e → AreSameSteps (with_step_if b step d) (with_step_if c step e)
step_if_same step true true d e is before = step_same step d e before
step_if_same step true false d e is before = absurd (cc)
step_if_same step false true d e is before = absurd (cc)
step_if_same step false false d e is before = record { steps = before.steps; full = before.full }

does_same : (group : GroupStart) (n m : ℕ) (i : Item) (d e : RunProgress) → AreSameSteps d e → AreSameSteps (done_by_item group n i d) (done_by_item group m i e)
does_same group n m (item.Run p thread times) d e before = attempts_same group n m p thread times d e before
does_same group n m (item.Deliver p k) d e before =
    step_if_same (Did (world.Deliver p k)) (has_sent (processes_in_group group) d.steps p k) (has_sent (processes_in_group group) e.steps p k) d e
    (ap (λ (steps : List RunStep). has_sent (processes_in_group group) steps p k) before.steps) before
does_same group n m (item.Inject p bytes) d e before = step_same (Did (world.Inject p bytes)) d e before
does_same group n m (item.Clock p value) d e before = step_same (Did (world.Clock p (cast_unsigned w64 value))) d e before
does_same group n m (item.Random p bytes) d e before = step_same (Did (world.Random p bytes)) d e before
does_same group n m (item.Signal p s) d e before = step_same (Did (world.Signal p s)) d e before
does_same group n m (item.Kill p) d e before =
    step_if_same (Did (world.Kill p)) (can_be_killed group d.steps p) (can_be_killed group e.steps p) d e
    (ap (λ (steps : List RunStep). can_be_killed group steps p) before.steps) before

item_same : (group : GroupStart) (n m : ℕ) (i : Item) (d e : RunProgress) → AreSameSteps d e → AreSameSteps (after_item group n i d) (after_item group m i e)
item_same group n m i d e before = unless_same d e (done_by_item group n i d) (done_by_item group m i e) before (does_same group n m i d e before)

-- ---- what is idle

unless_idle : (d next : RunProgress) → AreSameSteps next d → AreSameSteps (unless_log_full d next) d
unless_idle d next after = by_full (is_some d.full)
  where
    by_full : (b : Bool) → AreSameSteps (cond b d next) d
    by_full true = same d
    by_full false = after

attempt_idle : (group : GroupStart) (n p thread : ℕ) (d : RunProgress) → event_of_try group d.steps p thread ≡ None → AreSameSteps (attempt group n p thread d) d
attempt_idle group n p thread d none =
    unless_idle d (had_event group n p (event_of_try group d.steps p thread) d)
    (subst (λ (o : Option Event). AreSameSteps (had_event group n p o d) d) (sym none) (record { steps = refl; full = refl }))

attempts_idle : (group : GroupStart) (n p thread times : ℕ) (d : RunProgress) → event_of_try group d.steps p thread ≡ None → AreSameSteps (run_attempts group n p thread times d) d
unfolding run_attempts
attempts_idle group n p thread zero d none = same d
attempts_idle group n p thread (suc times) d none =
    let tried = attempt group n p thread d in
    let idle = attempt_idle group n p thread d none in
    then_same (run_attempts group n p thread times tried) tried d
    (attempts_idle group n p thread times tried (ap (λ (steps : List RunStep). event_of_try group steps p thread) idle.steps ∙ none)) idle

-- the tries after the last that may make an event
tries_idle : (group : GroupStart) (n p thread few times : ℕ) (d : RunProgress) → few ≤ times → event_of_try group (run_attempts group n p thread few d).steps p thread ≡ None
    → AreSameSteps (run_attempts group n p thread times d) (run_attempts group n p thread few d)
unfolding run_attempts
tries_idle group n p thread zero times d within none = attempts_idle group n p thread times d none
tries_idle group n p thread (suc few) zero d within none = absurd (omega (arith, within))
tries_idle group n p thread (suc few) (suc times) d within none = tries_idle group n p thread few times (attempt group n p thread d) (omega (arith, within)) none

does_idle : (group : GroupStart) (n : ℕ) (i : Item) (d : RunProgress) → IsIdleItem group d.steps i → AreSameSteps (done_by_item group n i d) d
does_idle group n (item.Run p thread times) d idle = attempts_idle group n p thread times d idle
does_idle group n (item.Deliver p k) d idle =
    subst (λ (b : Bool). AreSameSteps (with_step_if b (Did (world.Deliver p k)) d) d) (sym idle) (record { steps = refl; full = refl })
does_idle group n (item.Inject p bytes) d idle = absurd idle
does_idle group n (item.Clock p value) d idle = absurd idle
does_idle group n (item.Random p bytes) d idle = absurd idle
does_idle group n (item.Signal p s) d idle = absurd idle
does_idle group n (item.Kill p) d idle = subst (λ (b : Bool). AreSameSteps (with_step_if b (Did (world.Kill p)) d) d) (sym idle) (record { steps = refl; full = refl })

-- ---- the whole

without : (group : GroupStart) (m : ℕ) (other : RunProgress) {n : ℕ} {so_far : RunProgress} {items fewer : List Item} → LeavesOutIdle group n so_far items fewer → AreSameSteps so_far other
    → AreSameSteps (after_items group n items so_far) (after_items group m fewer other)
without group m other ended before = before
without group m other (kept {number} {done} {i} rest) before =
    without group (suc m) (after_item group m i other) rest (item_same group number m i done other before)
without group m other (left_out {number} {done} {i} idle rest) before =
    let nothing = unless_idle done (done_by_item group number i done) (does_idle group number i done idle) in
    without group m other rest (then_same (after_item group number i done) done other nothing before)
without group m other (fewer_tries {number} {done} {items} {fewer} {p} {thread} {times} {few} within none rest) before =
    let long = item.Run p thread times in
    let short = item.Run p thread few in
    let cut = unless_same done done (done_by_item group number long done) (done_by_item group number short done) (same done) (tries_idle group number p thread few times done within none) in
    without group (suc m) (after_item group m short other) rest
    (then_same (after_item group number long done) (after_item group number short done) (after_item group m short other) cut (item_same group number m short done other before))

pub idle_left_out : IdleLeftOut
idle_left_out group items fewer leaves = without group 1 no_progress_yet leaves (same no_progress_yet)
