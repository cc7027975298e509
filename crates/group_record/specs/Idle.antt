-- What a run is without tries and items that were idle.
use Rattle.std.specs.Prelude.{◌≡◌, ℕ, suc, ◌≤◌, false, is_some, List, [], ◌∷◌, None}
use Rattle.schedule_text.specs.declared.item.Item.{Item}
use Rattle.schedule_text.specs.declared.item.Item.TheVariants as item
use Rattle.group_record.specs.Run.{GroupStart, RunProgress, RunStep, after_item, can_be_killed, event_of_try, has_sent, no_progress_yet, processes_in_group, run, run_attempts}

-- an item that does nothing after these steps
abbrev pub IsIdleItem : GroupStart → List RunStep → Item → Type 0
IsIdleItem group steps (item.Run p thread times) = event_of_try group steps p thread ≡ None
IsIdleItem group steps (item.Deliver p n) = has_sent (processes_in_group group) steps p n ≡ false
IsIdleItem group steps (item.Kill p) = can_be_killed group steps p ≡ false
IsIdleItem group steps _ = ⊥

-- The later items are the earlier ones, from that with this number on, without some that are idle where they come, and with
-- fewer tries of some: after those the thread makes no event. The progress is that of the earlier ones.
pub data LeavesOutIdle (group : GroupStart) : ℕ → RunProgress → List Item → List Item → Type 0 where
  ended : {number : ℕ} {done : RunProgress} → LeavesOutIdle group number done [] []
  kept : {number : ℕ} {done : RunProgress} {i : Item} {items fewer : List Item}
      → LeavesOutIdle group (suc number) (after_item group number i done) items fewer → LeavesOutIdle group number done (i ∷ items) (i ∷ fewer)
  left_out : {number : ℕ} {done : RunProgress} {i : Item} {items fewer : List Item} → IsIdleItem group done.steps i
      → LeavesOutIdle group (suc number) (after_item group number i done) items fewer → LeavesOutIdle group number done (i ∷ items) fewer
  fewer_tries : {number : ℕ} {done : RunProgress} {items fewer : List Item} {p thread times few : ℕ} → few ≤ times
      → event_of_try group (run_attempts group number p thread few done).steps p thread ≡ None
      → LeavesOutIdle group (suc number) (after_item group number (item.Run p thread times) done) items fewer
      → LeavesOutIdle group number done (item.Run p thread times ∷ items) (item.Run p thread few ∷ fewer)

-- two runs made the same steps, and each was stopped by a full log or neither
pub record AreSameSteps (one other : RunProgress) : Type 0 where
  pub steps : one.steps ≡ other.steps
  pub full : is_some one.full ≡ is_some other.full

-- without idle tries and items a schedule has the same run
abbrev pub IdleLeftOut : Type 0
IdleLeftOut = (group : GroupStart) (items fewer : List Item) → LeavesOutIdle group 1 no_progress_yet items fewer → AreSameSteps (run group items) (run group fewer)
