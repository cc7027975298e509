-- How a run stands at each of its moments: each step is one that could follow those before it, and each process
-- is in the state that the replay of its entries makes.
use Rattle.std.specs.Prelude.{◌≡◌, ℕ, ◌<◌, ◌≤◌, ◌^◌, IsTrue, All, List, [], ◌∷◌, length, slice_get, Some}
use Rattle.schedule_text.specs.declared.item.Item.{Item}
use Rattle.schedule_text.specs.Schedule.{IsInRange}
use Rattle.guest_signals.specs.Signals.{most_signal}
use Rattle.guest_process.specs.Fits.{StateFits}
use Rattle.guest_process.specs.Live.{Event}
use Rattle.guest_process.specs.Replay.{replayed}
use Rattle.guest_process.specs.State.{State}
use Rattle.group_world.specs.History.{Act}
use Rattle.group_world.specs.History as world
use Rattle.group_world.specs.Laws.{IsPossibleHistory}
use Rattle.group_record.specs.Run.{GroupStart, RunStep, Had, Did, IsMoment, can_be_killed, entries_of_steps, event_of_try, has_sent, history_of_steps, log_has_room, process_after, run, processes_in_group}
use Rattle.group_record.specs.Laws.{IsBegun}

-- ---- the steps

-- the event of a try of some thread, for which the log has room
pub record IsHadEvent (group : GroupStart) (early : List RunStep) (p : ℕ) (e : Event) : Type 0 where
  pub within : p < processes_in_group group
  pub thread : ℕ
  pub comes : event_of_try group early p thread ≡ Some e
  pub room : IsTrue (log_has_room group early p e)

-- what another item does. A datagram that is delivered was sent by then, a process that is killed ran and was not
-- killed before, and a time has 64 bits
abbrev pub IsDoneAct : GroupStart → List RunStep → Act → Type 0
IsDoneAct group early (world.Event p e) = ⊥
IsDoneAct group early (world.Deliver p n) = (p < processes_in_group group) × IsTrue (has_sent (processes_in_group group) early p n)
IsDoneAct group early (world.Inject p bytes) = p < processes_in_group group
IsDoneAct group early (world.Clock p value) = (p < processes_in_group group) × (value < 2 ^ 64)
IsDoneAct group early (world.Random p bytes) = p < processes_in_group group
IsDoneAct group early (world.Signal p signal) = (p < processes_in_group group) × (1 ≤ signal) × (signal ≤ most_signal)
IsDoneAct group early (world.Kill p) = (p < processes_in_group group) × IsTrue (can_be_killed group early p)

-- each step is one that could follow those before it
abbrev pub IsRun : GroupStart → List RunStep → Type 0
IsRun group [] = Unit {0}
IsRun group (Had p e ∷ early) = IsHadEvent group early p e × IsRun group early
IsRun group (Did act ∷ early) = IsDoneAct group early act × IsRun group early

-- ---- the processes

-- how a process stands: in the state that the replay of its entries makes, which is in its ranges
pub record StandsReplayed (group : GroupStart) (early : List RunStep) (p : ℕ) : Type 0 where
  pub first : State
  pub begun : slice_get group.first p ≡ Some first
  pub last : State
  pub stands : process_after group early p ≡ Some last
  pub replay : replayed first (entries_of_steps early p) ≡ last
  pub events : last.events ≡ length (entries_of_steps early p)
  pub count : last.count ≡ processes_in_group group
  pub fits : StateFits last

-- ---- both

-- so a run stands at a moment. The acts are such that the world around the processes is what is counted out of them
pub record IsReachableRun (group : GroupStart) (early : List RunStep) : Type 0 where
  pub steps : IsRun group early
  pub acts : IsPossibleHistory (processes_in_group group) (history_of_steps early)
  pub processes : (p : ℕ) → p < processes_in_group group → StandsReplayed group early p

-- and so it stands at each
abbrev pub Standing : Type 0
Standing = (group : GroupStart) (items : List Item) → IsBegun group → All (IsInRange (processes_in_group group)) items
    → (early : List RunStep) → IsMoment early (run group items).steps → IsReachableRun group early
