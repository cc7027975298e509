-- What holds of each state that a process of a valid module can have.
use Rattle.std.specs.Prelude.{◌≡◌, ◌+◌, ◌^◌, ◌<◌, ◌≤◌, List, [], ◌∷◌, length}
use Rattle.guest_memory.specs.Stamps.{AreWithin}
use Rattle.coop_threads.specs.Crew.{most_threads}
use Rattle.coop_threads.specs.declared.slot.Slot.{Slot}
use Rattle.coop_threads.specs.declared.slot.Slot.TheVariants.{Kept, Lent, Over}
use Rattle.lib_calls.specs.Entry.{HasArguments}
use Rattle.guest_process.specs.declared.waiting.Waiting.{Waiting}
use Rattle.guest_process.specs.Live.{Env}
use Rattle.guest_process.specs.State.{State}
use Rattle.lamport_tag.specs.Limits.{most_clock, most_processes}

-- the arguments of a pending call are in range
pub record WaitingFits (w : Waiting) : Type 0 where
  pub arguments : HasArguments w.call

-- each thread that is live is such, and none is taken out
abbrev pub HoldsOfSlot : (Waiting → Type 0) → Slot Waiting → Type 0
HoldsOfSlot P (Kept w) = P w
HoldsOfSlot P Lent = ⊥
HoldsOfSlot P Over = Unit {0}

abbrev pub Each : (Waiting → Type 0) → List (Slot Waiting) → Type 0
Each P [] = Unit {0}
Each P (slot ∷ slots) = HoldsOfSlot P slot × Each P slots

-- no tag bears a clock past 2 ^ 62, so a process's clock passes that only by its own events; the event after
-- these is what writes next, and no page, no global and not the memory's size bears the mark of a later one than
-- the last
pub record StateFits (S : State) : Type 0 where
  pub clock : S.clock ≤ most_clock + S.events
  pub room : length S.crew.threads ≤ most_threads
  pub count : S.count ≤ most_processes
  pub who : S.who < S.count
  pub threads : Each WaitingFits S.crew.threads
  pub number : S.store.memory.number ≡ S.events + 1
  pub stamps : AreWithin S.events S.store.memory.stamps
  pub global_stamps : AreWithin S.events S.store.global_stamps
  pub size_stamp : S.store.size_stamp ≤ S.events
  pub even : length S.store.global_stamps ≡ length S.store.globals

-- the world's numbers are in range
pub record EnvFits (env : Env) : Type 0 where
  pub time : env.time < 2 ^ 64
