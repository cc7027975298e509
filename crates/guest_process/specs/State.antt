-- The state of a process.
use Rattle.std.specs.Prelude.{ℕ, ◌+◌, Bool, true, false, List, Option}
use Rattle.coop_threads.specs.Crew.{Crew, live_at, after_lock, with_live, with_slot, after_unlock}
use Rattle.coop_threads.specs.declared.slot.Slot.{Slot}
use Rattle.guest_memory.specs.Memory.{Memory}
use Rattle.wasm_store.specs.Store.{Store}
use Rattle.guest_process.specs.declared.end.End.{End}
use Rattle.guest_process.specs.declared.end.End.TheVariants.{Running}
use Rattle.guest_process.specs.declared.waiting.Waiting.{Waiting}

-- its number and its group's size; its module with memory, globals and table; the threads that were
-- made, each of which is at a pending call or has ended, and the locks that they hold; the function
-- that handles each signal; the clock of its last event, or 0; how many events it has had, and the thread of the last;
-- how it ended; and where that was by a trap, the functions of the frames of the thread that trapped, which is that of the
-- last event, as they were before the instruction that trapped, the innermost first
pub record State : Type 0 where
  pub who : ℕ
  pub count : ℕ
  pub store : Store
  pub crew : Crew Waiting
  pub handlers : List (Option ℕ)
  pub clock : ℕ
  pub events : ℕ
  pub last_thread : Option ℕ
  pub end : End
  pub trap_frames : List ℕ

-- the thread with this number and its pending call, where it is live
abbrev pub thread_at : State → ℕ → Option Waiting
thread_at S t = live_at S.crew t

-- thread t stands so
abbrev pub with_thread : State → ℕ → Slot Waiting → State
with_thread S t slot = record S { crew = with_slot S.crew t slot }

-- one more thread, which stands so
abbrev pub with_new_thread : State → Waiting → State
with_new_thread S w = record S { crew = with_live S.crew w }

-- thread t asked for the lock m
abbrev pub with_lock : State → ℕ → ℕ → State
with_lock S m t = record S { crew = after_lock S.crew m t }

-- the lock m is free
abbrev pub without_lock : State → ℕ → State
without_lock S m = record S { crew = after_unlock S.crew m }

-- the handlers are these
abbrev pub with_handlers : State → List (Option ℕ) → State
with_handlers S handlers = record S { handlers = handlers }

-- the memory is this one
abbrev pub with_memory : State → Memory → State
with_memory S memory = record S { store = record S.store { memory = memory } }

-- what is written from now on is written by the event after those that it has had
abbrev pub awaits_event : State → State
awaits_event S = with_memory S (record S.store.memory { number = S.events + 1 })

abbrev pub is_running_end : End → Bool
is_running_end Running = true
is_running_end _ = false

abbrev pub is_running : State → Bool
is_running S = is_running_end S.end
