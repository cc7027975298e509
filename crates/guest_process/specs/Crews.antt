-- What an event does to the other threads, and to the locks.
use Rattle.std.specs.Prelude.{◌≡◌, ◌≢◌, ℕ, ◌+◌, ◌<◌, Some, None, slice_get, length}
use Rattle.call_table.specs.declared.kind.Kind.TheVariants.{Spawn, Lock, Unlock}
use Rattle.coop_threads.specs.Crew.{holder_of, most_threads}
use Rattle.coop_threads.specs.declared.slot.Slot.TheVariants.{Kept}
use Rattle.lib_calls.specs.declared.entry.Entry.{Entry}
use Rattle.wasm_store.specs.Store.{handler_at}
use Rattle.wasm_step.specs.Strand.{new_thread}
use Rattle.wasm_stack.specs.Thread.{Thread}
use Rattle.guest_process.specs.Answers.{narrow}
use Rattle.guest_process.specs.Fits.{StateFits}
use Rattle.guest_process.specs.Legal.{reason}
use Rattle.guest_process.specs.Next.{next}
use Rattle.guest_process.specs.Start.{waiting_at}
use Rattle.guest_process.specs.State.{State}

-- an event of one thread leaves each other one that was made where it stands or ended
abbrev pub OtherThreadsStay : Type 0
OtherThreadsStay = (S : State) (e : Entry) → StateFits S → reason S e ≡ None
    → (t : ℕ) → t ≢ e.thread → t < length S.crew.threads → slice_get (next S e).crew.threads t ≡ slice_get S.crew.threads t

-- the event makes one more thread, which is live at `begin`
pub record SpawnsThread (S : State) (e : Entry) (S' : State) : Type 0 where
  pub func : ℕ
  pub thread : Thread
  pub kind : e.call.kind ≡ Spawn
  pub room : length S.crew.threads < most_threads
  pub found : handler_at S.store (narrow e.call.a0) ≡ Some func
  pub starts : new_thread S.store.«module» func (narrow e.call.a1) ≡ Some thread
  pub one_more : length S'.crew.threads ≡ length S.crew.threads + 1
  pub made : slice_get S'.crew.threads (length S.crew.threads) ≡ Some (Kept (waiting_at S.store.«module» thread))

-- what an event does to the number of threads
pub data ThreadCountAfter (S : State) (e : Entry) (S' : State) : Type 0 where
  AsMany : length S'.crew.threads ≡ length S.crew.threads → ThreadCountAfter S e S'
  OneMore : SpawnsThread S e S' → ThreadCountAfter S e S'

-- no event but one of `spawn` makes a thread
abbrev pub OnlySpawnAdds : Type 0
OnlySpawnAdds = (S : State) (e : Entry) → StateFits S → reason S e ≡ None → ThreadCountAfter S e (next S e)

-- the event takes a lock that was free for its thread
pub record TakesLock (S : State) (e : Entry) (m : ℕ) (S' : State) : Type 0 where
  pub kind : e.call.kind ≡ Lock
  pub lock : narrow e.call.a0 ≡ m
  pub free : holder_of S.crew m ≡ None
  pub held : holder_of S'.crew m ≡ Some e.thread

-- the event gives back a lock that its thread held
pub record GivesLockBack (S : State) (e : Entry) (m : ℕ) (S' : State) : Type 0 where
  pub kind : e.call.kind ≡ Unlock
  pub lock : narrow e.call.a0 ≡ m
  pub held : holder_of S.crew m ≡ Some e.thread
  pub free : holder_of S'.crew m ≡ None

-- what an event does to a lock
pub data LockAfter (S : State) (e : Entry) (m : ℕ) (S' : State) : Type 0 where
  Same : holder_of S'.crew m ≡ holder_of S.crew m → LockAfter S e m S'
  Locked : TakesLock S e m S' → LockAfter S e m S'
  Unlocked : GivesLockBack S e m S' → LockAfter S e m S'

-- a lock has one holder from its `lock` to its `unlock`, whatever else happens
abbrev pub LockKept : Type 0
LockKept = (S : State) (e : Entry) → StateFits S → reason S e ≡ None → (m : ℕ) → LockAfter S e m (next S e)
