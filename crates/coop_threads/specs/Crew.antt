-- The threads of a process and the locks that they hold.
use Rattle.std.specs.Prelude.{◌≡◌, ℕ, List, [], ◌∷◌, ◌++◌, slice_set, slice_get, Option, Some, None, option_and_then, refl}
use Rattle.std.specs.Coded.{Coded, code_by, coded×, coded_ℕ, coded_list, coded_option}
use Rattle.std.specs.FinMap as map
use Rattle.coop_threads.specs.declared.status.Status.{Status}
use Rattle.coop_threads.specs.declared.status.Status.TheVariants.{Unknown, Live, Taken, Ended}
use Rattle.coop_threads.specs.declared.spawn_error.SpawnError.{SpawnError}
use Rattle.coop_threads.specs.declared.spawn_error.SpawnError.TheVariants.{Full, NoMemory}
use Rattle.coop_threads.specs.declared.slot.Slot.{Slot}
use Rattle.coop_threads.specs.declared.slot.Slot.TheVariants.{Kept, Lent, Over}
use Rattle.coop_threads.specs.Locks.{LockHolders, holders_after}

-- how many threads a process makes at most
abbrev pub most_threads : ℕ
most_threads = 64

-- the threads that were made, in order, and who holds each lock that is held
pub record Crew (T : Type 0) : Type 0 where
  pub threads : List (Slot T)
  pub holders : LockHolders

-- what is stored of a thread
abbrev pub stored_slot : {T : Type 0} → Slot T → Option (Option T)
stored_slot (Kept value) = Some (Some value)
stored_slot Lent = Some None
stored_slot Over = None

-- the thread for which this is stored
abbrev pub slot_of_thread : {T : Type 0} → Option (Option T) → Slot T
slot_of_thread (Some (Some value)) = Kept value
slot_of_thread (Some None) = Lent
slot_of_thread None = Over

-- nothing of a thread is lost by that
pub slot_of-stored : {T : Type 0} (slot : Slot T) → slot_of_thread (stored_slot slot) ≡ slot
slot_of-stored (Kept value) = refl
slot_of-stored Lent = refl
slot_of-stored Over = refl

-- a thread is stored as the value that it may have, where it is not over
abbrev pub slot_code : {T : Type 0} → Coded T → Coded (Slot T)
slot_code {T} code = code_by (Option (Option T)) (coded_option (coded_option code)) stored_slot slot_of_thread slot_of-stored

-- a crew is stored as the pair of its fields
abbrev pub crew_code : {T : Type 0} → Coded T → Coded (Crew T)
crew_code {T} code =
    code_by
    (List (Slot T) × LockHolders)
    (coded× (coded_list (slot_code code)) (map.code coded_ℕ coded_ℕ))
    (λ crew. (crew.threads, crew.holders))
    (λ parts. record { threads = parts.0; holders = parts.1 })
    (λ _. refl)

module _ {T : Type 0} where
  -- no thread and no lock
  abbrev pub empty : Crew T
  empty = record { threads = []; holders = map.empty }

  -- the value of a thread that is here
  abbrev pub value_of : Slot T → Option T
  value_of (Kept value) = Some value
  value_of Lent = None
  value_of Over = None

  -- the value of a live thread
  abbrev pub live_at : Crew T → ℕ → Option T
  live_at crew thread = option_and_then value_of (slice_get crew.threads thread)

  -- how a thread stands
  abbrev pub status_of : Option (Slot T) → Status
  status_of None = Unknown
  status_of (Some (Kept value)) = Live
  status_of (Some Lent) = Taken
  status_of (Some Over) = Ended

  -- the value of the thread was taken out
  abbrev pub IsTaken : Crew T → ℕ → Type 0
  IsTaken crew thread = slice_get crew.threads thread ≡ Some Lent

  -- one more thread, which is live
  abbrev pub with_live : Crew T → T → Crew T
  with_live crew value = record crew { threads = crew.threads ++ Kept value ∷ [] }

  -- the value that comes back where no thread was made
  abbrev pub value_not_spawned : SpawnError T → T
  value_not_spawned (Full value) = value
  value_not_spawned (NoMemory value) = value

  -- the thread stands so, and all else is as it was
  abbrev pub with_slot : Crew T → ℕ → Slot T → Crew T
  with_slot crew thread slot = record crew { threads = slice_set crew.threads thread slot }

  -- the thread that holds a lock
  abbrev pub holder_of : Crew T → ℕ → Option ℕ
  holder_of crew lock = map.get crew.holders lock

  -- the thread asked for the lock
  abbrev pub after_lock : Crew T → ℕ → ℕ → Crew T
  after_lock crew lock thread = record crew { holders = holders_after crew.holders lock thread (map.get crew.holders lock) }

  -- the lock is free
  abbrev pub after_unlock : Crew T → ℕ → Crew T
  after_unlock crew lock = record crew { holders = map.remove crew.holders lock }
