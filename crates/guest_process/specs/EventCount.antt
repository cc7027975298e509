-- The count of a process's events.
use Rattle.std.specs.Prelude.{◌≡◌, ℕ, ◌+◌, Some, None}
use Rattle.lib_calls.specs.declared.entry.Entry.{Entry}
use Rattle.wasm_types.specs.Modules.{Module}
use Rattle.guest_process.specs.Legal.{reason}
use Rattle.guest_process.specs.Next.{next}
use Rattle.guest_process.specs.Start.{start}
use Rattle.guest_process.specs.State.{State}

-- a process before its first event, with this number and in a group of so many
pub record IsFresh (number size : ℕ) (S : State) : Type 0 where
  pub who : S.who ≡ number
  pub count : S.count ≡ size
  pub events : S.events ≡ 0
  pub clock : S.clock ≡ 0

-- a process begins with no event
abbrev pub BeginsFresh : Type 0
BeginsFresh = (m : Module) (who count : ℕ) (S : State) → start m who count ≡ Some S → IsFresh who count S

-- and each legal entry is the entry of one event more
abbrev pub CountsEvents : Type 0
CountsEvents = (S : State) (e : Entry) → reason S e ≡ None → (next S e).events ≡ S.events + 1
