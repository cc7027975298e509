-- What the marks of a process tell.
use Rattle.std.specs.Prelude.{◌≡◌, ◌+◌, None}
use Rattle.lib_calls.specs.declared.entry.Entry.{Entry}
use Rattle.wasm_store.specs.Marks.{StoreMarksTell}
use Rattle.guest_process.specs.Fits.{StateFits}
use Rattle.guest_process.specs.Legal.{reason}
use Rattle.guest_process.specs.Next.{next}
use Rattle.guest_process.specs.State.{State}

-- what a legal event does not mark is as it was before it
abbrev pub UnmarkedStays : Type 0
UnmarkedStays = (S : State) (e : Entry) → StateFits S → reason S e ≡ None → StoreMarksTell (S.events + 1) S.store (next S e).store
