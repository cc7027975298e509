-- The entries of what is left of a log and the rest after them, entry by entry.
use Rattle.std.specs.Prelude.{◌≡◌, ◌+◌, ◌≤◌, [], ◌∷◌, length, Some, None}
use Rattle.lib_calls.specs.declared.entry.Entry.{Entry}
use Rattle.call_log.specs.Limits.{least_entry}
use Rattle.call_log.specs.Log.{Unread, entry_at, entries_of, rest_of_log}

-- an entry at the front, and what is after it
pub record IsNextEntry (left : Unread) (e : Entry) (next : Unread) : Type 0 where
  pub shorter : length next.bytes + least_entry ≤ length left.bytes
  pub entries : entries_of left ≡ e ∷ entries_of next
  pub rest : rest_of_log left ≡ rest_of_log next

abbrev pub EntryStep : Type 0
EntryStep = (left : Unread) (e : Entry) (next : Unread) → entry_at left ≡ Some (e, next) → IsNextEntry left e next

-- after the last entry
pub record IsEndOfEntries (left : Unread) : Type 0 where
  pub entries : entries_of left ≡ []
  pub rest : rest_of_log left ≡ left.bytes

abbrev pub IsEndOfLog : Type 0
IsEndOfLog = (left : Unread) → entry_at left ≡ None → IsEndOfEntries left
