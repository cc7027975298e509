-- The head of some bytes, a log of which some entries were read, and the entries and the rest of what is left.
use Rattle.std.specs.Prelude.{◌≡◌, ℕ, zero, suc, ◌^◌, Bool, true, ◌&&◌, nat_eq, nat_lt, nat_le, if◌then◌else◌, List, [], ◌∷◌, ◌++◌, length, drop, Option, Some, None, option_and_then, All}
use Rattle.std.specs.List.{starts_with}
use Rattle.lamport_tag.specs.declared.Tag.{Tag}
use Rattle.lib_calls.specs.declared.entry.Call.{Call}
use Rattle.lib_calls.specs.Entry.{IsShaped}
use Rattle.call_table.specs.Table.{row}
use Rattle.lib_calls.specs.declared.entry.Entry.{Entry}
use Rattle.call_log.specs.declared.version.Version.{Version}
use Rattle.call_log.specs.declared.version.Version.TheVariants.{Two}
use Rattle.call_log.specs.Entry.{BeginsNoEntry, clock_after, encoding, encodings}
use Rattle.call_log.specs.Head.{Head, head_bytes}
use Rattle.fri_text.specs.Name.{is_name}
use Rattle.call_log.specs.Reading.{read_entry, read_head}
use Rattle.lamport_tag.specs.Limits.{most_processes}

-- What was not read of a log: its version, the clock of the entry that was read last, or 0 before the first,
-- and the bytes that are left.
pub record Unread : Type 0 where
  pub version : Version
  pub last : ℕ
  pub bytes : List ℕ

-- the head, and what is left after the entries that were read
pub record Log : Type 0 where
  pub head : Head
  pub left : Unread

-- these bytes, after a head
abbrev pub unread_after_head : Head → List ℕ → Unread
unread_after_head head bytes = record { version = head.version; last = 0; bytes = bytes }

-- these bytes, after an entry of what was left
abbrev pub unread_after_entry : Unread → Entry → List ℕ → Unread
unread_after_entry left e bytes = record { version = left.version; last = e.clock; bytes = bytes }

-- what is left is these entries and then the rest, and there is no longer list of entries
pub record HoldsEntries (left : Unread) (entries : List Entry) (rest : List ℕ) : Type 0 where
  pub shaped : All IsShaped entries
  pub spelled : left.bytes ≡ encodings left.version left.last entries ++ rest
  pub longest : BeginsNoEntry left.version (clock_after left.last entries) rest

-- a log of version 2 with this head but for the version, and these entries
abbrev pub rewritten_log : Head → List Entry → List ℕ
rewritten_log head entries = head_bytes (record head { version = Two }) ++ encodings Two 0 entries

-- ---- what is at the front of some bytes, as functions

-- the test of `IsNumberIf`
abbrev pub is_number_if : Bool → ℕ → Bool
is_number_if has n = if has then nat_lt n (2 ^ 64) else nat_le n 0

-- the test of `IsStringIf`
abbrev pub is_string_if : Bool → List ℕ → Bool
is_string_if has bytes = if has then nat_lt (length bytes) (2 ^ 31) else nat_le (length bytes) 0

-- the test of `IsTagIf`
abbrev pub is_tag_if : Bool → Option Tag → Bool
is_tag_if has None = true
is_tag_if has (Some tag) = has && nat_lt tag.sender (2 ^ 32) && nat_lt tag.clock (2 ^ 64)

-- the test of `HasArguments`
unfoldable pub has_arguments : Call → Bool
has_arguments call =
    is_number_if (nat_lt 0 (row call.kind).signature.params) call.a0
    && is_number_if (nat_lt 1 (row call.kind).signature.params) call.a1
    && is_number_if (nat_lt 2 (row call.kind).signature.params) call.a2

-- the test of `IsShaped`
unfoldable pub is_shaped : Entry → Bool
is_shaped e =
    nat_lt e.clock (2 ^ 64)
    && nat_lt e.thread (2 ^ 16)
    && nat_lt e.signal (2 ^ 8)
    && has_arguments e.call
    && nat_lt e.reply (2 ^ 64)
    && is_string_if (row e.call.kind).entry.outgoing e.outgoing
    && is_string_if (row e.call.kind).entry.incoming e.incoming
    && is_tag_if (row e.call.kind).entry.tag e.tag

-- the entry, where it is one and the bytes begin with its encoding, and what is left after it
unfoldable pub entry_in : Unread → Entry → Option (Entry × Unread)
entry_in left e =
    if is_shaped e && starts_with nat_eq left.bytes (encoding left.version left.last e)
    then Some (e, unread_after_entry left e (drop (length (encoding left.version left.last e)) left.bytes))
    else None

-- the entry at the front of what is left and what is left after it, or nothing where none is there
unfoldable pub entry_at : Unread → Option (Entry × Unread)
entry_at left = option_and_then (λ x. entry_in left x.0) (read_entry left.version left.last left.bytes)

-- the entries at the front of some bytes, and the bytes after them
pub record EntriesAndRest : Type 0 where
  pub entries : List Entry
  pub rest : List ℕ

-- and this entry in front of them
abbrev pub with_first_entry : Entry → EntriesAndRest → EntriesAndRest
with_first_entry e w = record w { entries = e ∷ w.entries }

-- the entry that was found in front of those that follow, or none, and then all bytes are left
abbrev pub entries_walk_then : (Unread → EntriesAndRest) → List ℕ → Option (Entry × Unread) → EntriesAndRest
entries_walk_then more bytes None = record { entries = []; rest = bytes }
entries_walk_then more bytes (Some x) = with_first_entry x.0 (more x.1)

-- at most so many entries at the front of what is left
unfoldable pub entries_walk_within : ℕ → Unread → EntriesAndRest
entries_walk_within zero left = record { entries = []; rest = left.bytes }
entries_walk_within (suc limit) left = entries_walk_then (entries_walk_within limit) left.bytes (entry_at left)

-- all entries at the front of what is left, which are no more than it has bytes
unfoldable pub entries_of : Unread → List Entry
entries_of left = (entries_walk_within (length left.bytes) left).entries

-- the bytes after all of them
unfoldable pub rest_of_log : Unread → List ℕ
rest_of_log left = (entries_walk_within (length left.bytes) left).rest

-- the test of `IsHead`
unfoldable pub is_head : Head → Bool
is_head h = nat_le 1 h.count && nat_le h.count most_processes && nat_lt h.process h.count && is_name h.name

-- the head, where it is one and the bytes begin with its spelling, and what is left after it
unfoldable pub head_in : List ℕ → Head → Option (Head × Unread)
head_in bytes h =
    if is_head h && starts_with nat_eq bytes (head_bytes h) then Some (h, unread_after_head h (drop (length (head_bytes h)) bytes)) else None

-- the head at the front of the bytes and what is left after it, or nothing where none is there
unfoldable pub head_at : List ℕ → Option (Head × Unread)
head_at bytes = option_and_then (λ x. head_in bytes x.0) (read_head bytes)
