-- What holds of heads, entries and whole logs, whatever the bytes are.
use Rattle.std.specs.Prelude.{◌≡◌, ℕ, ◌+◌, ◌^◌, ◌<◌, ◌≤◌, ◌↔◌, List, [], ◌++◌, length, take, Some, None, All}
use Rattle.lamport_tag.specs.declared.Tag.{Tag}
use Rattle.lib_calls.specs.declared.entry.Entry.{Entry}
use Rattle.lib_calls.specs.Entry.{IsShaped}
use Rattle.lib_calls.specs.Limits.{most_call_bytes}
use Rattle.call_log.specs.declared.version.Version.{Version}
use Rattle.call_log.specs.declared.version.Version.TheVariants.{One, Two}
use Rattle.call_log.specs.Entry.{clock_after, encoding, encodings}
use Rattle.call_log.specs.Head.{Head, IsHead, head_bytes}
use Rattle.call_log.specs.Log.{HoldsEntries, Unread, unread_after_head, entries_of, entry_at, head_at, unread_after_entry, rest_of_log, rewritten_log}
use Rattle.lamport_tag.specs.Limits.{most_clock}

-- ---- reading

-- the head that is found is the one that is in front
abbrev pub FindsHeads : Type 0
FindsHeads = (bytes : List ℕ) (head : Head) (left : Unread) → (head_at bytes ≡ Some (head, left)) ↔ (IsHead head × ((bytes ≡ head_bytes head ++ left.bytes) × (left ≡ unread_after_head head left.bytes)))

-- the entry that is found is the one that is in front
abbrev pub FindsEntries : Type 0
FindsEntries = (left : Unread) (e : Entry) (next : Unread) → (entry_at left ≡ Some (e, next)) ↔ (IsShaped e × ((left.bytes ≡ encoding left.version left.last e ++ next.bytes) × (next ≡ unread_after_entry left e next.bytes)))

-- what is left holds the entries that are read of it and the rest, and nothing else
abbrev pub FindsAllEntries : Type 0
FindsAllEntries = (left : Unread) (entries : List Entry) (rest : List ℕ) → HoldsEntries left entries rest ↔ ((entries_of left ≡ entries) × (rest_of_log left ≡ rest))

-- entries that were written one after the other are held, and nothing is left
abbrev pub HoldsWrittenEntries : Type 0
HoldsWrittenEntries = (v : Version) (last : ℕ) (entries : List Entry) → All IsShaped entries → HoldsEntries (record { version = v; last = last; bytes = encodings v last entries }) entries []

-- and where the last one was written in part, that part is left
abbrev pub HoldsCutEntry : Type 0
HoldsCutEntry = (v : Version) (last : ℕ) (entries : List Entry) (e : Entry) (n : ℕ) → All IsShaped entries → IsShaped e → n < length (encoding v (clock_after last entries) e)
    → HoldsEntries (record { version = v; last = last; bytes = encodings v last entries ++ take n (encoding v (clock_after last entries) e) }) entries (take n (encoding v (clock_after last entries) e))

-- reading gives exactly what is in a log
pub record ExactLogs : Type 0 where
  pub heads : FindsHeads
  pub entries : FindsEntries
  pub all : FindsAllEntries
  pub holds_written : HoldsWrittenEntries
  pub holds_cut : HoldsCutEntry

-- ---- the two versions

-- a tag that a process can have sent, and a datagram with it that was taken
pub record IsNearTag (last : ℕ) (e : Entry) (tag : Tag) : Type 0 where
  pub sender : tag.sender < 128
  pub sent : tag.clock ≤ most_clock
  pub reply : e.reply ≤ most_call_bytes
  pub clock : e.clock ≤ last + (most_clock + 1)

-- An entry whose numbers are no greater than those of an event, after an entry with the clock `last`. Arguments, the
-- signal and the reply of an entry without a tag may be any.
pub record IsCommonEntry (last : ℕ) (e : Entry) : Type 0 where
  pub thread : e.thread < 128
  pub outgoing : length e.outgoing ≤ most_call_bytes
  pub incoming : length e.incoming ≤ most_call_bytes
  pub later : last ≤ e.clock
  pub plain : e.tag ≡ None → e.clock < last + 2 ^ 14
  pub tagged : (tag : Tag) → e.tag ≡ Some tag → IsNearTag last e tag

-- such an entry takes no more bytes in version 2 than in version 1
abbrev pub NoLonger : Type 0
NoLonger = (last : ℕ) (e : Entry) → IsShaped e → IsCommonEntry last e → length (encoding Two last e) ≤ length (encoding One last e)

-- ---- a log that is written again

-- these bytes are a log with this head but for the version, which is 2, these entries, and nothing after them
pub record IsNewerLog (head : Head) (es : List Entry) (bytes : List ℕ) : Type 0 where
  pub left : Unread
  pub found : head_at bytes ≡ Some (record head { version = Two }, left)
  pub entries : entries_of left ≡ es
  pub rest : rest_of_log left ≡ []

-- and so is what a log with this head is rewritten to
abbrev pub RewrittenIsRead : Type 0
RewrittenIsRead = (head : Head) (es : List Entry) → IsHead head → All IsShaped es → IsNewerLog head es (rewritten_log head es)
