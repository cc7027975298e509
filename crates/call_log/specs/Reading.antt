-- What the readers find at the front of some bytes, field by field. The laws of proofs/ say that this is
-- exactly what the bytes spell.
use Rattle.std.specs.Prelude.{ℕ, ◌^◌, Bool, ◌&&◌, ◌==◌, nat_lt, nat_le, if◌then◌else◌, List, [], length, codes, Option, Some, None, option_and_then}
use Rattle.std.specs.Str.{bytes_eq}
use Rattle.std.specs.Int.{w16, w32, w64}
use Rattle.fri_bytes.specs.Reading.{byte_at, piece_at, le_at}
use Rattle.lamport_tag.specs.declared.Tag.{Tag}
use Rattle.lib_calls.specs.declared.entry.Call.{Call}
use Rattle.call_table.specs.Table.{kind_numbered, row}
use Rattle.call_table.specs.declared.kind.Kind.{Kind}
use Rattle.lib_calls.specs.declared.entry.Entry.{Entry}
use Rattle.call_log.specs.declared.version.Version.{Version}
use Rattle.call_log.specs.Version.{clock_at, number_at, version_numbered}
use Rattle.call_log.specs.Head.{Head}
use Rattle.fri_text.specs.Name.{is_name}
use Rattle.lamport_tag.specs.Limits.{most_processes}

infixl 10 ◌>>=◌
-- a step, and the next one where it gave something
abbrev pub ◌>>=◌ : {A B : Type 0} → Option A → (A → Option B) → Option B
o >>= f = option_and_then f o

-- ---- an entry

-- the kind of a call, which one byte has by its number
unfoldable pub kind_byte_at : List ℕ → Option (Kind × List ℕ)
kind_byte_at bytes = do
  number ← byte_at bytes
  kind ← kind_numbered number.0
  Some (kind, number.1)

-- a number, where the kind has it
abbrev pub number_if_at : Version → Bool → List ℕ → Option (ℕ × List ℕ)
number_if_at v has bytes = if has then number_at v w64 bytes else Some (0, bytes)

-- the arguments of a call
unfoldable pub call_at : Version → Kind → List ℕ → Option (Call × List ℕ)
call_at v kind bytes = do
  a0 ← number_if_at v (nat_lt 0 (row kind).signature.params) bytes
  a1 ← number_if_at v (nat_lt 1 (row kind).signature.params) a0.1
  a2 ← number_if_at v (nat_lt 2 (row kind).signature.params) a1.1
  Some (record { kind = kind; a0 = a0.0; a1 = a1.0; a2 = a2.0 }, a2.1)

-- a byte string
unfoldable pub string_at : Version → List ℕ → Option (List ℕ × List ℕ)
string_at v bytes = do
  size ← number_at v w32 bytes
  if nat_lt size.0 (2 ^ 31) then piece_at size.0 size.1 else None

-- a byte string, where the kind has it
abbrev pub string_if_at : Version → Bool → List ℕ → Option (List ℕ × List ℕ)
string_if_at v has bytes = if has then string_at v bytes else Some ([], bytes)

-- a tag
unfoldable pub tag_fields_at : Version → List ℕ → Option (Tag × List ℕ)
tag_fields_at v bytes = do
  sender ← number_at v w32 bytes
  clock ← number_at v w64 sender.1
  Some (record { sender = sender.0; clock = clock.0 }, clock.1)

-- a tag after its flag, or the flag that there is none
unfoldable pub flagged_tag_at : Version → List ℕ → Option (Option Tag × List ℕ)
flagged_tag_at v bytes = do
  flag ← byte_at bytes
  if flag.0 == 0 then Some (None, flag.1) else
      (if flag.0 == 1 then tag_fields_at v flag.1 >>= (λ tag. Some (Some tag.0, tag.1)) else None)

-- the same, where the kind may have a tag
abbrev pub tag_if_at : Version → Bool → List ℕ → Option (Option Tag × List ℕ)
tag_if_at v has bytes = if has then flagged_tag_at v bytes else Some (None, bytes)

-- an entry that is the whole of the bytes, without its length, after an entry with the clock `last`
unfoldable pub body_at : Version → ℕ → List ℕ → Option Entry
body_at v last bytes = do
  clock ← clock_at v last bytes
  thread ← number_at v w16 clock.1
  kind ← kind_byte_at thread.1
  signal ← byte_at kind.1
  call ← call_at v kind.0 signal.1
  reply ← number_at v w64 call.1
  outgoing ← string_if_at v (row kind.0).entry.outgoing reply.1
  incoming ← string_if_at v (row kind.0).entry.incoming outgoing.1
  tag ← tag_if_at v (row kind.0).entry.tag incoming.1
  if nat_le (length tag.1) 0
      then Some (record {
        clock = clock.0;
        thread = thread.0;
        signal = signal.0;
        call = call.0;
        reply = reply.0;
        outgoing = outgoing.0;
        incoming = incoming.0;
        tag = tag.0;
      })
      else None

-- an entry at the front, and the bytes after it
unfoldable pub read_entry : Version → ℕ → List ℕ → Option (Entry × List ℕ)
read_entry v last bytes = do
  size ← number_at v w32 bytes
  within ← piece_at size.0 size.1
  entry ← body_at v last within.0
  Some (entry, within.1)

-- ---- a head

-- the bytes that are to be at the front, and the bytes after them
abbrev pub log_mark_at : List ℕ → List ℕ → Option (List ℕ × List ℕ)
log_mark_at mark bytes = piece_at (length mark) bytes >>= (λ piece. if bytes_eq piece.0 mark then Some piece else None)

-- a name after its length
unfoldable pub name_at : List ℕ → Option (List ℕ × List ℕ)
name_at bytes = do
  size ← byte_at bytes
  name ← piece_at size.0 size.1
  if is_name name.0 then Some name else None

-- a head at the front, and the bytes after it
unfoldable pub read_head : List ℕ → Option (Head × List ℕ)
read_head bytes = do
  magic ← log_mark_at (codes "LLOG") bytes
  number ← le_at w32 magic.1
  version ← version_numbered number.0
  count ← le_at w32 number.1
  process ← le_at w32 count.1
  name ← name_at process.1
  if nat_le 1 count.0 && nat_le count.0 most_processes && nat_lt process.0 count.0
      then Some (record { version = version; count = count.0; process = process.0; name = name.0 }, name.1)
      else None
