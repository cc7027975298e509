-- The parts of an entry: their bytes, and what the functions give that read one.
use Rattle.std.specs.Prelude.{ℕ, ◌+◌, ◌==◌, ◌&&◌, Bool, not, nat_lt, if◌then◌else◌, List, [], ◌∷◌, ◌++◌, ◌≡◌, length, Option, Some, None}
use Rattle.std.specs.List.{concat}
use Rattle.std.specs.Int.{w16, w32, w64}
use Rattle.lib_calls.specs.declared.entry.Entry.{Entry}
use Rattle.call_log.specs.declared.version.Version.{Version}
use Rattle.call_table.specs.Table.{row}
use Rattle.fri_bytes.specs.Reading.{CursorState}
use Rattle.call_log.specs.Version.{clock_bytes, clock_gap, number_bytes}
use Rattle.call_log.specs.Entry.{argument_bytes, string_if, tag_if}

-- the fields of an entry before its arguments
unfoldable pub front_bytes : Version → ℕ → Entry → List ℕ
front_bytes v last e = concat (clock_bytes v last e.clock ∷ number_bytes v w16 e.thread ∷ ((row e.call.kind).number ∷ e.signal ∷ []) ∷ [])

-- the length of bytes, where the kind has them
abbrev pub length_if : Version → Bool → ℕ → List ℕ
length_if v has n = if has then number_bytes v w32 n else []

-- those after its arguments and before its tag, but for its outgoing bytes, of which there are so many
unfoldable pub reply_bytes : Version → ℕ → Entry → List ℕ
reply_bytes v sent e = number_bytes v w64 e.reply ++ (length_if v (row e.call.kind).entry.outgoing sent ++ string_if v (row e.call.kind).entry.incoming e.incoming)

-- all fields but for its outgoing bytes
unfoldable pub lead_bytes : Version → ℕ → ℕ → Entry → List ℕ
lead_bytes v last sent e = front_bytes v last e ++ (argument_bytes v e.call ++ (reply_bytes v sent e ++ tag_if v (row e.call.kind).entry.tag e.tag))

-- these after the length of the whole body
unfoldable pub framed_lead : Version → ℕ → ℕ → Entry → List ℕ
framed_lead v last sent e = number_bytes v w32 (length (lead_bytes v last sent e) + sent) ++ lead_bytes v last sent e

-- the entry has one argument and neither bytes nor a tag, and each number but the argument takes one byte in version 2
abbrev pub is_bare : ℕ → Entry → Bool
is_bare last e =
    ((row e.call.kind).signature.params == 1)
    && (not (row e.call.kind).entry.outgoing && (not (row e.call.kind).entry.incoming && (not (row e.call.kind).entry.tag
    && (nat_lt (clock_gap last e.clock) 128 && (nat_lt e.thread 128 && nat_lt e.reply 128)))))

-- what a reader that may stop half way gives: the value at the front and what follows it
abbrev pub GivesField : {A : Type 0} → Option A → CursorState → Option (A × List ℕ) → Type 0
GivesField None new found = found ≡ None
GivesField (Some x) new found = found ≡ Some (x, new.left)
