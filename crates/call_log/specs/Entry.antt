-- How the entries of a log are spelled.
use Rattle.std.specs.Prelude.{◌≡◌, ℕ, Bool, nat_lt, if◌then◌else◌, List, [], ◌∷◌, ◌++◌, length, Option, Some, None}
use Rattle.std.specs.List.{concat}
use Rattle.std.specs.Int.{w16, w32, w64}
use Rattle.lamport_tag.specs.declared.Tag.{Tag}
use Rattle.lib_calls.specs.declared.entry.Call.{Call}
use Rattle.lib_calls.specs.declared.entry.Entry.{Entry}
use Rattle.lib_calls.specs.Entry.{IsShaped}
use Rattle.call_table.specs.Table.{row}
use Rattle.call_log.specs.declared.version.Version.{Version}
use Rattle.call_log.specs.Version.{clock_bytes, number_bytes}

-- ---- how an entry is spelled; the lowest part of a number comes first

-- a number of 64 bits, where the kind has it
abbrev pub number_if : Version → Bool → ℕ → List ℕ
number_if v has n = if has then number_bytes v w64 n else []

-- the length and then the bytes, where the kind has them
abbrev pub string_if : Version → Bool → List ℕ → List ℕ
string_if v has bytes = if has then number_bytes v w32 (length bytes) ++ bytes else []

-- the flag 0, or the flag 1 and the tag's sender and clock
abbrev pub flagged_tag : Version → Option Tag → List ℕ
flagged_tag v None = 0 ∷ []
flagged_tag v (Some tag) = 1 ∷ (number_bytes v w32 tag.sender ++ number_bytes v w64 tag.clock)

-- whether there is a tag, and which, where the kind may have one
abbrev pub tag_if : Version → Bool → Option Tag → List ℕ
tag_if v has tag = if has then flagged_tag v tag else []

-- the arguments that the kind has
unfoldable pub argument_bytes : Version → Call → List ℕ
argument_bytes v call = concat (
    number_if v (nat_lt 0 (row call.kind).signature.params) call.a0
    ∷ number_if v (nat_lt 1 (row call.kind).signature.params) call.a1
    ∷ number_if v (nat_lt 2 (row call.kind).signature.params) call.a2
    ∷ [])

-- the fields of an entry after one with the clock `last`, one after the other
unfoldable pub body_bytes : Version → ℕ → Entry → List ℕ
body_bytes v last e = concat (
    clock_bytes v last e.clock
    ∷ number_bytes v w16 e.thread
    ∷ ((row e.call.kind).number ∷ [])
    ∷ (e.signal ∷ [])
    ∷ argument_bytes v e.call
    ∷ number_bytes v w64 e.reply
    ∷ string_if v (row e.call.kind).entry.outgoing e.outgoing
    ∷ string_if v (row e.call.kind).entry.incoming e.incoming
    ∷ tag_if v (row e.call.kind).entry.tag e.tag
    ∷ [])

-- the length of the body, and then the body
unfoldable pub encoding : Version → ℕ → Entry → List ℕ
encoding v last e = number_bytes v w32 (length (body_bytes v last e)) ++ body_bytes v last e

-- entries, one after the other, after one with the clock `last`
abbrev pub encodings : Version → ℕ → List Entry → List ℕ
encodings v last [] = []
encodings v last (e ∷ es) = encoding v last e ++ encodings v e.clock es

-- the clock of the last of the entries, or `last` where there is none
abbrev pub clock_after : ℕ → List Entry → ℕ
clock_after last [] = last
clock_after last (e ∷ es) = clock_after e.clock es

-- no entry is at the front of the bytes, which are after an entry with the clock `last`
abbrev pub BeginsNoEntry : Version → ℕ → List ℕ → Type 0
BeginsNoEntry v last bytes = (e : Entry) (rest : List ℕ) → IsShaped e → bytes ≡ encoding v last e ++ rest → ⊥
