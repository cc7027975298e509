-- The longest token that begins some bytes, computed.
use Rattle.std.specs.Prelude.{ℕ, ◌+◌, not, ◌==◌, if◌then◌else◌, List, [], ◌∷◌, slice_index, position, Option, Some, None}
use Rattle.std.specs.List.{prefix_len}
use Rattle.expression_text.specs.Spelling.{is_word_byte}
use Rattle.expression_text.specs.Lexing.{is_string_byte, is_sign, is_pair}

-- how many bytes of a word stand in front
abbrev pub word_end : List ℕ → ℕ
word_end bytes = prefix_len is_word_byte bytes

-- where the first byte that is in no string is at this place, it has to be a quote
abbrev pub quoted_string_end : List ℕ → Option ℕ → Option ℕ
quoted_string_end bytes None = None
quoted_string_end bytes (Some n) = if slice_index bytes n == 34 then Some (n + 2) else None

-- how many bytes the string has whose first quote was taken, with its quotes
abbrev pub string_end : List ℕ → Option ℕ
string_end bytes = quoted_string_end bytes (position (λ b. not (is_string_byte b)) bytes)

-- how many bytes the sign with this byte in front has
abbrev pub sign_at : ℕ → List ℕ → Option ℕ
sign_at a [] = if is_sign a then Some 1 else None
sign_at a (b ∷ bytes) = if is_pair a b then Some 2 else (if is_sign a then Some 1 else None)

-- how many bytes the longest token has, if one begins the bytes
abbrev pub longest_token : List ℕ → Option ℕ
longest_token [] = None
longest_token (b ∷ bytes) =
    if is_word_byte b then Some (word_end (b ∷ bytes)) else
    (if b == 34 then string_end bytes else sign_at b bytes)
