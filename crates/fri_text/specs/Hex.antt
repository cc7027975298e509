-- Bytes that are written in hexadecimal digits.
use Rattle.std.specs.Prelude.{◌≡◌, ℕ, ◌%◌, ◌<◌, Bool, ◌&&◌, ◌==◌, nat_lt, if◌then◌else◌, codes, ◌⊎◌, List, [], ◌∷◌, length, Option, Some, None, Result, Ok, Err}
use Rattle.std.specs.List.{AllPass, list_all}
use Rattle.std.specs.Result.{result_ok}
use Rattle.std.specs.Str.{bytes_eq}
use Rattle.hex.specs.Hex.{decode_of, encode_lower, is_hex_digit}
use Rattle.fri_text.specs.declared.error.TextError.{TextError}
use Rattle.fri_text.specs.declared.error.TextError.TheVariants.{NotNumber, TooGreat, NotHex, NoMemory}

-- The word is a lone minus, or has two digits or more, of either case, and an even number of them.
abbrev pub IsHexWord : List ℕ → Type 0
IsHexWord word = (word ≡ codes "-") ⊎ ((0 < length word) × (length word % 2 ≡ 0) × AllPass is_hex_digit word)

-- two digits or more, and an even number of them
abbrev pub are_digits : List ℕ → Bool
are_digits word = nat_lt 0 (length word) && (length word % 2 == 0) && list_all is_hex_digit word

-- the bytes that a word writes: none for a minus, and one for each two digits, the first of which is the higher
abbrev pub hex_of : List ℕ → Option (List ℕ)
hex_of word = if bytes_eq word (codes "-") then Some [] else (if are_digits word then result_ok (decode_of word) else None)

-- how bytes are written: by lower-case digits, and none by a minus
abbrev pub hex_word : List ℕ → List ℕ
hex_word [] = codes "-"
hex_word (b ∷ bytes) = encode_lower (b ∷ bytes)

-- these are bytes, and not none
abbrev pub HasBytes : Option (List ℕ) → Type 0
HasBytes (Some (b ∷ bytes)) = Unit {0}
HasBytes _ = ⊥

-- What is answered of a word that writes these bytes, or none. Memory may run out where there are some.
abbrev pub GivesHex : Result (List ℕ) TextError → Option (List ℕ) → Type 0
GivesHex (Ok bytes) found = found ≡ Some bytes
GivesHex (Err NotNumber) found = ⊥
GivesHex (Err TooGreat) found = ⊥
GivesHex (Err NotHex) found = found ≡ None
GivesHex (Err NoMemory) found = HasBytes found
