-- Numbers that are written in decimal digits.
use Rattle.std.specs.Prelude.{ℕ, ◌^◌, ℤ, pos, negsuc, neg_ℤ, Bool, ◌&&◌, ◌==◌, nat_lt, nat_le, if◌then◌else◌, List, [], ◌∷◌, length, Option, Some, None, option_map, Result, Ok, Err}
use Rattle.std.specs.Char.{is_ascii_digit}
use Rattle.std.specs.List.{list_all}
use Rattle.std.specs.Str.Parse.{digits_value}
use Rattle.fri_text.specs.declared.error.TextError.{TextError}
use Rattle.fri_text.specs.declared.error.TextError.TheVariants.{NotNumber, TooGreat}

-- The word has a byte or more, and digits alone.
abbrev pub is_decimal : List ℕ → Bool
is_decimal word = nat_lt 0 (length word) && list_all is_ascii_digit word

-- the number that a decimal word writes, with any zeros in front
abbrev pub decimal_of : List ℕ → Option ℕ
decimal_of word = if is_decimal word then Some (digits_value 10 word) else None

-- the same where one minus may be in front
abbrev pub signed_of : List ℕ → Option ℤ
signed_of [] = None
signed_of (b ∷ word) = if b == 45 then option_map (λ n. neg_ℤ (pos n)) (decimal_of word) else option_map pos (decimal_of (b ∷ word))

-- what is answered of a word with this number, or with none, where no number above `max` is taken
abbrev pub up_to : ℕ → Option ℕ → Result ℕ TextError
up_to max None = Err NotNumber
up_to max (Some n) = if nat_le n max then Ok n else Err TooGreat

-- the same where the numbers of 64 bits with a sign are taken
abbrev pub within_i64 : Option ℤ → Result ℤ TextError
within_i64 None = Err NotNumber
within_i64 (Some (pos n)) = if nat_lt n (2 ^ 63) then Ok (pos n) else Err TooGreat
within_i64 (Some (negsuc n)) = if nat_lt n (2 ^ 63) then Ok (negsuc n) else Err TooGreat
