-- Decimal words, and the text of numbers.
use Rattle.std.proofs.Common.{◌≡◌, ℕ, suc, ◌+◌, ◌-◌, ◌*◌, ◌^◌, ◌<◌, ◌≤◌, Bool, true, false, cond, eqb, ltb, leb, List, [], ◌∷◌, length, get_or, take, Some, Err, refl, ap, ◌∙◌, arith, rules, ℤ, pos, negsuc}
use Rattle.std.specs.Prelude.{decimal, option_map, neg_ℤ, unsigned_abs}
use Rattle.std.specs.Char.{digit_value, is_ascii_digit}
use Rattle.std.specs.Fmt.{signed_decimal}
use Rattle.std.specs.List.{list_all}
use Rattle.std.specs.Str.Parse.{digits_value}
use Rattle.std.proofs.lemmas.Bool.{and_from, and_parts, leb-true, lt-ltb, lt-leb, ne_eqb}
use Rattle.std.proofs.lemmas.Int.Digits.{digits_value_more}
use Rattle.std.proofs.lemmas.Str.{digit_value_digit}
use Rattle.std.proofs.lemmas.Str.Parse.{IsNumeralModel, digits_value-take-le, numerals_by_value}
use Rattle.std.proofs.lemmas.Fmt.{decimal_is_IsNumeral}
use Rattle.fri_text.specs.declared.error.TextError.TheVariants.{NotNumber, TooGreat}
use Rattle.fri_text.specs.Decimal.{is_decimal, decimal_of, signed_of, up_to}

-- these digits and their number are those that std parses
pub numerals : IsNumeralModel (λ (ds : List ℕ). list_all is_ascii_digit ds ≡ true) (digits_value 10)
numerals = numerals_by_value _ (search rules)

-- a digit writes its value
digit_at : (word : List ℕ) (i : ℕ) → is_ascii_digit (get_or word i 0) ≡ true → digit_value (get_or word i 0) + 48 ≡ get_or word i 0
digit_at word i is_digit =
    let within = and_parts (leb 48 (get_or word i 0)) (leb (get_or word i 0) 57) is_digit in
    digit_value_digit (get_or word i 0) (leb-true 48 (get_or word i 0) within.0, leb-true (get_or word i 0) 57 within.1)

-- the number of one digit more
pub digit_more : (word : List ℕ) (i number digit : ℕ) → is_ascii_digit (get_or word i 0) ≡ true → i < length word → number ≡ digits_value 10 (take i word) → digit ≡ get_or word i 0 - 48
    → 10 * number + digit ≡ digits_value 10 (take (i + 1) word)
digit_more word i number digit is_digit inside so_far is =
    omega (arith, digits_value_more 10 word i inside, digit_at word i is_digit, so_far, is)

-- The front of a word writes a number above any that may be asked for, and so does the word, if it has no other byte than digits.
pub long_refused : (word : List ℕ) (i number max : ℕ) → i < length word → number ≡ digits_value 10 (take (i + 1) word) → max < number
    → Err (cond (list_all is_ascii_digit word) TooGreat NotNumber) ≡ up_to max (decimal_of word)
long_refused word i number max inside front above = by_test (list_all is_ascii_digit word) refl
  where
    by_test : (b : Bool) → list_all is_ascii_digit word ≡ b → Err (cond b TooGreat NotNumber) ≡ up_to max (decimal_of word)
    by_test true e =
        let most = digits_value-take-le 10 word (i + 1) (omega arith) in
        let over : max < digits_value 10 word = omega (arith, above, most, front) in
        rw (lt-ltb 0 (length word) (omega arith), e, lt-leb (digits_value 10 word) max over) refl
    by_test false e = rw (lt-ltb 0 (length word) (omega arith), e) refl

-- what writing a number appends is a decimal word
is_decimal-decimal : (n : ℕ) → n < 2 ^ 64 → is_decimal (decimal n) ≡ true
is_decimal-decimal n small =
    let written = decimal_is_IsNumeral n small in
    and_from (ltb 0 (length (decimal n))) (list_all is_ascii_digit (decimal n)) (lt-ltb 0 (length (decimal n)) written.0.0) (numerals.from (decimal n) written.0.1)

-- and a word of this number
pub decimal_of-decimal : (n : ℕ) → n < 2 ^ 64 → decimal_of (decimal n) ≡ Some n
decimal_of-decimal n small =
    let written = decimal_is_IsNumeral n small in
    rw (is_decimal-decimal n small) (ap (λ (k : ℕ). Some k) written.1)

-- no digit is a minus
is_decimal-first : (b : ℕ) (word : List ℕ) → is_decimal (b ∷ word) ≡ true → eqb b 45 ≡ false
is_decimal-first b word decimal_word =
    let digits : list_all is_ascii_digit (b ∷ word) ≡ true = (and_parts (ltb 0 (length (b ∷ word))) (list_all is_ascii_digit (b ∷ word)) decimal_word).1 in
    let first : is_ascii_digit b ≡ true = (and_parts (is_ascii_digit b) (list_all is_ascii_digit word) digits).0 in
    let low : 48 ≤ b = leb-true 48 b (and_parts (leb 48 b) (leb b 57) first).0 in
    ne_eqb b 45 (λ e. omega arith)

-- so a decimal word is also one of the number with no minus
pub signed_of-plain : (word : List ℕ) → is_decimal word ≡ true → signed_of word ≡ option_map pos (decimal_of word)
signed_of-plain [] digits = refl
signed_of-plain (b ∷ word) digits = rw (is_decimal-first b word digits) refl

-- what writing a number with a sign appends is a word of this number
pub signed_of-signed_decimal : (z : ℤ) → unsigned_abs z < 2 ^ 64 → signed_of (signed_decimal z) ≡ Some z
signed_of-signed_decimal (pos n) small = signed_of-plain (decimal n) (is_decimal-decimal n small) ∙ ap (option_map pos) (decimal_of-decimal n small)
signed_of-signed_decimal (negsuc n) small = ap (option_map (λ (k : ℕ). neg_ℤ (pos k))) (decimal_of-decimal (suc n) small)
