-- Words of hexadecimal digits.
use Rattle.std.proofs.Common.{◌≡◌, ℕ, suc, ◌*◌, ◌<◌, ◌%◌, Bool, false, true, ◌&&◌, eqb, ltb, List, [], ◌∷◌, length, Option, Some, None, Result, Ok, Err, refl, sym, ap, ◌∙◌, arith, inl, inr}
use Rattle.std.specs.Prelude.{codes}
use Rattle.std.specs.List.{AllPass, list_all}
use Rattle.std.specs.Result.{result_ok}
use Rattle.std.specs.Str.{bytes_eq}
use Rattle.std.proofs.lemmas.Bool.{cases_Bool, eqb-true, ltb-true, lt-ltb}
use Rattle.std.proofs.lemmas.List.Sums.{AllPass-from_list_all, list_all-from_AllPass}
use Rattle.std.proofs.lemmas.Slice.Eq.{bytes_eq-Decides}
use Rattle.hex.specs.Hex.{decode_of, encode_lower, is_hex_digit}
use Rattle.hex.proofs.HexLemmas.{decode_of-ok, decode_of-digits, decode_of-encode_lower, length-encode_with}
use Rattle.fri_bytes.specs.Laws.{AreBytes}
use Rattle.fri_text.specs.Hex.{IsHexWord, HasBytes, are_digits, hex_of, hex_word}

-- the parts of a test
and_three : (a b c : Bool) → (a && b && c) ≡ true → (a ≡ true) × (b ≡ true) × (c ≡ true)
and_three true true true e = (refl, refl, refl)
and_three true true false e = absurd cc
and_three true false c e = absurd cc
and_three false b c e = absurd cc

-- what the test of digits says
digits_are : (word : List ℕ) → are_digits word ≡ true → (0 < length word) × (length word % 2 ≡ 0) × AllPass is_hex_digit word
digits_are word e =
    let parts = and_three (ltb 0 (length word)) (eqb (length word % 2) 0) (list_all is_hex_digit word) e in
    (ltb-true 0 (length word) parts.0, eqb-true (length word % 2) 0 parts.1, AllPass-from_list_all is_hex_digit word parts.2)

-- and what it takes
are_of : (word : List ℕ) → 0 < length word → length word % 2 ≡ 0 → AllPass is_hex_digit word → are_digits word ≡ true
are_of word some even pass = rw (lt-ltb 0 (length word) some, even, list_all-from_AllPass is_hex_digit word pass) refl

-- a word that is no minus is one of what its digits decode to
hex_of-digits : (word : List ℕ) → bytes_eq word (codes "-") ≡ false → are_digits word ≡ true → hex_of word ≡ result_ok (decode_of word)
hex_of-digits word other digits = rw (other, digits) refl

-- another word is none
hex_of-other : (word : List ℕ) → bytes_eq word (codes "-") ≡ false → are_digits word ≡ false → hex_of word ≡ None
hex_of-other word other none = rw (other, none) refl

-- a minus is the word of no bytes
hex_of-minus : (word : List ℕ) → bytes_eq word (codes "-") ≡ true → hex_of word ≡ Some []
hex_of-minus word minus = rw minus refl

-- no bytes are bytes
none_are : AreBytes []
none_are i = omega arith

some_is : (bytes more : List ℕ) → ◌≡◌ {A = Option (List ℕ)} (Some bytes) (Some more) → bytes ≡ more
some_is bytes more e = cc

ok_is : {E : Type 0} (r : Result (List ℕ) E) (bytes : List ℕ) → result_ok r ≡ Some bytes → r ≡ Ok bytes
ok_is (Ok more) bytes e = ap (λ (l : List ℕ). Ok l) (some_is more bytes e)
ok_is (Err fault) bytes e = absurd cc

-- a list that has an element has a first one
first_of : (bytes : List ℕ) → 0 < length bytes → {found : Option (List ℕ)} → found ≡ Some bytes → (b : ℕ) × (more : List ℕ) × (found ≡ Some (b ∷ more))
first_of [] some e = absurd (omega arith)
first_of (b ∷ bytes) some e = (b, bytes, e)

-- what a word writes is bytes, and the word is one of digits
pub hex_some : (word bytes : List ℕ) → hex_of word ≡ Some bytes → IsHexWord word × AreBytes bytes
hex_some word bytes e =
    elim (cases_Bool (bytes_eq word (codes "-"))) [
      | inl minus ↦ (inl ((bytes_eq-Decides word (codes "-")).0 minus), let same : [] ≡ bytes = some_is [] bytes (sym (hex_of-minus word minus) ∙ e) in rw (← same) none_are)
      | inr other ↦
          elim (cases_Bool (are_digits word)) [
            | inl digits ↦ (inr (digits_are word digits), (decode_of-ok word bytes (ok_is (decode_of word) bytes (sym (hex_of-digits word other digits) ∙ e))).3)
            | inr none ↦ absurd (let no = hex_of-other word other none in cc)
          ]
    ]

-- digits, an even number of them, write a byte or more
some_bytes : (word : List ℕ) → bytes_eq word (codes "-") ≡ false → are_digits word ≡ true → (b : ℕ) × (bytes : List ℕ) × (hex_of word ≡ Some (b ∷ bytes))
some_bytes word other digits =
    let parts = digits_are word digits in
    let ok = decode_of-digits word parts.1 parts.2 in
    let long = (decode_of-ok word ok.0 ok.1).2 in
    first_of ok.0 (omega (arith, parts.0)) (hex_of-digits word other digits ∙ ap result_ok ok.1)

-- so memory may be asked for
pub has_bytes : (word : List ℕ) → bytes_eq word (codes "-") ≡ false → are_digits word ≡ true → HasBytes (hex_of word)
has_bytes word other digits = let some = some_bytes word other digits in rw some.2 tt

-- a word that writes none isn't one of digits
pub hex_none : (word : List ℕ) → hex_of word ≡ None → IsHexWord word → ⊥
hex_none word e (inl minus) = let yes = hex_of-minus word ((bytes_eq-Decides word (codes "-")).1 minus) in cc
hex_none word e (inr digits) =
    elim (cases_Bool (bytes_eq word (codes "-"))) [
      | inl minus ↦ let yes = hex_of-minus word minus in cc
      | inr other ↦ let yes = (some_bytes word other (are_of word digits.0 digits.1 digits.2)).2 in cc
    ]

-- two digits or more are no minus
no_minus : (word : List ℕ) (n : ℕ) → length word ≡ 2 * suc n → bytes_eq word (codes "-") ≡ false
no_minus word n long =
    elim (cases_Bool (bytes_eq word (codes "-"))) [
      | inl minus ↦ absurd (let same : length word ≡ 1 = ap length ((bytes_eq-Decides word (codes "-")).0 minus) in omega arith)
      | inr other ↦ other
    ]

-- what is written of bytes is a word of them
pub hex_again : (bytes : List ℕ) → AreBytes bytes → hex_of (hex_word bytes) ≡ Some bytes
hex_again [] h = refl
hex_again (b ∷ bytes) h =
    let word : List ℕ = encode_lower (b ∷ bytes) in
    let long : length word ≡ 2 * suc (length bytes) = length-encode_with _ (b ∷ bytes) in
    let back = decode_of-encode_lower (b ∷ bytes) h in
    let ok = decode_of-ok word (b ∷ bytes) back in
    hex_of-digits word (no_minus word (length bytes) long) (are_of word (omega arith) ok.0 ok.1) ∙ ap result_ok back
