-- Numbers in words.
use Rattle.std.proofs.Common.{◌≡◌, ℕ, ◌^◌, ◌<◌, ◌≤◌, ◌⊎◌, inl, inr, Bool, true, false, cond, ◌||◌, leb, eqb, List, [], ◌∷◌, length, drop, get_or, zero, suc, Option, Some, None, Result, Ok, Err, refl, ap, arith}
use Rattle.std.specs.Prelude.{IsUtf8}
use Rattle.std.specs.Char.{digit_value, is_ascii_hexdigit}
use Rattle.std.specs.Int.{is_in_range}
use Rattle.std.specs.List.{list_all}
use Rattle.std.specs.Result.{result_ok}
use Rattle.std.specs.Str.Parse.{AllDigits, ParsesUnsigned, digits_value, without_leading_plus}
use Rattle.std.proofs.lemmas.Bool.{and_parts, or_cases, leb-true, lt-ltb, le-ltb, lt-leb, cases_lt, eqb-false, ne_eqb}
use Rattle.std.proofs.lemmas.Str.{IsUtf8-from_ascii}
use Rattle.std.proofs.lemmas.Str.Ascii.{IsAscii-from_all}
use Rattle.fri_text.specs.declared.error.TextError.TheVariants.{TooGreat}
use Rattle.fri_text.specs.Decimal.{up_to}
use Rattle.expression_text.specs.Spelling.{number_at_most, hex_number_of, most_number}

pub at_most_up_to : (max : ℕ) (o : Option ℕ) → result_ok (up_to max o) ≡ number_at_most max o
at_most_up_to max None = refl
at_most_up_to max (Some n) = elim (leb n max) as (λ b. result_ok (cond b (Ok n) (Err TooGreat)) ≡ cond b (Some n) None) [ true ↦ refl | false ↦ refl ]

-- ---- hexadecimal digits

in_range : (low high b : ℕ) → is_in_range low high b ≡ true → (low ≤ b) × (b ≤ high)
in_range low high b e =
    let p = and_parts (leb low b) (leb b high) e in (leb-true low b p.0, leb-true b high p.1)

ranges : (b : ℕ) → is_ascii_hexdigit b ≡ true → (((48 ≤ b) × (b ≤ 57)) ⊎ ((65 ≤ b) × (b ≤ 70))) ⊎ ((97 ≤ b) × (b ≤ 102))
ranges b e =
    elim (or_cases (is_in_range 48 57 b || is_in_range 65 70 b) (is_in_range 97 102 b) e) [
      | inl low ↦ elim (or_cases (is_in_range 48 57 b) (is_in_range 65 70 b) low) [
        | inl digit ↦ inl (inl (in_range 48 57 b digit))
        | inr capital ↦ inl (inr (in_range 65 70 b capital))
      ]
      | inr small ↦ inr (in_range 97 102 b small)
    ]

hex_value : (b : ℕ) → is_ascii_hexdigit b ≡ true → digit_value b < 16
hex_value b e =
    elim (ranges b e) [
      | inl low ↦ elim low [
        | inl r ↦ let l = r.0 in let h = r.1 in rw (le-ltb b 48 l, lt-ltb b 58 (omega arith)) (omega arith)
        | inr r ↦ let l = r.0 in let h = r.1 in rw (le-ltb b 48 (omega arith), le-ltb b 58 (omega arith), le-ltb b 65 l, lt-ltb b 91 (omega arith)) (omega arith)
      ]
      | inr r ↦
          let l = r.0 in
          let h = r.1 in
          rw (le-ltb b 48 (omega arith), le-ltb b 58 (omega arith), le-ltb b 65 (omega arith), le-ltb b 91 (omega arith), le-ltb b 97 l, lt-ltb b 123 (omega arith)) (omega arith)
    ]

hex_small : (b : ℕ) → is_ascii_hexdigit b ≡ true → (b < 128) × (b ≡ 43 → ⊥)
hex_small b e =
    elim (ranges b e) [
      | inl low ↦ elim low [ inl r ↦ (omega (arith, r.0, r.1), λ is. omega (arith, r.0, r.1)) | inr r ↦ (omega (arith, r.0, r.1), λ is. omega (arith, r.0, r.1)) ]
      | inr r ↦ (omega (arith, r.0, r.1), λ is. omega (arith, r.0, r.1))
    ]

all_digits : (ds : List ℕ) → list_all is_ascii_hexdigit ds ≡ true → AllDigits 16 ds
all_digits [] e = tt
all_digits (b ∷ ds) e = let p = and_parts (is_ascii_hexdigit b) (list_all is_ascii_hexdigit ds) e in (hex_value b p.0, all_digits ds p.1)

digits_small : (ds : List ℕ) (k d : ℕ) → list_all is_ascii_hexdigit ds ≡ true → k < length ds → get_or ds k d < 128
digits_small [] k d e lt = absurd (omega arith)
digits_small (b ∷ ds) zero d e lt = (hex_small b (and_parts (is_ascii_hexdigit b) (list_all is_ascii_hexdigit ds) e).0).0
digits_small (b ∷ ds) (suc k) d e lt = digits_small ds k d (and_parts (is_ascii_hexdigit b) (list_all is_ascii_hexdigit ds) e).1 (omega arith)

-- digits are text
pub IsUtf8-digits : (ds : List ℕ) → list_all is_ascii_hexdigit ds ≡ true → IsUtf8 ds
IsUtf8-digits ds e = IsUtf8-from_ascii ds (IsAscii-from_all ds (λ k d lt. digits_small ds k d e lt))

no_plus : (ds : List ℕ) → list_all is_ascii_hexdigit ds ≡ true → without_leading_plus ds ≡ ds
no_plus [] e = refl
no_plus (b ∷ ds) e =
    let p = and_parts (is_ascii_hexdigit b) (list_all is_ascii_hexdigit ds) e in
    ap (λ (t : Bool). drop (cond t 1 0) (b ∷ ds)) (ne_eqb b 43 (hex_small b p.0).1)

-- where std finds no number of 64 bits in digits, theirs is above any that may be asked for
pub too_great : {E : Type 0} (max : ℕ) (ds text : List ℕ) (parsed : Result ℕ E) (fault : E) → max < 2 ^ 64 → eqb (length ds) 0 ≡ false → list_all is_ascii_hexdigit ds ≡ true → text ≡ ds → ParsesUnsigned 64 16 text parsed → parsed ≡ Err fault → number_at_most max (Some (digits_value 16 ds)) ≡ None
too_great max ds text parsed fault small some digits same parses failed =
    let long : 0 < length ds = let ne = eqb-false (length ds) 0 some in omega arith in
    let at_digits = rw (same, failed, no_plus ds digits) at parses in
    let over : max < digits_value 16 ds = elim (cases_lt (digits_value 16 ds) (2 ^ 64)) [ inl below ↦ absurd (at_digits ((long, all_digits ds digits), below)) | inr above ↦ omega arith ] in
    rw (lt-leb (digits_value 16 ds) max over) refl

pub hex_number_is : (ds : List ℕ) → eqb (length ds) 0 ≡ false → list_all is_ascii_hexdigit ds ≡ true → hex_number_of ds ≡ number_at_most most_number (Some (digits_value 16 ds))
hex_number_is ds some digits =
    let long : 0 < length ds = let ne = eqb-false (length ds) 0 some in omega arith in
    rw (lt-ltb 0 (length ds) long, digits) refl
