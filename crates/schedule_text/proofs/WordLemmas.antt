-- Numbers and names of fields: what is read is written so, and what is written so is read.
use Rattle.std.proofs.Common.{◌≡◌, ℕ, ◌-◌, ◌^◌, ◌<◌, ◌⊎◌, subst, ◌≤◌, Bool, true, false, cond, eqb, ltb, leb, List, [], ◌∷◌, Option, Some, None, Result, Ok, Err, refl, sym, ap, ◌∙◌, arith, inl, inr, ℤ, pos, negsuc}
use Rattle.std.specs.Prelude.{FitsSigned, codes, option_map}
use Rattle.std.specs.Int.{w64}
use Rattle.std.specs.Result.{result_ok}
use Rattle.std.specs.Str.{bytes_eq}
use Rattle.std.proofs.lemmas.Bool.{cases_Bool, ne_eqb, eqb-false, leb-true, le-leb, ltb-true, lt-ltb}
use Rattle.hex.specs.Hex.{decode_of}
use Rattle.hex.proofs.HexLemmas.{decode_of-ok}
use Rattle.fri_bytes.specs.Laws.{AreBytes}
use Rattle.fri_text.specs.Decimal.{decimal_of, signed_of, up_to, within_i64}
use Rattle.fri_text.specs.Hex.{are_digits}
use Rattle.fri_text.specs.declared.error.TextError.{TextError}
use Rattle.fri_text.specs.declared.error.TextError.TheVariants.{TooGreat}
use Rattle.schedule_text.specs.Limits.{most_runs}
use Rattle.schedule_text.specs.Fields.{field_at, last_field_of}
use Rattle.schedule_text.specs.Grammar.{IsNumber, IsSignedNumber, IsHex}
use Rattle.schedule_text.specs.Reading.{◌>>=◌, number_up_to, positive_of, process_number_of, times_of}

-- ---- steps that give something

-- where something comes of a step and the next, something came of the step
pub bind_some : {A B : Type 0} (o : Option A) (f : A → Option B) (y : B) → (o >>= f) ≡ Some y → (x : A) × (o ≡ Some x) × (f x ≡ Some y)
bind_some (Some x) f y e = (x, refl, e)
bind_some None f y e = absurd cc

-- what comes of something that is found
pub map_some : {A B : Type 0} (f : A → B) (o : Option A) (y : B) → option_map f o ≡ Some y → (x : A) × (o ≡ Some x) × (f x ≡ y)
map_some f None y e = absurd cc
map_some f (Some x) y e = (x, refl, let there = e in cc)

-- a test without which nothing is given
pub kept : {A : Type 0} (b : Bool) (x : Option A) (y : A) → cond b x None ≡ Some y → (b ≡ true) × (x ≡ Some y)
kept true x y e = (refl, e)
kept false x y e = absurd cc

-- a test with which nothing is given
pub passed : {A : Type 0} (b : Bool) (x : Option A) (y : A) → cond b None x ≡ Some y → (b ≡ false) × (x ≡ Some y)
passed true x y e = absurd cc
passed false x y e = (refl, e)

-- the first field that is found is in front
pub field_takes : (fields : List (List ℕ)) (field : List ℕ) (rest : List (List ℕ)) → field_at fields ≡ Some (field, rest) → fields ≡ field ∷ rest
field_takes [] field rest e = absurd cc
field_takes (f ∷ fs) field rest e = let same : ◌≡◌ {A = List ℕ × List (List ℕ)} (f, fs) (field, rest) = cc in ap (λ (p : List ℕ × List (List ℕ)). p.0 ∷ p.1) same

-- the last field that is found is alone
pub last_takes : (fields : List (List ℕ)) (field : List ℕ) → last_field_of fields ≡ Some field → fields ≡ field ∷ []
last_takes [] field e = absurd cc
last_takes (f ∷ []) field e = let same : f ≡ field = cc in ap (λ (g : List ℕ). g ∷ []) same
last_takes (f ∷ g ∷ fs) field e = absurd cc

-- ---- numbers

-- a number that is taken is the one that is there, and not above the limit
up_to_takes : (most : ℕ) (o : Option ℕ) (n : ℕ) → result_ok (up_to most o) ≡ Some n → (o ≡ Some n) × (n ≤ most)
up_to_takes most None n e = absurd cc
up_to_takes most (Some m) n e =
    elim (cases_Bool (leb m most)) [
      | inl small ↦ let same : m ≡ n = (let there : result_ok (up_to most (Some m)) ≡ Some m = rw small refl in cc) in (ap (λ (k : ℕ). Some k) same, omega (arith, same, leb-true m most small))
      | inr great ↦ absurd (let nothing : result_ok (up_to most (Some m)) ≡ None = rw great refl in cc)
    ]

-- what is read as a number is written so, and not above the limit
pub number_takes : (most : ℕ) (word : List ℕ) (n : ℕ) → number_up_to most word ≡ Some n → IsNumber word n × (n ≤ most)
number_takes most word n e = up_to_takes most (decimal_of word) n e

-- a number that isn't above the limit is read
pub number_again : (most : ℕ) (word : List ℕ) (n : ℕ) → IsNumber word n → n ≤ most → number_up_to most word ≡ Some n
number_again most word n is small = ap (λ (o : Option ℕ). result_ok (up_to most o)) is ∙ rw (le-leb n most small) refl

-- what is read as a number from 1 on is written so, and in range
pub positive_takes : (most : ℕ) (word : List ℕ) (n : ℕ) → positive_of most word ≡ Some n → IsNumber word n × (1 ≤ n) × (n ≤ most)
positive_takes most word n e =
    let some = bind_some (number_up_to most word) (λ (k : ℕ). cond (eqb k 0) None (Some k)) n e in
    let positive = passed (eqb some.0 0) (Some some.0) n some.2 in
    let same : some.0 ≡ n = (let there = positive.1 in cc) in
    let number = number_takes most word some.0 some.1 in
    (number.0 ∙ ap (λ (k : ℕ). Some k) same, omega (arith, same, eqb-false some.0 0 positive.0), omega (arith, same, number.1))

-- a number from 1 on that isn't above the limit is read
pub positive_again : (most : ℕ) (word : List ℕ) (n : ℕ) → IsNumber word n → 1 ≤ n → n ≤ most → positive_of most word ≡ Some n
positive_again most word n is some small =
    let positive : eqb n 0 ≡ false = ne_eqb n 0 (λ e. omega arith) in
    rw (number_again most word n is small, positive) refl

-- what is read as a process's number is written so, and is a process's number
pub process_takes : (processes : ℕ) (word : List ℕ) (n : ℕ) → process_number_of processes word ≡ Some n → IsNumber word n × (n < processes)
process_takes processes word n e =
    let some = passed (eqb processes 0) _ n e in
    let number = number_takes (processes - 1) word n some.1 in
    (number.0, omega (arith, number.1, eqb-false processes 0 some.0))

-- a process's number is read
pub process_again : (processes : ℕ) (word : List ℕ) (n : ℕ) → IsNumber word n → n < processes → process_number_of processes word ≡ Some n
process_again processes word n is below =
    let some : eqb processes 0 ≡ false = ne_eqb processes 0 (λ e. omega arith) in
    rw some (number_again (processes - 1) word n is (omega arith))

-- ---- signed numbers

-- a signed number is taken where 64 bits hold it
held : (m : ℕ) (y z : ℤ) → (m < 2 ^ 63 → FitsSigned w64 y) → result_ok {E = TextError} (cond (ltb m (2 ^ 63)) (Ok y) (Err TooGreat)) ≡ Some z → (◌≡◌ {A = Option ℤ} (Some y) (Some z)) × FitsSigned w64 z
held m y z fits e =
    elim (cases_Bool (ltb m (2 ^ 63))) [
      | inl small ↦
          let same : y ≡ z = (let there = rw small at e in cc) in
          (ap (λ (x : ℤ). Some x) same, subst (λ (x : ℤ). FitsSigned w64 x) same (fits (ltb-true m (2 ^ 63) small)))
      | inr great ↦ absurd (let nothing = rw great at e in cc)
    ]

-- a signed number that is taken is the one that is there
within_takes : (o : Option ℤ) (z : ℤ) → result_ok (within_i64 o) ≡ Some z → (o ≡ Some z) × FitsSigned w64 z
within_takes None z e = absurd cc
within_takes (Some (pos m)) z e = held m (pos m) z (λ h. record { sfits = h }) e
within_takes (Some (negsuc m)) z e = held m (negsuc m) z (λ h. record { sfits = h }) e

-- a signed number of 64 bits is taken
within_again : (z : ℤ) → FitsSigned w64 z → result_ok (within_i64 (Some z)) ≡ Some z
within_again (pos m) fits = rw (lt-ltb m (2 ^ 63) fits.sfits) refl
within_again (negsuc m) fits = rw (lt-ltb m (2 ^ 63) fits.sfits) refl

-- what is read as a signed number is written so, and has 64 bits
pub value_takes : (word : List ℕ) (z : ℤ) → result_ok (within_i64 (signed_of word)) ≡ Some z → IsSignedNumber word z × FitsSigned w64 z
value_takes word z e = within_takes (signed_of word) z e

-- a signed number of 64 bits is read
pub value_again : (word : List ℕ) (z : ℤ) → IsSignedNumber word z → FitsSigned w64 z → result_ok (within_i64 (signed_of word)) ≡ Some z
value_again word z is fits = ap (λ (o : Option ℤ). result_ok (within_i64 o)) is ∙ within_again z fits

-- ---- bytes

-- no bytes are bytes
none_are : AreBytes []
none_are i = omega arith

-- a result that gives something is Ok
given : {A E : Type 0} (r : Result A E) (x : A) → result_ok r ≡ Some x → r ≡ Ok x
given (Ok y) x e = (let same : y ≡ x = cc in ap (λ (z : _). Ok z) same)
given (Err fault) x e = absurd cc

-- a word that decodes is one of bytes
decoded : (word bytes : List ℕ) → result_ok (decode_of word) ≡ Some bytes → AreBytes bytes
decoded word bytes e = (decode_of-ok word bytes (given (decode_of word) bytes e)).3

-- what is read as bytes are bytes
pub hex_takes : (word bytes : List ℕ) → IsHex word bytes → AreBytes bytes
hex_takes word bytes e =
    elim (cases_Bool (bytes_eq word (codes "-"))) [
      | inl minus ↦ let same : [] ≡ bytes = (let there = rw minus at e in cc) in subst AreBytes same none_are
      | inr other ↦ decoded word bytes (kept (are_digits word) (result_ok (decode_of word)) bytes (rw other at e)).1
    ]

-- ---- how often is tried

-- the tries that are read are 1, or are written so and in range
pub times_takes : (fields : List (List ℕ)) (n : ℕ) → times_of fields ≡ Some n → ((fields ≡ []) × (n ≡ 1)) ⊎ ((word : List ℕ) × (fields ≡ word ∷ []) × IsNumber word n × (1 ≤ n) × (n ≤ most_runs))
times_takes [] n e = inl (refl, let same : 1 ≡ n = cc in sym same)
times_takes (word ∷ []) n e = let number = positive_takes most_runs word n e in inr (word, refl, number.0, number.1, number.2)
times_takes (word ∷ other ∷ fields) n e = absurd cc

-- tries in range are read
pub times_again : (word : List ℕ) (n : ℕ) → IsNumber word n → 1 ≤ n → n ≤ most_runs → times_of (word ∷ []) ≡ Some n
times_again word n is some most = positive_again most_runs word n is some most
