-- A short number is read exactly where its spelling stands, which is what writing it appends.
use Rattle.std.proofs.Common.{◌≡◌, ℕ, zero, suc, ◌+◌, ◌-◌, ◌*◌, ◌/◌, ◌%◌, ◌^◌, ◌<◌, ◌≤◌, cond, ltb, leb, eqb, Bool, true, false, ◌||◌, inl, inr, List, [], ◌∷◌, ◌++◌, Some, None, refl, sym, ap, ◌∙◌, subst, arith, append_assoc, Result, OnOk, Ok, Err}
use Rattle.std.specs.Prelude.{option_and_then}
use Rattle.std.proofs.Math.Nat.{pow-suc}
use Rattle.std.proofs.lemmas.Bool.{ltb-true, ltb-false, lt-ltb, le-ltb, leb-false, lt-leb, ne_eqb, or_from, or_parts}
use Rattle.std.proofs.lemmas.Option.{some_pair_parts}
use Rattle.fri_bytes.specs.Reading.{Reads, BeginsSpelling}
use Rattle.fri_bytes.specs.Short.{IsShort, IsShortest, short_at, short_bytes, short_within, short_within_at, longer_short}
use Rattle.fri_bytes.proofs.Readers.{bind_some, chosen, kept}

-- a number of eight bits or more takes one byte and those of the bits above
pub more_bytes : (most n : ℕ) → 1 ≤ most → 128 ≤ n → short_within most n ≡ (128 + n % 128) ∷ short_within (most - 1) (n / 128)
more_bytes zero n some big = absurd (omega arith)
more_bytes (suc most) n some big =
    let same : most ≡ suc most - 1 = omega arith in
    rw (le-ltb n 128 big) (ap (λ (m : ℕ). (128 + n % 128) ∷ short_within m (n / 128)) same)

one_byte : (most n : ℕ) → 1 ≤ most → n < 128 → short_within most n ≡ n ∷ []
one_byte zero n some small = absurd (omega arith)
one_byte (suc most) n some small = rw (lt-ltb n 128 small) refl

one_more : (most n : ℕ) → 128 ≤ n → short_within (suc most) n ≡ (128 + n % 128) ∷ short_within most (n / 128)
one_more most n big = rw (le-ltb n 128 big) refl

-- a number of fourteen bits takes two bytes
pub two_bytes : (n : ℕ) → 128 ≤ n → n / 128 < 128 → short_bytes n ≡ (128 + n % 128) ∷ n / 128 ∷ []
unfolding short_bytes
two_bytes n big small =
    one_more 9 n big ∙ ap (λ (t : List ℕ). (128 + n % 128) ∷ t) (one_byte 9 (n / 128) (omega arith) small)

-- and one of twenty-one bits three
pub three_bytes : (n : ℕ) → 128 ≤ n / 128 → n / 128 / 128 < 128 → short_bytes n ≡ (128 + n % 128) ∷ (128 + n / 128 % 128) ∷ n / 128 / 128 ∷ []
unfolding short_bytes
three_bytes n big small =
    one_more 9 n (omega arith)
    ∙ ap (λ (t : List ℕ). (128 + n % 128) ∷ t) (one_more 8 (n / 128) big ∙ ap (λ (t : List ℕ). (128 + n / 128 % 128) ∷ t) (one_byte 8 (n / 128 / 128) (omega arith) small))

pub put_more : {T E : Type 0} (r : Result T E) (most n : ℕ) (old mid new : List ℕ) → 1 ≤ most → 128 ≤ n → mid ≡ old ++ (128 + n % 128) ∷ [] → OnOk r (new ≡ mid ++ short_within (most - 1) (n / 128)) → OnOk r (new ≡ old ++ short_within most n)
put_more (Ok x) most n old mid new some big put more =
    more ∙ ap (λ (t : List ℕ). t ++ short_within (most - 1) (n / 128)) put
    ∙ append_assoc old ((128 + n % 128) ∷ []) (short_within (most - 1) (n / 128))
    ∙ ap (λ (t : List ℕ). old ++ t) (sym (more_bytes most n some big))
put_more (Err e) most n old mid new some big put more = tt

-- ---- the spelling is the shortest one

-- a number that fits into so many bytes, which are some
record Fits (most n : ℕ) : Type 0 where
  some : 1 ≤ most
  within : n < 128 ^ most

below_part : (high low n power : ℕ) → n ≡ 128 * high + low → n < power * 128 → high < power
below_part high low n power is within = omega arith

part_within : (most high low n : ℕ) → n ≡ 128 * high + low → Fits (suc most) n → high < 128 ^ most
part_within most high low n is fits =
    below_part high low n (128 ^ most) is (subst (λ (k : ℕ). n < k) (pow-suc 128 most) fits.within)

-- what is left after seven bits takes a byte fewer
high_fits : (most high low n : ℕ) → n ≡ 128 * high + low → 1 ≤ high → Fits (suc most) n → Fits most high
high_fits zero high low n is some fits = let none : high < 1 = part_within zero high low n is fits in absurd (omega arith)
high_fits (suc most) high low n is some fits = record { some = omega arith; within = part_within (suc most) high low n is fits }

longer_shortest : (b : ℕ) (s : List ℕ) (n high : ℕ) → 128 ≤ b → b < 256 → 1 ≤ high → n ≡ 128 * high + (b - 128) → IsShortest s high → IsShortest (b ∷ s) n
longer_shortest b [] n high big byte some value h = absurd h
longer_shortest b (c ∷ s) n high big byte some value h = (big, byte, high, some, value, h)

-- one byte, or one and those of the part after it
shortest_by : (small : Bool) (n : ℕ) (more : List ℕ) → ltb n 128 ≡ small → (128 ≤ n → IsShortest more (n / 128)) → IsShortest (cond small (n ∷ []) ((128 + n % 128) ∷ more)) n
shortest_by true n more e behind = (ltb-true n 128 e, refl)
shortest_by false n more e behind =
    let big : 128 ≤ n = ltb-false n 128 e in
    longer_shortest (128 + n % 128) more n (n / 128) (omega arith) (omega arith) (omega arith) (omega arith) (behind big)

-- a number that fits is written in its shortest spelling
written_shortest : (most n : ℕ) → Fits most n → IsShortest (short_within most n) n
written_shortest zero n fits = absurd (omega (arith, fits.some))
written_shortest (suc most) n fits =
    shortest_by (ltb n 128) n (short_within most (n / 128)) refl
    (λ big. written_shortest most (n / 128) (high_fits most (n / 128) (n % 128) n (omega arith) (omega arith) fits))

-- bytes that spell a number are those that writing it appends
shortest_written : (most n : ℕ) (s : List ℕ) → Fits most n → IsShortest s n → s ≡ short_within most n
shortest_written zero n s fits h = absurd (omega (arith, fits.some))
shortest_written (suc most) n [] fits h = absurd h
shortest_written (suc most) n (b ∷ []) fits (small, value) =
    ap (λ (k : ℕ). k ∷ []) (sym value) ∙ sym (one_byte (suc most) n (omega arith) (omega arith))
shortest_written (suc most) n (b ∷ c ∷ bs) fits (big, byte, high, some, value, h) =
    let quotient : n / 128 ≡ high = omega arith in
    let remainder : 128 + n % 128 ≡ b = omega arith in
    let fewer : suc most - 1 ≡ most = omega arith in
    let more = shortest_written most high (c ∷ bs) (high_fits most high (b - 128) n value some fits) h in
    ap (λ (t : List ℕ). b ∷ t) more
    ∙ sym (more_bytes (suc most) n (omega arith) (omega arith)
    ∙ ap (λ (k : ℕ). k ∷ short_within (suc most - 1) (n / 128)) remainder
    ∙ ap (λ (m : ℕ). b ∷ short_within m (n / 128)) fewer
    ∙ ap (λ (q : ℕ). b ∷ short_within most q) quotient)

-- ---- it is read where it stands, and nothing else is

longer_some : (b high : ℕ) (rest : List ℕ) → 1 ≤ high → high < 2 ^ 57 → longer_short b (high, rest) ≡ Some (128 * high + (b - 128), rest)
longer_some b high rest some small = rw (or_from (eqb high 0) (leb (2 ^ 57) high) (ne_eqb high 0 (λ none. omega arith)) (lt-leb (2 ^ 57) high small)) refl

not_zero : (n : ℕ) → eqb n 0 ≡ false → 1 ≤ n
not_zero zero e = absurd cc
not_zero (suc n) e = omega arith

longer_found : (b n : ℕ) (x : ℕ × List ℕ) (rest : List ℕ) → longer_short b x ≡ Some (n, rest) → (1 ≤ x.0) × (x.0 < 2 ^ 57) × (n ≡ 128 * x.0 + (b - 128)) × (x.1 ≡ rest)
longer_found b n x rest e = elim (chosen (eqb x.0 0 || leb (2 ^ 57) x.0) None (Some (128 * x.0 + (b - 128), x.1)) (Some (n, rest)) e) [
  | inl p ↦ absurd (let no = p.1 in cc)
  | inr p ↦
      let parts = some_pair_parts (128 * x.0 + (b - 128)) n x.1 rest p.1 in
      let tests = or_parts _ _ p.0 in
      (not_zero x.0 tests.0, leb-false (2 ^ 57) x.0 tests.1, sym parts.0, parts.1)
]

short_takes : (most : ℕ) (bytes : List ℕ) (n : ℕ) (rest : List ℕ) → short_within_at most bytes ≡ Some (n, rest) → BeginsSpelling IsShort bytes n rest
short_takes zero bytes n rest e = absurd cc
short_takes (suc most) [] n rest e = absurd cc
short_takes (suc most) (b ∷ bs) n rest e = elim (chosen (ltb b 128) (Some (b, bs)) (cond (ltb b 256) (option_and_then (longer_short b) (short_within_at most bs)) None) (Some (n, rest)) e) [
  | inl p ↦
      let parts = some_pair_parts b n bs rest p.1 in
      let small : b < 128 = ltb-true b 128 p.0 in
      (b ∷ [], ap (λ (t : List ℕ). b ∷ t) parts.1, record { small = omega (arith, parts.0); shortest = (small, sym parts.0) })
  | inr p ↦
      let q = kept (ltb b 256) (option_and_then (longer_short b) (short_within_at most bs)) (n, rest) p.1 in
      let byte : b < 256 = ltb-true b 256 q.0 in
      let x = bind_some (longer_short b) (short_within_at most bs) (n, rest) q.1 in
      let found = longer_found b n x.0 rest x.2 in
      let after = short_takes most bs x.0.0 x.0.1 x.1 in
      let big : 128 ≤ b = ltb-false b 128 p.0 in (
        b ∷ after.0,
        ap (λ (t : List ℕ). b ∷ t) (after.1 ∙ ap (λ (t : List ℕ). after.0 ++ t) found.3),
        record { small = omega (arith, found.1, found.2); shortest = longer_shortest b after.0 n x.0.0 big byte found.0 found.2 after.2.shortest },
      )
]

short_again : (most : ℕ) (s : List ℕ) (n : ℕ) (rest : List ℕ) → Fits most n → n < 2 ^ 64 → IsShortest s n → short_within_at most (s ++ rest) ≡ Some (n, rest)
short_again zero s n rest fits small h = absurd (omega (arith, fits.some))
short_again (suc most) [] n rest fits small h = absurd h
short_again (suc most) (b ∷ []) n rest fits small (low, value) = rw (lt-ltb b 128 low) (ap (λ (k : ℕ). Some (k, rest)) (sym value))
short_again (suc most) (b ∷ c ∷ bs) n rest fits small (big, byte, high, some, value, h) =
    let ih = short_again most (c ∷ bs) high rest (high_fits most high (b - 128) n value some fits) (omega arith) h in
    rw (le-ltb b 128 big, lt-ltb b 256 byte, ih) (longer_some b high rest some (omega arith) ∙ ap (λ (k : ℕ). Some (k, rest)) (sym value))

fits_ten : (n : ℕ) → n < 2 ^ 64 → Fits 10 n
fits_ten n small = record { some = omega arith; within = omega arith }

-- reading a short number is reading its spelling
pub short_reads : Reads IsShort short_at
unfolding short_at
short_reads = record {
  takes = short_takes 10;
  again = λ s n rest h. short_again 10 s n rest (fits_ten n h.small) h.small h.shortest;
}

-- which writing it appends
pub short_at-short_bytes : (n : ℕ) (rest : List ℕ) → n < 2 ^ 64 → short_at (short_bytes n ++ rest) ≡ Some (n, rest)
unfolding short_bytes
short_at-short_bytes n rest small =
    short_reads.again (short_within 10 n) n rest (record { small = small; shortest = written_shortest 10 n (fits_ten n small) })

-- and what is read is there as writing it appends it
pub short_at_spelled : (bytes : List ℕ) (n : ℕ) (rest : List ℕ) → short_at bytes ≡ Some (n, rest) → (n < 2 ^ 64) × (bytes ≡ short_bytes n ++ rest)
unfolding short_bytes
short_at_spelled bytes n rest e =
    let front = short_reads.takes bytes n rest e in
    let small : n < 2 ^ 64 = front.2.small in
    (small, front.1 ∙ ap (λ (s : List ℕ). s ++ rest) (shortest_written 10 n front.0 (fits_ten n small) front.2.shortest))
