-- What is read of a file whose bytes are known, piece by piece and up to a limit.
use Rattle.std.proofs.Common.{◌≡◌, ℕ, ◌+◌, ◌-◌, ◌<◌, ◌≤◌, ◌^◌, Bool, false, true, cond, List, [], ◌++◌, length, take, Option, Some, None, refl, ap, sym, ◌∙◌, arith, append_assoc, append-nil}
use Rattle.std.specs.Prelude.{IfSome, min, nat_le}
use Rattle.std.specs.Io.KnownBytes.{Consumes}
use Rattle.std.proofs.KnownBytes.{Consumes-nil, Consumes-trans}
use Rattle.std.proofs.lemmas.Bool.Decides.{nat_tests}
use Rattle.std.proofs.lemmas.List.{length-take, take_all}
use Rattle.std.proofs.lemmas.Option.{same_Some}
use Rattle.fri_outside.specs.Outside.{Held, Over, found_within}
use Rattle.fri_outside.specs.inside.Reading.{MovesFrontOfBytes}

-- ---- piece by piece

pub moves_none : (left : Option (List ℕ)) (bytes : List ℕ) → MovesFrontOfBytes left left bytes bytes
moves_none left bytes = ([], Consumes-nil left, sym (append-nil bytes))

pub moves_more : (left now next : Option (List ℕ)) (before between after piece : List ℕ) → MovesFrontOfBytes left now before between → Consumes now next piece → after ≡ between ++ piece → MovesFrontOfBytes left next before after
moves_more left now next before between after piece moved more is =
    (moved.0 ++ piece, Consumes-trans left now next moved.0 piece moved.1 more, is ∙ ap (λ (bytes : List ℕ). bytes ++ piece) moved.2 ∙ append_assoc before moved.0 piece)

-- and then to the end
pub moves_all : (left now : Option (List ℕ)) (before between after all : List ℕ) → MovesFrontOfBytes left now before between → IfSome now (λ rest. after ≡ between ++ rest) → left ≡ Some all → after ≡ before ++ all
moves_all None now before between after all moved end is = cc
moves_all (Some bytes) None before between after all moved end is = absurd moved.1
moves_all (Some bytes) (Some rest) before between after all moved end is =
    end ∙ ap (λ (b : List ℕ). b ++ rest) moved.2 ∙ append_assoc before moved.0 rest ∙ ap (λ (b : List ℕ). before ++ b) (sym moved.1 ∙ same_Some _ _ is)

-- ---- up to the limit

-- as many bytes as lie in memory are all where so many are taken
pub taken_to : (limit most : ℕ) (all bytes : List ℕ) → most ≡ min (limit + 1) (2 ^ 64 - 1) → limit < 2 ^ 64 → bytes ≡ take most all → length bytes < 2 ^ 63 → bytes ≡ take (limit + 1) all
taken_to limit most all bytes is fits taken few = by_test (nat_le (length all) most) refl where
  size : length bytes ≡ min most (length all)
  size = ap length taken ∙ length-take most all

  short : nat_le (length all) most ≡ true → length all ≤ most
  short test = grind (arith, nat_tests)

  long : nat_le (length all) most ≡ false → most < length all
  long test = grind (arith, nat_tests)

  by_test : (test : Bool) → nat_le (length all) most ≡ test → bytes ≡ take (limit + 1) all
  by_test true test =
      let all_there = short test in
      taken ∙ take_all most all all_there ∙ sym (take_all (limit + 1) all (omega (arith, all_there, is)))
  by_test false test =
      let over = long test in
      let most_is : most ≡ limit + 1 = omega (arith, over, size, few, is) in
      taken ∙ ap (λ (n : ℕ). take n all) most_is

over_test : (n limit : ℕ) → limit < n → nat_le n limit ≡ false
over_test n limit over = grind (arith, nat_tests)

within_test : (n limit : ℕ) → n ≤ limit → nat_le n limit ≡ true
within_test n limit within = grind (arith, nat_tests)

pub found_over : (limit : ℕ) (all bytes : List ℕ) → bytes ≡ take (limit + 1) all → limit < length bytes → found_within limit (Some all) ≡ Over
found_over limit all bytes taken over =
    let more : limit < length all = omega (arith, over, ap length taken ∙ length-take (limit + 1) all) in
    ap (λ (test : Bool). cond test (Held all) Over) (over_test (length all) limit more)

pub found_held : (limit : ℕ) (all bytes : List ℕ) → bytes ≡ take (limit + 1) all → length bytes ≤ limit → found_within limit (Some all) ≡ Held bytes
found_held limit all bytes taken within =
    let few : length all ≤ limit = omega (arith, within, ap length taken ∙ length-take (limit + 1) all) in
    ap (λ (test : Bool). cond test (Held all) Over) (within_test (length all) limit few)
    ∙ ap Held (sym (taken ∙ take_all (limit + 1) all (omega (arith, few))))
