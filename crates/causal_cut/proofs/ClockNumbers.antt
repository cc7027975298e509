-- The number of a clock among clocks that rise.
use Rattle.std.proofs.Common.{◌≡◌, ◌∙◌, ℕ, zero, suc, ◌+◌, ◌≤◌, ◌<◌, ◌==◌, inl, inr, false, List, [], ◌∷◌, length, get_or, Some, None, Result, Ok, Err, refl, ap, subst, arith}
use Rattle.std.specs.Prelude.{option_map, slice_get}
use Rattle.std.specs.List.{AllByRecursion}
use Rattle.std.specs.Ordering.{nat_cmp}
use Rattle.std.specs.List.Sorted.{IsBinarySearchResult}
use Rattle.std.specs.Result.{result_ok}
use Rattle.std.proofs.lemmas.Bool.{cases_lt, cases_order}
use Rattle.std.proofs.lemmas.Bool.Decides.{Decides-eqb, nat_tests}
use Rattle.std.proofs.lemmas.List.Sorted.{searched}
use Rattle.std.proofs.lemmas.Option.{get_or_from_slice_get, same_Some, slice_get-get_or, slice_get_within}
use Rattle.causal_cut.specs.inside.Asks.{AreRisingClocks, number_among}
use Rattle.causal_cut.proofs.ListPlaces.{first_is, none_is}

pub all_get : {A : Type 0} (P : A → Type 0) (xs : List A) (k : ℕ) (x : A) → AllByRecursion P xs → slice_get xs k ≡ Some x → P x
all_get P [] k x all at = absurd (cc)
all_get P (y ∷ xs) zero x all at = subst P (same_Some y x at) all.0
all_get P (y ∷ xs) (suc k) x all at = all_get P xs k x all.1 at

pub rising_get : (cs : List ℕ) (i k x y : ℕ) → AreRisingClocks cs → i < k → slice_get cs i ≡ Some x → slice_get cs k ≡ Some y → x < y
rising_get [] i k x y rising less at_i at_k = absurd (cc)
rising_get (c ∷ cs) i zero x y rising less at_i at_k = absurd (omega (arith, less))
rising_get (c ∷ cs) zero (suc k) x y rising less at_i at_k = omega (arith, all_get (λ d. c < d) cs k y rising.0 at_k, same_Some c x at_i)
rising_get (c ∷ cs) (suc i) (suc k) x y rising less at_i at_k = rising_get cs i k x y rising.1 (omega (arith, less)) at_i at_k

not_less : (x y : ℕ) → x < y → (x == y) ≡ false
not_less x y less = grind (arith, nat_tests)

pub number_found : (clock : ℕ) (cs : List ℕ) (i : ℕ) → AreRisingClocks cs → slice_get cs i ≡ Some clock → number_among clock cs ≡ Some (i + 1)
number_found clock cs i rising at = ap (option_map suc) (first_is (λ c. c == clock) cs i (record {
  item = clock;
  at = at;
  passes = (Decides-eqb clock clock).1 refl;
  before = λ k x less there. not_less x clock (rising_get cs k i x clock rising less there at);
})) ∙ ap Some (omega arith)

pub number_none : (clock : ℕ) (cs : List ℕ) → ((k x : ℕ) → slice_get cs k ≡ Some x → (x == clock) ≡ false) → number_among clock cs ≡ None
number_none clock cs none = ap (option_map suc) (none_is (λ c. c == clock) cs none)

level : (cs : List ℕ) → AreRisingClocks cs → (i j : ℕ) → i ≤ j → j < length cs → get_or cs i 0 ≤ get_or cs j 0
level cs rising i j most within = elim (cases_order i j) [
  | inl same ↦ omega (arith, ap (λ k. get_or cs k 0) same)
  | inr apart ↦ elim apart [
    | inl before ↦
        let less = rising_get cs i j (get_or cs i 0) (get_or cs j 0) rising before (slice_get-get_or cs i 0 (omega (arith, before, within))) (slice_get-get_or cs j 0 within) in
        omega (arith, less)
    | inr behind ↦ absurd (omega (arith, behind, most))
  ]
]

differs : (cs : List ℕ) (clock i : ℕ) → ((k : ℕ) → k < i → get_or cs k 0 < clock) → ((k : ℕ) → i ≤ k → k < length cs → clock < get_or cs k 0)
    → (k x : ℕ) → slice_get cs k ≡ Some x → (x == clock) ≡ false
differs cs clock i below above k x at =
    let within = slice_get_within cs k x at in
    let is = get_or_from_slice_get cs k x 0 at in
    elim (cases_lt k i) [
      | inl less ↦ not_less x clock (omega (arith, below k less, is))
      | inr most ↦ not_same x clock (omega (arith, above k most within, is))
    ] where
      not_same : (x y : ℕ) → y < x → (x == y) ≡ false
      not_same x y less = grind (arith, nat_tests)

-- what a search gives
pub number_searched : (clock : ℕ) (cs : List ℕ) (r : Result ℕ ℕ) → IsBinarySearchResult (λ y. nat_cmp y clock) cs r → AreRisingClocks cs → number_among clock cs ≡ option_map (λ i. i + 1) (result_ok r)
number_searched clock cs (Ok i) is rising =
    let found = searched cs clock (Ok i) is (level cs rising) in
    number_found clock cs i rising (slice_get-get_or cs i 0 found.0 ∙ ap Some found.1)
number_searched clock cs (Err i) is rising =
    let gap = searched cs clock (Err i) is (level cs rising) in
    number_none clock cs (differs cs clock i gap.1 gap.2)
