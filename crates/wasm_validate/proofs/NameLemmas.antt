-- Names that differ, by their neighbors in a sorted list.
use Rattle.std.proofs.Common.{◌≡◌, ◌≢◌, ℕ, ◌+◌, ◌-◌, ◌<◌, ◌≤◌, Bool, false, List, [], ◌∷◌, length, get_or, map, Ordering, Less, Equal, Greater, is_lt, nat_cmp, sym, ap, ◌∙◌, subst, inl, inr, arith}
use Rattle.std.specs.Prelude.{AllPairs}
use Rattle.std.specs.List.{IsDistinct}
use Rattle.std.specs.List.Sorted.{IsPermutation, IsSorted, IsStrictlySortedBy}
use Rattle.std.specs.Ordering.{eq_by_cmp, ordering_reverse}
use Rattle.std.specs.Cmp.Lexicographic.{slice_cmp}
use Rattle.std.proofs.Math.ListN.{get_or-map}
use Rattle.std.proofs.lemmas.Bool.{false≢true, true≢false, cases_lt}
use Rattle.std.specs.Bool.{Decides}
use Rattle.std.specs.Cmp.{both_ways}
use Rattle.std.proofs.lemmas.Cmp.{nat_list_cmp_total}
use Rattle.std.proofs.lemmas.List.{length-map, get_or_default}
use Rattle.std.proofs.lemmas.List.Sorted.{IsPermutation-map, IsPermutation-sym}
use Rattle.std.proofs.lemmas.Map.Keys.{sorted_from_all_adjacent, IsDistinct-from_sorted, IsDistinct-IsPermutation, apart_from_distinct}
use Rattle.std.proofs.lemmas.Map.Made.{AllPairs-from_IsDistinct, IsDistinct-from_AllPairs}
use Rattle.std.proofs.lemmas.Map.Text.{is_eq-slice_cmp}
use Rattle.std.proofs.lemmas.Map.Lookups.{exact_bytes}
use Rattle.std.proofs.lemmas.Slice.Eq.{bytes_eq-Decides}
use Rattle.wasm_validate.specs.inside.Neighbors.{HasEqualNeighbors, HasNoEqualNeighbors, HasNoEqualNeighborsBelow}

-- the order of names
abbrev compared : List ℕ → List ℕ → Ordering
compared = slice_cmp nat_cmp

-- whether two names are equal in it
abbrev same_name : List ℕ → List ℕ → Bool
same_name = eq_by_cmp compared

same_name-Decides : (a b : List ℕ) → Decides (same_name a b) (a ≡ b)
same_name-Decides a b = subst (λ x. Decides x (a ≡ b)) (sym (is_eq-slice_cmp a b)) (bytes_eq-Decides a b)

same_name-flips : (a b : List ℕ) → same_name a b ≡ same_name b a
same_name-flips a b =
    both_ways (same_name a b) (same_name b a)
    (λ yes. (same_name-Decides b a).1 (sym ((same_name-Decides a b).0 yes)))
    (λ yes. (same_name-Decides a b).1 (sym ((same_name-Decides b a).0 yes)))

less_by : (o r : Ordering) → r ≡ ordering_reverse o → is_lt o ≡ false → r ≢ Equal → r ≡ Less
less_by Less r flipped not_less differ = absurd (true≢false not_less)
less_by Equal r flipped not_less differ = absurd (differ flipped)
less_by Greater r flipped not_less differ = flipped

-- a name that is not greater than another and not equal to it is less
less_from : (x y : List ℕ) → is_lt (compared y x) ≡ false → x ≢ y → compared x y ≡ Less
less_from x y not_less differ =
    less_by (compared y x) (compared x y) (nat_list_cmp_total.antisymm x y) not_less (λ equal. differ (exact_bytes x y equal))

module _ {X : Type 0} (f : X → List ℕ) where
  -- what a sorted list without equal neighbors shows rises
  rises : (xs : List X) → IsSorted (λ a b. compared (f a) (f b)) xs → HasNoEqualNeighbors f xs → IsStrictlySortedBy compared (map f xs)
  rises [] sorted differ = sorted_from_all_adjacent nat_list_cmp_total [] [] (λ k lt. absurd (omega arith))
  rises (x ∷ xs) sorted differ =
      sorted_from_all_adjacent nat_list_cmp_total (map f (x ∷ xs)) (f x) (λ k lt.
      let lt_x : k + 1 < length (x ∷ xs) = omega (arith, length-map (x ∷ xs) f) in
      rw (get_or-map f (x ∷ xs) k x, get_or-map f (x ∷ xs) (k + 1) x) (less_from _ _ (sorted k x (omega arith) lt_x) (differ k x lt_x)))

  -- a list differs from itself in no place where a sorted one has no equal neighbors
  pub names_differ : (xs sorted_xs : List X) → IsPermutation xs sorted_xs → IsSorted (λ a b. compared (f a) (f b)) sorted_xs
      → HasNoEqualNeighbors f sorted_xs → AllPairs ◌≢◌ (map f xs)
  names_differ xs ys moved sorted differ =
      AllPairs-from_IsDistinct same_name-Decides (map f xs)
      (IsDistinct-IsPermutation same_name same_name-flips (map f ys) (map f xs) (IsPermutation-map f ys xs (IsPermutation-sym xs ys moved))
      (IsDistinct-from_sorted compared (map f ys) (rises ys sorted differ)))

  -- equal neighbors stand at two places
  pub names_repeat : (xs ys : List X) → IsPermutation xs ys → HasEqualNeighbors f ys → AllPairs ◌≢◌ (map f xs) → ⊥
  names_repeat xs [] moved (k, lt, same) differ = absurd (omega arith)
  names_repeat xs (y ∷ ys) moved (k, lt, same) differ =
      let lt_map : k + 1 < length (map f (y ∷ ys)) = omega (arith, length-map (y ∷ ys) f) in
      let distinct : IsDistinct same_name (map f (y ∷ ys)) =
      IsDistinct-IsPermutation same_name same_name-flips (map f xs) (map f (y ∷ ys)) (IsPermutation-map f xs (y ∷ ys) moved) (IsDistinct-from_AllPairs same_name-Decides (map f xs) differ) in
      let apart : same_name (get_or (map f (y ∷ ys)) k (f y)) (get_or (map f (y ∷ ys)) (k + 1) (f y)) ≡ false =
      apart_from_distinct same_name (map f (y ∷ ys)) k (k + 1) (f y) distinct (omega arith) lt_map in
      let equal : get_or (map f (y ∷ ys)) k (f y) ≡ get_or (map f (y ∷ ys)) (k + 1) (f y) =
      get_or-map f (y ∷ ys) k y ∙ same y ∙ sym (get_or-map f (y ∷ ys) (k + 1) y) in
      false≢true (sym apart ∙ (same_name-Decides _ _).1 equal)

  -- two neighbors that a loop finds equal
  pub equal_at : (xs : List X) (i : ℕ) (p q : X) → 1 ≤ i → i < length xs → f (get_or xs (i - 1) p) ≡ f (get_or xs i q) → HasEqualNeighbors f xs
  equal_at xs i p q ge lt same =
      let one : i - 1 + 1 ≡ i = omega arith in
      (i - 1, omega arith, λ d. ap f (get_or_default xs (i - 1) d p (omega arith)) ∙ same ∙ ap f (get_or_default xs i q d lt) ∙ ap (λ k. f (get_or xs k d)) (sym one))

  -- one element on, where it is not equal to the one before
  pub differ_more : (xs : List X) (i : ℕ) (p q : X) → 1 ≤ i → i < length xs → HasNoEqualNeighborsBelow f xs i → f (get_or xs (i - 1) p) ≢ f (get_or xs i q)
      → HasNoEqualNeighborsBelow f xs (i + 1)
  differ_more xs i p q ge lt before here k d less same =
      elim (cases_lt (k + 1) i) [
        | inl below ↦ before k d below same
        | inr above ↦
            let at : i - 1 ≡ k = omega arith in
            let one : i ≡ k + 1 = omega arith in
            here (ap f (get_or_default xs (i - 1) p d (omega arith)) ∙ ap (λ j. f (get_or xs j d)) at ∙ same ∙ ap (λ j. f (get_or xs j d)) (sym one) ∙ ap f (get_or_default xs i d q lt))
      ]
