-- Facts about lists, place by place.
use Rattle.std.proofs.Common.{◌≡◌, ℕ, zero, suc, ◌+◌, ◌<◌, Bool, true, false, cond, List, [], ◌∷◌, length, take, drop, Some, None, refl, ap, sym, subst, ◌∙◌, arith}
use Rattle.std.specs.Prelude.{position, slice_get}
use Rattle.std.specs.List.{AllByRecursion, position_from}
use Rattle.std.proofs.lemmas.Iterator.Adapters.{position_from-zero}
use Rattle.std.proofs.lemmas.Option.{same_Some}

module _ {A : Type 0} where
  -- what holds at each place holds of all
  pub all_by_place : (P : A → Type 0) (xs : List A) → ((k : ℕ) (x : A) → slice_get xs k ≡ Some x → P x) → AllByRecursion P xs
  all_by_place P [] holds = tt
  all_by_place P (x ∷ xs) holds = (holds 0 x refl, all_by_place P xs (λ k y at. holds (suc k) y at))

  pub at_place : (P : A → Type 0) (xs : List A) → AllByRecursion P xs → (k : ℕ) (x : A) → slice_get xs k ≡ Some x → P x
  at_place P [] all k x at = cc
  at_place P (y ∷ xs) all zero x at = subst P (same_Some y x at) all.0
  at_place P (y ∷ xs) all (suc k) x at = at_place P xs all.1 k x at

  pub element : (xs : List A) (k : ℕ) → k < length xs → (x : A) × (slice_get xs k ≡ Some x)
  element [] k within = absurd (no k within) where
    no : (k : ℕ) → k < 0 → ⊥
    no k h = omega (arith, h)
  element (x ∷ xs) zero within = (x, refl)
  element (x ∷ xs) (suc k) within = element xs k (omega (arith, within))

  -- what is in front of what is left
  pub next_of : (xs : List A) (k : ℕ) (x : A) (ys : List A) → drop k xs ≡ x ∷ ys → (slice_get xs k ≡ Some x) × (drop (suc k) xs ≡ ys)
  next_of [] zero x ys is = absurd (cc)
  next_of [] (suc k) x ys is = absurd (cc)
  next_of (a ∷ xs) zero x ys is =
      let same : a ≡ x = cc in
      let rest : xs ≡ ys = cc in
      (ap Some same, rest)
  next_of (a ∷ xs) (suc k) x ys is = next_of xs k x ys is

  pub none_left : (xs : List A) (k : ℕ) → drop k xs ≡ [] → take k xs ≡ xs
  none_left [] zero is = refl
  none_left [] (suc k) is = refl
  none_left (x ∷ xs) zero is = absurd (cc)
  none_left (x ∷ xs) (suc k) is = ap (λ l. x ∷ l) (none_left xs k is)

  fails_from : (p : A → Bool) (i : ℕ) (xs : List A) → position_from p i xs ≡ None → AllByRecursion (λ x. p x ≡ false) xs
  fails_from p i [] none = tt
  fails_from p i (x ∷ xs) none = by_test (fails_from p (i + 1) xs) (p x) refl none where
    by_test : (position_from p (i + 1) xs ≡ None → AllByRecursion (λ x. p x ≡ false) xs) → (b : Bool) → p x ≡ b → cond b (Some i) (position_from p (i + 1) xs) ≡ None
        → AllByRecursion (λ x. p x ≡ false) (x ∷ xs)
    by_test later true is none = absurd (cc)
    by_test later false is none = (is, later none)

  -- where none passes, each fails
  pub none_passes : (p : A → Bool) (xs : List A) → position p xs ≡ None → AllByRecursion (λ x. p x ≡ false) xs
  none_passes p xs none = fails_from p 0 xs (sym (position_from-zero p xs) ∙ none)
