-- Lists place by place, and the first place at which a test passes.
use Rattle.std.proofs.Common.{◌≡◌, ◌∙◌, ◌⊎◌, ℕ, zero, suc, ◌+◌, ◌≤◌, ◌<◌, inl, inr, Bool, true, false, cond, List, [], ◌∷◌, ◌++◌, length, map, take, Some, None, refl, ap, sym, arith}
use Rattle.std.specs.Prelude.{position, slice_get}
use Rattle.std.specs.List.{position_from}
use Rattle.std.proofs.lemmas.Bool.{cases_order}
use Rattle.std.proofs.lemmas.Iterator.Adapters.{position_from-zero}
use Rattle.std.proofs.lemmas.Option.{same_Some, slice_get_within}

module _ {A : Type 0} where
  -- ---- fronts, and one more

  pub get_take : (n k : ℕ) (xs : List A) → k < n → slice_get (take n xs) k ≡ slice_get xs k
  get_take zero k xs within = absurd (omega (arith, within))
  get_take (suc n) k [] within = refl
  get_take (suc n) zero (x ∷ xs) within = refl
  get_take (suc n) (suc k) (x ∷ xs) within = get_take n k xs (omega (arith, within))

  pub taken_below : (n k : ℕ) (xs : List A) (x : A) → slice_get (take n xs) k ≡ Some x → k < n
  taken_below zero k xs x at = absurd (cc)
  taken_below (suc n) k [] x at = absurd (cc)
  taken_below (suc n) zero (y ∷ xs) x at = omega arith
  taken_below (suc n) (suc k) (y ∷ xs) x at = omega (arith, taken_below n k xs x at)

  pub get_pushed : (xs : List A) (y : A) (k : ℕ) (x : A) → slice_get (xs ++ y ∷ []) k ≡ Some x → (slice_get xs k ≡ Some x) ⊎ ((k ≡ length xs) × (y ≡ x))
  get_pushed [] y zero x at = inr (refl, same_Some y x at)
  get_pushed [] y (suc k) x at = absurd (cc)
  get_pushed (z ∷ xs) y zero x at = inl at
  get_pushed (z ∷ xs) y (suc k) x at = elim (get_pushed xs y k x at) [
    | inl old ↦ inl old
    | inr new ↦ inr (ap suc new.0, new.1)
  ]

  pub get_old : (xs ys : List A) (k : ℕ) (x : A) → slice_get xs k ≡ Some x → slice_get (xs ++ ys) k ≡ Some x
  get_old [] ys k x at = absurd (cc)
  get_old (z ∷ xs) ys zero x at = at
  get_old (z ∷ xs) ys (suc k) x at = get_old xs ys k x at

  pub get_new : (xs : List A) (x : A) → slice_get (xs ++ x ∷ []) (length xs) ≡ Some x
  get_new [] x = refl
  get_new (z ∷ xs) x = get_new xs x

  pub take_more : (xs : List A) (k : ℕ) (x : A) → slice_get xs k ≡ Some x → take (suc k) xs ≡ take k xs ++ x ∷ []
  take_more [] k x at = cc
  take_more (y ∷ xs) zero x at = ap (λ z. z ∷ []) (same_Some y x at)
  take_more (y ∷ xs) (suc k) x at = ap (λ l. y ∷ l) (take_more xs k x at)

  pub past : (xs : List A) (n : ℕ) → None ≡ slice_get xs n → length xs ≤ n
  past [] n none = omega arith
  past (x ∷ xs) zero none = cc
  past (x ∷ xs) (suc n) none = let rest = past xs n none in omega (arith, rest)

  -- ---- the first that passes

  pub record IsFirst (test : A → Bool) (xs : List A) (i : ℕ) : Type 0 where
    pub item : A
    pub at : slice_get xs i ≡ Some item
    pub passes : test item ≡ true
    pub before : (k : ℕ) (x : A) → k < i → slice_get xs k ≡ Some x → test x ≡ false

  abbrev pub NonePasses : (A → Bool) → List A → Type 0
  NonePasses test xs = (k : ℕ) (x : A) → slice_get xs k ≡ Some x → test x ≡ false

  abbrev IsPlaceFrom : (A → Bool) → ℕ → List A → Type 0
  IsPlaceFrom test n xs = ((i : ℕ) × (position_from test n xs ≡ Some (n + i)) × IsFirst test xs i) ⊎ ((position_from test n xs ≡ None) × NonePasses test xs)

  place_from : (test : A → Bool) (n : ℕ) (xs : List A) → IsPlaceFrom test n xs
  place_from test n [] = inr (refl, λ k x at. absurd (cc))
  place_from test n (y ∷ xs) = by_test (test y) refl (place_from test (n + 1) xs) where
    by_test : (b : Bool) → test y ≡ b → IsPlaceFrom test (n + 1) xs → IsPlaceFrom test n (y ∷ xs)
    by_test true is rest = inl (
      0,
      ap (λ b. cond b (Some n) (position_from test (n + 1) xs)) is ∙ ap Some (omega arith),
      record { item = y; at = refl; passes = is; before = λ k x less at. absurd (omega (arith, less)) },
    )
    by_test false is rest =
        let later : position_from test n (y ∷ xs) ≡ position_from test (n + 1) xs = ap (λ b. cond b (Some n) (position_from test (n + 1) xs)) is in
        elim rest [
          | inl found ↦ inl (
            suc found.0,
            later ∙ found.1 ∙ ap Some (omega arith),
            record {
              item = found.2.item;
              at = found.2.at;
              passes = found.2.passes;
              before = before_all is found.0 found.2.before;
            },
          )
          | inr none ↦ inr (later ∙ none.0, none_all is none.1)
        ] where
          before_all : test y ≡ false → (i : ℕ) → ((k : ℕ) (x : A) → k < i → slice_get xs k ≡ Some x → test x ≡ false) → (k : ℕ) (x : A) → k < suc i → slice_get (y ∷ xs) k ≡ Some x → test x ≡ false
          before_all is i before zero x less at = ap test (sym (same_Some y x at)) ∙ is
          before_all is i before (suc k) x less at = before k x (omega (arith, less)) at

          none_all : test y ≡ false → NonePasses test xs → NonePasses test (y ∷ xs)
          none_all is none zero x at = ap test (sym (same_Some y x at)) ∙ is
          none_all is none (suc k) x at = none k x at

  abbrev pub IsPlace : (A → Bool) → List A → Type 0
  IsPlace test xs = ((i : ℕ) × (position test xs ≡ Some i) × IsFirst test xs i) ⊎ ((position test xs ≡ None) × NonePasses test xs)

  pub place : (test : A → Bool) (xs : List A) → IsPlace test xs
  place test xs = elim (place_from test 0 xs) [
    | inl found ↦ inl (found.0, position_from-zero test xs ∙ found.1 ∙ ap Some (omega arith), found.2)
    | inr none ↦ inr (position_from-zero test xs ∙ none.0, none.1)
  ]

  pub first_is : (test : A → Bool) (xs : List A) (i : ℕ) → IsFirst test xs i → position test xs ≡ Some i
  first_is test xs i first = elim (place test xs) [
    | inl found ↦ found.1 ∙ ap Some (elim (cases_order found.0 i) [
      | inl same ↦ same
      | inr apart ↦ elim apart [
        | inl before ↦ absurd (cc (first.before found.0 found.2.item before found.2.at, found.2.passes))
        | inr behind ↦ absurd (cc (found.2.before i first.item behind first.at, first.passes))
      ]
    ])
    | inr none ↦ absurd (cc (none.1 i first.item first.at, first.passes))
  ]

  pub none_is : (test : A → Bool) (xs : List A) → NonePasses test xs → position test xs ≡ None
  none_is test xs none = elim (place test xs) [
    | inl found ↦ absurd (cc (none found.0 found.2.item found.2.at, found.2.passes))
    | inr other ↦ other.0
  ]

  pub place_within : (test : A → Bool) (xs : List A) (i : ℕ) → position test xs ≡ Some i → i < length xs
  place_within test xs i is = elim (place test xs) [
    | inl found ↦
        let same : found.0 ≡ i = same_Some found.0 i (sym found.1 ∙ is) in
        omega (arith, same, slice_get_within xs found.0 found.2.item found.2.at)
    | inr none ↦ absurd (cc (none.0, is))
  ]

  -- where all that pass are among the first n
  pub front_place : (test : A → Bool) (xs : List A) (n : ℕ) → ((i : ℕ) (x : A) → slice_get xs i ≡ Some x → test x ≡ true → i < n) → position test (take n xs) ≡ position test xs
  front_place test xs n early = elim (place test xs) [
    | inl found ↦
        let within : found.0 < n = early found.0 found.2.item found.2.at found.2.passes in
        first_is test (take n xs) found.0 (record {
          item = found.2.item;
          at = get_take n found.0 xs within ∙ found.2.at;
          passes = found.2.passes;
          before = λ k x less at. found.2.before k x less (sym (get_take n k xs (omega (arith, less, within))) ∙ at);
        }) ∙ sym found.1
    | inr none ↦ none_is test (take n xs) (λ k x at. none.1 k x (sym (get_take n k xs (taken_below n k xs x at)) ∙ at)) ∙ sym none.0
  ]

pub map_more : {A B : Type 0} (f : A → B) (xs : List A) (i : ℕ) (x : A) → slice_get xs i ≡ Some x → map f (take i xs) ++ f x ∷ [] ≡ map f (take (i + 1) xs)
map_more f [] i x at = cc
map_more f (y ∷ xs) zero x at = ap (λ z. f z ∷ []) (sym (same_Some y x at))
map_more f (y ∷ xs) (suc i) x at =
    let one : suc (i + 1) ≡ suc i + 1 = omega arith in
    ap (λ l. f y ∷ l) (map_more f xs i x at) ∙ ap (λ n. map f (take n (y ∷ xs))) one
