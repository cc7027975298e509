-- `swap_remove`, `push` and `swap` put an element in the place of another.
use Rattle.std.proofs.Common.{◌≡◌, inl, inr, ℕ, suc, ◌-◌, ◌<◌, List, [], ◌∷◌, ◌++◌, length, take, get_or, set, sym, ap, subst, ◌∙◌, arith, take-suc}
use Rattle.std.specs.List.{swap, swap_remove}
use Rattle.std.proofs.lemmas.Bool.{cases_eq}
use Rattle.std.proofs.lemmas.List.{drop_all, get_or_append_left, get_or_push, get_or-set_other, get_or-set_same, get_or-take, length-set, length-take-le, length_push, set-append_left, set-set, set_at, set_split, take-set, take_all}
use Rattle.std.proofs.lemmas.List.Edits.{swap_is}
use Rattle.std.proofs.Math.Seq.{take-set-lt}

module _ {X : Type 0} (xs : List X) (n : ℕ) (d y : X) (size : length xs ≡ suc n) where
  -- the list without the element at i, with the last in its place and y at the end
  abbrev behind : ℕ → List X
  behind i = take n (set xs i (get_or xs n d)) ++ y ∷ []

  front_size : (i : ℕ) → length (take n (set xs i (get_or xs n d))) ≡ n
  front_size i = length-take-le n (set xs i (get_or xs n d)) (omega (arith, length-set xs i (get_or xs n d), size))

  behind_size : (i : ℕ) → length (behind i) ≡ suc n
  behind_size i = omega (arith, length_push (take n (set xs i (get_or xs n d))) y, front_size i)

  swapped_is : (i : ℕ) → i < length xs → swap (behind i) i n ≡ set (set (behind i) i y) n (get_or (behind i) i d)
  swapped_is i within =
      sym (swap_is (behind i) i n d (omega (arith, behind_size i, size, within)) (omega (arith, behind_size i)))
      ∙ ap (λ z. set (set (behind i) i z) n (get_or (behind i) i d)) (get_or_push (take n (set xs i (get_or xs n d))) y d n (front_size i))

  -- the last itself
  at_end : swap (behind n) n n ≡ set xs n y
  at_end =
      swapped_is n (omega (arith, size))
      ∙ set-set (behind n) n y (get_or (behind n) n d)
      ∙ ap (set (behind n) n) (get_or_push (take n (set xs n (get_or xs n d))) y d n (front_size n))
      ∙ set_at (take n (set xs n (get_or xs n d))) y [] y n (front_size n)
      ∙ ap (λ l. l ++ y ∷ []) (take-set xs n (get_or xs n d))
      ∙ ap (λ l. take n xs ++ y ∷ l) (sym (drop_all (suc n) xs (omega (arith, size))))
      ∙ sym (set_split xs n y (omega (arith, size)))

  -- one before it
  before_end : (i : ℕ) → i < n → swap (behind i) i n ≡ set xs i y
  before_end i less =
      let fits : i < length xs = omega (arith, size, less) in
      let last : X = get_or xs n d in
      let p : List X = take n (set xs i last) in
      let own : get_or (behind i) i d ≡ last =
      get_or_append_left p (y ∷ []) d i (omega (arith, front_size i, less)) ∙ get_or-take n (set xs i last) i d less ∙ get_or-set_same xs i last d fits in
      let first : set p i y ≡ take n (set xs i y) = sym (take-set-lt n (set xs i last) i y less) ∙ ap (take n) (set-set xs i last y) in
      let lasting : get_or (set xs i y) n d ≡ last = get_or-set_other xs i n y d (λ same. omega (arith, same, less)) in
      swapped_is i fits
      ∙ ap (set (set (behind i) i y) n) own
      ∙ ap (λ l. set l n last) (set-append_left p (y ∷ []) i y (omega (arith, front_size i, less)))
      ∙ set_at (set p i y) y [] last n (omega (arith, length-set p i y, front_size i))
      ∙ ap (λ l. l ++ last ∷ []) first
      ∙ ap (λ z. take n (set xs i y) ++ z ∷ []) (sym lasting)
      ∙ sym (take-suc (set xs i y) n d (omega (arith, length-set xs i y, size)))
      ∙ take_all (suc n) (set xs i y) (omega (arith, length-set xs i y, size))

  swapped_back : (i : ℕ) → i < length xs → swap (behind i) i n ≡ set xs i y
  swapped_back i within = elim (cases_eq i n) [
    | inl same ↦ subst (λ j. swap (behind j) j n ≡ set xs j y) (sym same) at_end
    | inr differs ↦ before_end i (omega (arith, differs, size, within))
  ]

pub put_back : {X : Type 0} (xs : List X) (i : ℕ) (d y : X) → i < length xs → swap (swap_remove xs i d ++ y ∷ []) i (length xs - 1) ≡ set xs i y
put_back xs i d y within = swapped_back xs (length xs - 1) d y (omega (arith, within)) i within
