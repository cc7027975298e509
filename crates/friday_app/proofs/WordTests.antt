-- Tests of words, and of the texts that they are.
use Rattle.std.proofs.Common.{◌≡◌, Bool, true, false, cond, suc, List, [], ◌∷◌, ap, length, map, refl}
use Rattle.std.specs.Prelude.{filter}

pub length-filter_map : {X Y : Type 0} (p : Y → Bool) (f : X → Y) (xs : List X) → length (filter (λ x. p (f x)) xs) ≡ length (filter p (map f xs))
length-filter_map p f [] = refl
length-filter_map p f (x ∷ xs) = by_test (p (f x)) (length-filter_map p f xs) where
  by_test : (b : Bool) → length (filter (λ x. p (f x)) xs) ≡ length (filter p (map f xs))
      → length (cond b (x ∷ filter (λ x. p (f x)) xs) (filter (λ x. p (f x)) xs)) ≡ length (cond b (f x ∷ filter p (map f xs)) (filter p (map f xs)))
  by_test true rest = ap suc rest
  by_test false rest = rest
