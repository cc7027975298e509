-- The names of a group's processes, one after the other.
use Rattle.std.proofs.Common.{◌≡◌, ℕ, zero, suc, ◌+◌, List, [], ◌∷◌, ◌++◌, take, Some, slice_get, sym, ap, ◌∙◌, add-one}

taken_more : (names : List (List ℕ)) (n : ℕ) (name : List ℕ) → Some name ≡ slice_get names n → take n names ++ name ∷ [] ≡ take (suc n) names
taken_more [] n name e = absurd cc
taken_more (first ∷ names) zero name e = let same : name ≡ first = cc in ap (λ (x : List ℕ). x ∷ []) same
taken_more (first ∷ names) (suc n) name e = ap (λ (rest : List (List ℕ)). first ∷ rest) (taken_more names n name e)

-- one name more
pub named_more : (names read more : List (List ℕ)) (n : ℕ) (name : List ℕ) → Some name ≡ slice_get names n → read ≡ take n names → more ≡ read ++ name ∷ [] → more ≡ take (n + 1) names
named_more names read more n name e is pushed = pushed ∙ ap (λ (front : List (List ℕ)). front ++ name ∷ []) is ∙ taken_more names n name e ∙ ap (λ (m : ℕ). take m names) (sym (add-one n))
