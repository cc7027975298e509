-- The lines of a list's items, one after the other.
use Rattle.std.proofs.Common.{◌≡◌, ℕ, zero, suc, ◌+◌, List, [], ◌∷◌, ◌++◌, take, Some, append_assoc, sym, ap, ◌∙◌, add-one}
use Rattle.std.specs.List.{flat_map}
use Rattle.std.specs.Prelude.{slice_get}
use Rattle.std.proofs.lemmas.List.{append-nil}

lines_more : {A : Type 0} (line : A → List ℕ) (xs : List A) (n : ℕ) (x : A) → slice_get xs n ≡ Some x → flat_map line (take (suc n) xs) ≡ flat_map line (take n xs) ++ line x
lines_more line [] n x e = absurd cc
lines_more line (y ∷ xs) zero x e = let same : y ≡ x = cc in append-nil (line y) ∙ ap line same
lines_more line (y ∷ xs) (suc n) x e =
    ap (λ (t : List ℕ). line y ++ t) (lines_more line xs n x e) ∙ sym (append_assoc (line y) (flat_map line (take n xs)) (line x))

-- one line more
pub listed_more : {A : Type 0} (line : A → List ℕ) (xs : List A) (n : ℕ) (x : A) (text next : List ℕ) → slice_get xs n ≡ Some x → text ≡ flat_map line (take n xs) → next ≡ text ++ line x
    → next ≡ flat_map line (take (n + 1) xs)
listed_more line xs n x text next found is more =
    more ∙ ap (λ (t : List ℕ). t ++ line x) is ∙ sym (lines_more line xs n x found) ∙ ap (λ (m : ℕ). flat_map line (take m xs)) (sym (add-one n))
