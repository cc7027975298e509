-- The log of a pair that goes together with those before it clashes with none.
use Rattle.std.proofs.Common.{◌≡◌, ◌≢◌, ◌⊎◌, ◌∙◌, ◌<◌, ◌||◌, inl, inr, ℕ, suc, Bool, true, false, not, eqb, List, [], ◌∷◌, ◌++◌, length, map, None, ap, arith, refl, subst}
use Rattle.std.specs.Prelude.{AllPairs, bytes_eq}
use Rattle.std.specs.List.{AllByRecursion}
use Rattle.std.proofs.Math.Seq.{get_or-append_seam}
use Rattle.std.proofs.lemmas.Bool.{ne_eqb}
use Rattle.std.proofs.lemmas.Bool.Decides.{eqb_tells}
use Rattle.std.proofs.lemmas.List.{length-append}
use Rattle.std.proofs.lemmas.Slice.Eq.{bytes_eq-Decides}
use Rattle.call_log.specs.Head.{Head}
use Rattle.log_pairs.specs.Pairs.{Loaded, clash_of_logs, has_name, has_process, is_other_group}
use Rattle.log_pairs.specs.Valid.{AreOfOneGroup}
use Rattle.log_pairs.proofs.LogClashes.{first_reason}

-- ---- what is so of each two is so of those before a place and of what stands there

pairs_behind : {X : Type 0} (R : X → X → Type 0) (x : X) (xs : List X) → AllPairs R (x ∷ xs) → AllPairs R xs
pairs_behind R x xs all i j d before below = all (suc i) (suc j) d (omega (arith, before)) (omega (arith, below))

before_it : {X : Type 0} (R : X → X → Type 0) (xs : List X) (y : X) (rest : List X) → AllPairs R (xs ++ y ∷ rest) → AllByRecursion (λ x. R x y) xs
before_it R [] y rest all = tt
before_it R (x ∷ xs) y rest all =
    let within : suc (length xs) < length ((x ∷ xs) ++ y ∷ rest) = omega (arith, length-append xs (y ∷ rest)) in (
      subst (R x) (get_or-append_seam xs y rest x) (all 0 (suc (length xs)) x (omega arith) within),
      before_it R xs y rest (pairs_behind R x (xs ++ y ∷ rest) all),
    )

of_heads : (P : Head → Type 0) (ls : List Loaded) → AllByRecursion P (map (λ l. l.head) ls) → AllByRecursion (λ l. P l.head) ls
of_heads P [] all = tt
of_heads P (l ∷ ls) all = (all.0, of_heads P ls all.1)

-- ---- no test finds one

equal_test : (a b : ℕ) → a ≡ b → eqb a b ≡ true
equal_test a b same = tells (eqb_tells a b) where
  tells : ((eqb a b ≡ true) × (a ≡ b)) ⊎ ((eqb a b ≡ false) × (a ≢ b)) → eqb a b ≡ true
  tells (inl h) = h.0
  tells (inr h) = absurd (h.1 same)

never : (b : Bool) → (b ≡ true → ⊥) → b ≡ false
never true wrong = absurd (wrong refl)
never false wrong = refl

same_group : (ls : List Loaded) (h : Head) → AllByRecursion (λ l. AreOfOneGroup l.head h) ls → is_other_group ls h.count ≡ false
same_group [] h all = refl
same_group (l ∷ ls) h all = ap not (equal_test l.head.count h.count all.0.count)

no_process : (ls : List Loaded) (h : Head) → AllByRecursion (λ l. AreOfOneGroup l.head h) ls → has_process ls h.process ≡ false
no_process [] h all = refl
no_process (l ∷ ls) h all = ap (λ (b : Bool). b || has_process ls h.process) (ne_eqb l.head.process h.process all.0.process) ∙ no_process ls h all.1

no_name : (ls : List Loaded) (h : Head) → AllByRecursion (λ l. AreOfOneGroup l.head h) ls → has_name ls h.name ≡ false
no_name [] h all = refl
no_name (l ∷ ls) h all =
    ap (λ (b : Bool). b || has_name ls h.name) (never (bytes_eq l.head.name h.name) (λ e. all.0.name ((bytes_eq-Decides l.head.name h.name).0 e))) ∙ no_name ls h all.1

clashes_not : (ls : List Loaded) (h : Head) → AllByRecursion (λ l. AreOfOneGroup l.head h) ls → clash_of_logs ls h ≡ None
clashes_not ls h all =
    ap (λ (b : Bool). first_reason b (has_process ls h.process) (has_name ls h.name)) (same_group ls h all)
    ∙ ap (λ (b : Bool). first_reason false b (has_name ls h.name)) (no_process ls h all)
    ∙ ap (first_reason false false) (no_name ls h all)

-- a head after those of some pairs, where each two go together
pub no_clash : (ls : List Loaded) (h : Head) (rest : List Head) → AllPairs AreOfOneGroup (map (λ l. l.head) ls ++ h ∷ rest) → clash_of_logs ls h ≡ None
no_clash ls h rest all = clashes_not ls h (of_heads (λ x. AreOfOneGroup x h) ls (before_it AreOfOneGroup (map (λ l. l.head) ls) h rest all))
