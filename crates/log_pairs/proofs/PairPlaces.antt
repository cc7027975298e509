-- The first of the loaded pairs that is of a process.
use Rattle.std.proofs.Common.{◌≡◌, ◌⊎◌, ◌∙◌, ◌<◌, ◌≤◌, ◌+◌, ℕ, zero, suc, Bool, true, false, cond, ltb, get_or, Bor, List, [], ◌∷◌, length, map, Option, Some, None, ap, arith, inl, inr, refl, subst, sym}
use Rattle.std.specs.Prelude.{◌==◌, IfSome, is_some, option_and_then, option_map, slice_get}
use Rattle.std.specs.List.{position_from}
use Rattle.std.specs.Option.{option_copied}
use Rattle.std.proofs.lemmas.Bool.{cases_lt, eq-eqb, ltb-false, ltb-true}
use Rattle.std.proofs.lemmas.Iterator.Adapters.{position_from-zero}
use Rattle.std.proofs.lemmas.Option.{same_Some, slice_get-get_or, slice_get-map, slice_get_past}
use Rattle.log_pairs.specs.declared.pairs.Loaded.{Loaded as LoadedFiles}
use Rattle.log_pairs.specs.declared.pairs.Pair.{Pair as PairOfWords}
use Rattle.log_pairs.specs.Pairs.{Loaded}
use Rattle.log_pairs.specs.Meanings.{AreLoadedPairs, IsLoadedPair, pair_of}
use Rattle.log_pairs.specs.Finding.{pair_of_process}

abbrev is_of : ℕ → Loaded → Bool
is_of process l = l.head.process == process

-- none before this place is of the process
abbrev pub NoneBefore : List LoadedFiles → ℕ → ℕ → Type 0
NoneBefore all process n = (ls : List Loaded) → AreLoadedPairs all ls → (k : ℕ) (l : Loaded) → k < n → slice_get ls k ≡ Some l → is_of process l ≡ false

pub record LoadedAt (all : List LoadedFiles) (ls : List Loaded) (n : ℕ) (l : LoadedFiles) : Type 0 where
  pub is : Loaded
  pub here : slice_get ls n ≡ Some is
  pub loaded : IsLoadedPair l is

pub loaded_at : (all : List LoadedFiles) (ls : List Loaded) → AreLoadedPairs all ls → (n : ℕ) (l : LoadedFiles) → slice_get all n ≡ Some l → LoadedAt all ls n l
loaded_at [] ls are n l at = cc
loaded_at (x ∷ all) [] are n l at = absurd are
loaded_at (x ∷ all) (is ∷ ls) are zero l at = record { is = is; here = refl; loaded = subst (λ (l : LoadedFiles). IsLoadedPair l is) (same_Some x l at) are.0 }
loaded_at (x ∷ all) (is ∷ ls) are (suc n) l at = let rest = loaded_at all ls are.1 n l at in record { is = rest.is; here = rest.here; loaded = rest.loaded }

same_length : (all : List LoadedFiles) (ls : List Loaded) → AreLoadedPairs all ls → length all ≡ length ls
same_length [] [] are = refl
same_length [] (is ∷ ls) are = absurd are
same_length (l ∷ all) [] are = absurd are
same_length (l ∷ all) (is ∷ ls) are = ap suc (same_length all ls are.1)

first_from : (p : Loaded → Bool) (i n : ℕ) (ls : List Loaded) (l : Loaded) → ((k : ℕ) (m : Loaded) → k < n → slice_get ls k ≡ Some m → p m ≡ false) → slice_get ls n ≡ Some l → p l ≡ true
    → position_from p i ls ≡ Some (i + n)
first_from p i n [] l before at passes = cc
first_from p i zero (m ∷ ls) l before at passes =
    let here : i ≡ i + 0 = omega arith in
    ap (λ b. cond b (Some i) (position_from p (i + 1) ls)) (ap p (same_Some m l at) ∙ passes) ∙ ap Some here
first_from p i (suc n) (m ∷ ls) l before at passes =
    let first : 0 < suc n = omega arith in
    let here : i + 1 + n ≡ i + suc n = omega arith in
    ap (λ b. cond b (Some i) (position_from p (i + 1) ls)) (before 0 m first refl)
    ∙ first_from p (i + 1) n ls l (λ k x below x_at. before (suc k) x (omega (arith, below)) x_at) at passes ∙ ap Some here

none_from : (p : Loaded → Bool) (i : ℕ) (ls : List Loaded) → ((k : ℕ) (m : Loaded) → k < length ls → slice_get ls k ≡ Some m → p m ≡ false) → position_from p i ls ≡ None
none_from p i [] before = refl
none_from p i (m ∷ ls) before =
    let first : 0 < suc (length ls) = omega arith in
    ap (λ b. cond b (Some i) (position_from p (i + 1) ls)) (before 0 m first refl) ∙ none_from p (i + 1) ls (λ k x below x_at. before (suc k) x (omega (arith, below)) x_at)

-- what is at a place of a slice, copied
pub got : (pairs : List PairOfWords) (n : ℕ) (o : Option (Bor PairOfWords)) → is_some o ≡ ltb n (length pairs) → IfSome o (λ x. x.now ≡ get_or pairs n x.now) → option_copied o ≡ slice_get pairs n
got pairs n None some is = sym (slice_get_past pairs n (ltb-false n (length pairs) (sym some)))
got pairs n (Some x) some is = ap Some is ∙ sym (slice_get-get_or pairs n x.now (ltb-true n (length pairs) (sym some)))

-- what is at a place within
pub item_at : (all : List LoadedFiles) (n : ℕ) (l : LoadedFiles) → n < length all → l ≡ get_or all n l → slice_get all n ≡ Some l
item_at all n l within is = slice_get-get_or all n l within ∙ ap Some (sym is)

-- the pair at the first place of the process
pub found_at : (pairs : List PairOfWords) (all : List LoadedFiles) (process n : ℕ) (l : LoadedFiles) → NoneBefore all process n → slice_get all n ≡ Some l → ((is : Loaded) → IsLoadedPair l is → process ≡ is.head.process)
    → (ls : List Loaded) → AreLoadedPairs all ls → option_map pair_of (slice_get pairs n) ≡ pair_of_process (map pair_of pairs) ls process
found_at pairs all process n l before at of ls are =
    let x = loaded_at all ls are n l at in
    let passes : is_of process x.is ≡ true = eq-eqb x.is.head.process process (sym (of x.is x.loaded)) in
    let zero_on : 0 + n ≡ n = omega arith in
    sym (ap (option_and_then (slice_get (map pair_of pairs))) (position_from-zero (is_of process) ls ∙ first_from (is_of process) 0 n ls x.is (before ls are) x.here passes ∙ ap Some zero_on)
    ∙ slice_get-map pair_of pairs n)

-- no pair is of the process
pub found_none : (pairs : List PairOfWords) (all : List LoadedFiles) (process n : ℕ) → NoneBefore all process n → length all ≤ n → (ls : List Loaded) → AreLoadedPairs all ls
    → None ≡ pair_of_process (map pair_of pairs) ls process
found_none pairs all process n before whole ls are =
    sym (ap (option_and_then (slice_get (map pair_of pairs)))
    (position_from-zero (is_of process) ls ∙ none_from (is_of process) 0 ls (λ k m below at. before ls are k m (omega (arith, below, whole, same_length all ls are)) at)))

-- one more that is not of it
pub none_more : (all : List LoadedFiles) (process n : ℕ) (l : LoadedFiles) → NoneBefore all process n → slice_get all n ≡ Some l → ((is : Loaded) → IsLoadedPair l is → (is.head.process == process) ≡ false)
    → NoneBefore all process (n + 1)
none_more all process n l before at other ls are k m below here = by_order (cases_lt k n) where
  x : LoadedAt all ls n l
  x = loaded_at all ls are n l at

  by_order : (k < n) ⊎ (n ≤ k) → is_of process m ≡ false
  by_order (inl less) = before ls are k m less here
  by_order (inr most) =
      let same : n ≡ k = omega (arith, below, most) in
      ap (is_of process) (same_Some m x.is (sym here ∙ ap (slice_get ls) (sym same) ∙ x.here)) ∙ other x.is x.loaded
