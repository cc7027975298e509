-- Text that is written piece by piece, out of a list.
use Rattle.std.proofs.Common.{◌≡◌, ℕ, zero, suc, ◌+◌, ◌<◌, List, [], ◌∷◌, ◌++◌, length, get_or, take, drop, None, decimal, append_assoc, refl, sym, ap, subst, ◌∙◌, arith}
use Rattle.std.specs.Prelude.{slice_get, slice_index_or, option_and_then}
use Rattle.std.specs.List.{flat_map}
use Rattle.std.proofs.lemmas.List.{drop_more}
use Rattle.coop_threads.specs.Crew.{value_of}
use Rattle.coop_threads.specs.declared.slot.Slot.{Slot}
use Rattle.guest_process.specs.declared.waiting.Waiting.{Waiting}
use Rattle.group_text.specs.Texts.{function_text, standing_text, thread_lines}

-- a piece more is written, and the rest still to come
piece : (text next more rest all : List ℕ) → next ≡ text ++ more → text ++ (more ++ rest) ≡ all → next ++ rest ≡ all
piece text next more rest all is whole = ap (λ t. t ++ rest) is ∙ append_assoc text more rest ∙ whole

-- ---- one item of a list that is taken in part

pub arguments_more : (f : ℕ → List ℕ) (text next all : List ℕ) (n m : ℕ) (xs ys : List ℕ) (x : ℕ) → xs ≡ x ∷ ys → m + 1 ≡ n → next ≡ text ++ f x
    → text ++ flat_map f (take n xs) ≡ all → next ++ flat_map f (take m ys) ≡ all
arguments_more f text next all n m xs ys x here one is whole =
    let same : n ≡ suc m = omega (arith, one) in
    let shape : take n xs ≡ x ∷ take m ys = λ i. take (same i) (here i) in
    piece text next (f x) (flat_map f (take m ys)) all is (ap (λ (l : List ℕ). text ++ flat_map f l) (sym shape) ∙ whole)

-- ---- the lines of threads

lines_at : (n t : ℕ) (ts : List (Slot Waiting)) → t < length ts
    → thread_lines n (drop t ts) ≡ decimal n ++ (standing_text (option_and_then value_of (slice_get ts t)) ++ thread_lines (suc n) (drop (suc t) ts))
lines_at n t [] within = absurd (omega (arith, within))
lines_at n zero (s ∷ ts) within = refl
lines_at n (suc t) (s ∷ ts) within = lines_at n t ts (omega (arith, within))

pub lines_more : (text next all : List ℕ) (ts : List (Slot Waiting)) (t u : ℕ) → t < length ts → u ≡ t + 1
    → next ≡ text ++ (decimal t ++ standing_text (option_and_then value_of (slice_get ts t)))
    → text ++ thread_lines t (drop t ts) ≡ all → next ++ thread_lines u (drop u ts) ≡ all
lines_more text next all ts t u within one is whole =
    let same : u ≡ suc t = omega (arith, one) in
    let standing = standing_text (option_and_then value_of (slice_get ts t)) in
    let rest = thread_lines (suc t) (drop (suc t) ts) in
    let line = append_assoc (decimal t) standing rest ∙ sym (lines_at t t ts within) in
    let done : next ++ rest ≡ all = piece text next (decimal t ++ standing) rest all is (ap (λ (l : List ℕ). text ++ l) line ∙ whole) in
    subst (λ n. next ++ thread_lines n (drop n ts) ≡ all) (sym same) done

-- ---- the functions of frames

-- one function more
pub functions_more : (text next all : List ℕ) (fs : List ℕ) (i : ℕ) → i < length fs → next ≡ text ++ function_text (get_or fs i 0) → text ++ flat_map function_text (drop i fs) ≡ all
    → next ++ flat_map function_text (drop (i + 1) fs) ≡ all
functions_more text next all fs i within is whole =
    let f = get_or fs i 0 in
    piece text next (function_text f) (flat_map function_text (drop (i + 1) fs)) all is (ap (λ (l : List ℕ). text ++ flat_map function_text l) (sym (drop_more fs i 0 within)) ∙ whole)

-- ---- a name that is not there

pub none_named : (names : List (List ℕ)) (node : ℕ) → None ≡ slice_get names node → slice_index_or names node [] ≡ []
none_named [] zero is = refl
none_named [] (suc node) is = refl
none_named (name ∷ names) zero is = absurd (cc)
none_named (name ∷ names) (suc node) is = none_named names node is
