-- The type of a local, found by the ends of the runs.
use Rattle.std.proofs.Common.{◌≡◌, ℕ, zero, suc, ◌+◌, ◌-◌, ◌^◌, ◌<◌, ◌≤◌, min, List, [], ◌∷◌, ◌++◌, length, get_or, replicate, Option, Some, option_map, slice_get, refl, ap, subst, ◌∙◌, arith}
use Rattle.std.proofs.Math.Nat.{sub-add-min_cancel}
use Rattle.std.proofs.lemmas.List.{get_or-replicate, length-replicate}
use Rattle.std.proofs.lemmas.Option.{slice_get-get_or}
use Rattle.std.specs.List.Sorted.{IsNonDecreasing, IsPartitionPoint}
use Rattle.wasm_types.specs.declared.code.ValType.{ValType}
use Rattle.wasm_types.specs.Context.{expand_locals}
use Rattle.wasm_typing.specs.inside.Locals.{ends_from}

-- no more than the greatest u64
abbrev clip : ℕ → ℕ
clip n = min n (2 ^ 64 - 1)

clip_is : (n : ℕ) → n - (2 ^ 64 - 1) + clip n ≡ n
clip_is n = sub-add-min_cancel n (2 ^ 64 - 1)

slice_get-left : {A : Type 0} → (xs ys : List A) (i : ℕ) → i < length xs → slice_get (xs ++ ys) i ≡ slice_get xs i
slice_get-left [] ys i lt = absurd (omega (arith, lt))
slice_get-left (x ∷ xs) ys zero lt = refl
slice_get-left (x ∷ xs) ys (suc i) lt = slice_get-left xs ys i (omega (arith, lt))

pub slice_get-right : {A : Type 0} → (xs ys : List A) (n i : ℕ) → n ≡ length xs + i → slice_get (xs ++ ys) n ≡ slice_get ys i
slice_get-right [] ys n i e = ap (slice_get ys) (omega (arith, e))
slice_get-right (x ∷ xs) ys zero i e = absurd (omega (arith, e))
slice_get-right (x ∷ xs) ys (suc n) i e = slice_get-right xs ys n i (omega (arith, e))

slice_get-replicate : (n i : ℕ) (t : ValType) → i < n → slice_get (replicate n t) i ≡ Some t
slice_get-replicate n i t lt =
    slice_get-get_or (replicate n t) i t (omega (arith, lt, length-replicate n t)) ∙ ap Some (get_or-replicate n i t t lt)

-- the ends are from the number before them on
after_start : (runs : List (ℕ × ValType)) (n k d : ℕ) → n < 2 ^ 64 → k < length (ends_from n runs) → n ≤ get_or (ends_from n runs) k d
after_start [] n k d small lt = absurd (omega (arith, lt))
after_start (run ∷ runs) n zero d small lt = omega (arith, clip_is (n + run.0))
after_start (run ∷ runs) n (suc k) d small lt =
    let next = after_start runs (clip (n + run.0)) k d (omega (arith, clip_is (n + run.0))) (omega (arith, lt)) in
    omega (arith, next, clip_is (n + run.0))

-- and do not fall
ends_rise_from : (runs : List (ℕ × ValType)) (n : ℕ) → n < 2 ^ 64 → IsNonDecreasing (ends_from n runs)
ends_rise_from [] n small i j d le lt = absurd (omega (arith, lt))
ends_rise_from (run ∷ runs) n small zero zero d le lt = omega arith
ends_rise_from (run ∷ runs) n small zero (suc j) d le lt =
    after_start runs (clip (n + run.0)) j d (omega (arith, clip_is (n + run.0))) (omega (arith, lt))
ends_rise_from (run ∷ runs) n small (suc i) zero d le lt = absurd (omega (arith, le))
ends_rise_from (run ∷ runs) n small (suc i) (suc j) d le lt =
    ends_rise_from runs (clip (n + run.0)) (omega (arith, clip_is (n + run.0))) i j d (omega (arith, le)) (omega (arith, lt))

pub ends_rise : (runs : List (ℕ × ValType)) → IsNonDecreasing (ends_from 0 runs)
ends_rise runs = ends_rise_from runs 0 (omega arith)

abbrev type_of : Option (ℕ × ValType) → Option ValType
type_of = option_map (λ run. run.1)

-- so many locals before the runs, and x into them
at_run : (runs : List (ℕ × ValType)) (n x i : ℕ) → n + x < 2 ^ 64 - 1 →
    ((k : ℕ) → k < i → k < length (ends_from n runs) → get_or (ends_from n runs) k 0 ≤ n + x) →
    (i < length (ends_from n runs) → n + x < get_or (ends_from n runs) i 0) →
    slice_get (expand_locals runs) x ≡ type_of (slice_get runs i)
at_run [] n x i small before here = refl
at_run (run ∷ runs) n x zero small before here =
    let inside : x < run.0 = omega (arith, here (omega arith), clip_is (n + run.0)) in
    slice_get-left (replicate run.0 run.1) (expand_locals runs) x (omega (arith, inside, length-replicate run.0 run.1))
    ∙ slice_get-replicate run.0 x run.1 inside
at_run (run ∷ runs) n x (suc i) small before here =
    let past = before zero (omega arith) (omega arith) in
    let end : clip (n + run.0) ≡ n + run.0 = omega (arith, past, clip_is (n + run.0)) in
    let behind : run.0 ≤ x = omega (arith, past, end) in
    let same : clip (n + run.0) + (x - run.0) ≡ n + x = omega (arith, end, behind) in
    slice_get-right (replicate run.0 run.1) (expand_locals runs) x (x - run.0) (omega (arith, behind, length-replicate run.0 run.1))
    ∙ at_run runs (clip (n + run.0)) (x - run.0) i (omega (arith, same))
    (λ k lt within. omega (arith, before (suc k) (omega arith) (omega arith), same))
    (λ lt. omega (arith, here (omega arith), same))

length-ends : (runs : List (ℕ × ValType)) (n : ℕ) → length (ends_from n runs) ≡ length runs
length-ends [] n = refl
length-ends (run ∷ runs) n = ap suc (length-ends runs (clip (n + run.0)))

-- the parameters stand before the locals
pub found_at : (params : List ValType) (runs : List (ℕ × ValType)) (ends : List ℕ) (x i : ℕ) →
    ends ≡ ends_from 0 runs → length params ≤ x → x < 2 ^ 32 →
    IsPartitionPoint (λ e. e ≤ x - length params) (λ e. x - length params < e) ends i →
    slice_get (params ++ expand_locals runs) x ≡ type_of (slice_get runs i)
found_at params runs ends x i is behind small point =
    slice_get-right params (expand_locals runs) x (x - length params) (omega arith)
    ∙ at_run runs 0 (x - length params) i (omega arith)
    (λ k lt within. omega (arith, subst (λ (l : List ℕ). get_or l k 0 ≤ x - length params) is (point.0 k 0 (omega arith) lt)))
    (λ lt. omega (arith, subst (λ (l : List ℕ). x - length params < get_or l i 0) is (point.1 i 0 (omega arith) (omega (arith, lt, ap length is)))))
