-- The locals that a function declares.
use Rattle.std.proofs.Common.{◌≡◌, ℕ, ◌+◌, ◌<◌, ◌≤◌, List, [], ◌∷◌, ◌++◌, length, take, drop, replicate, get_or, refl, sym, ap, ◌∙◌, arith, append_assoc, append-nil, length-append}
use Rattle.std.proofs.lemmas.List.{take_more, take-append-drop, length-replicate}
use Rattle.wasm_types.specs.declared.code.ValType.{ValType}
use Rattle.wasm_types.specs.declared.code.ValType.TheVariants.{I32}
use Rattle.wasm_types.specs.Locals.{zero_of, zeros}

-- the locals of two declarations, one after the other
zeros-append : (a b : List (ℕ × ValType)) → zeros (a ++ b) ≡ zeros a ++ zeros b
zeros-append [] b = refl
zeros-append (d ∷ a) b =
    ap (λ o. replicate d.0 (zero_of d.1) ++ o) (zeros-append a b) ∙ sym (append_assoc (replicate d.0 (zero_of d.1)) (zeros a) (zeros b))

-- one more declaration
pub zeros_more : (ds : List (ℕ × ValType)) (k : ℕ) → k < length ds →
    let d = get_or ds k (0, I32) in zeros (take (k + 1) ds) ≡ zeros (take k ds) ++ replicate d.0 (zero_of d.1)
zeros_more ds k lt =
    let d = get_or ds k (0, I32) in
    ap zeros (take_more ds k (0, I32) lt)
    ∙ zeros-append (take k ds) (d ∷ [])
    ∙ ap (λ o. zeros (take k ds) ++ o) (append-nil (replicate d.0 (zero_of d.1)))

-- and how many locals there are then
pub zeros_count : (ds : List (ℕ × ValType)) (k : ℕ) → k < length ds → length (zeros (take (k + 1) ds)) ≡ length (zeros (take k ds)) + (get_or ds k (0, I32)).0
zeros_count ds k lt =
    let d = get_or ds k (0, I32) in
    ap length (zeros_more ds k lt)
    ∙ length-append (zeros (take k ds)) (replicate d.0 (zero_of d.1))
    ∙ ap (λ m. length (zeros (take k ds)) + m) (length-replicate d.0 (zero_of d.1))

-- no fewer than of a part of the declarations
pub zeros_part : (ds : List (ℕ × ValType)) (k : ℕ) → length (zeros (take k ds)) ≤ length (zeros ds)
zeros_part ds k =
    let first = take k ds in
    let rest = drop k ds in
    let whole : zeros ds ≡ zeros first ++ zeros rest = ap zeros (sym (take-append-drop k ds)) ∙ zeros-append first rest in
    omega (arith, ap length whole ∙ length-append (zeros first) (zeros rest))
