-- Reading values one after the other, as loops do.
use Rattle.std.proofs.Common.{◌≡◌, ℕ, suc, ◌-◌, ◌+◌, ◌≤◌, ◌<◌, List, [], ◌∷◌, ◌++◌, Option, Some, None, refl, sym, ap, ◌∙◌, append_assoc, arith}
use Rattle.std.proofs.lemmas.List.{append-nil}
use Rattle.wasm_types.specs.Modules.{Func}
use Rattle.wasm_decode.specs.declared.error.DecodeError.{DecodeError}
use Rattle.wasm_decode.specs.declared.error.DecodeError.TheVariants as errors
use Rattle.wasm_decode.specs.inside.Decoding.{IsErrorOf}
use Rattle.wasm_decode.specs.Values.{Reader, ◌>>=◌, each_at, whole_read, sized_at}
use Rattle.wasm_decode.specs.Entries.{func_at, funcs_at}

-- what was read before, and what is still read
abbrev pub with_front : {A : Type 0} → List A → Option (List A × List ℕ) → Option (List A × List ℕ)
with_front front read = read >>= λ x. Some (front ++ x.0, x.1)

-- one more value goes to what was read before
regroup : {A : Type 0} (front : List A) (x : A) (read : Option (List A × List ℕ)) → with_front front (read >>= λ others. Some (x ∷ others.0, others.1)) ≡ with_front (front ++ x ∷ []) read
regroup {A} front x (Some others) = ap (λ (xs : List A). Some (xs, others.1)) (simp append_assoc)
regroup front x None = refl

-- ---- so many values

pub goes_on : {A : Type 0} (read : Reader A) (front : List A) (count i : ℕ) (bytes : List ℕ) (x : A) (after : List ℕ) (total : Option (List A × List ℕ)) → i < count → read bytes ≡ Some (x, after)
    → with_front front (each_at read (count - i) bytes) ≡ total → with_front (front ++ x ∷ []) (each_at read (count - (i + 1)) after) ≡ total
unfolding each_at
goes_on read front count i bytes x after total less h so_far =
    let k : count - i ≡ suc (count - (i + 1)) = omega arith in
    let one : with_front front (each_at read (count - i) bytes) ≡ with_front (front ++ x ∷ []) (each_at read (count - (i + 1)) after) = rw (k, h) (regroup front x (each_at read (count - (i + 1)) after)) in
    sym one ∙ so_far

pub fails : {A : Type 0} (e : DecodeError) (read : Reader A) (front : List A) (count i : ℕ) (bytes : List ℕ) (total : Option (List A × List ℕ)) → i < count → IsErrorOf e (read bytes)
    → with_front front (each_at read (count - i) bytes) ≡ total → IsErrorOf e total
unfolding each_at
fails errors.NoMemory read front count i bytes total less h so_far = tt
fails errors.Malformed read front count i bytes total less h so_far =
    let k : count - i ≡ suc (count - (i + 1)) = omega arith in
    let one : with_front front (each_at read (count - i) bytes) ≡ None = rw (k, h) refl in
    sym so_far ∙ one

pub is_done : {A : Type 0} (read : Reader A) (front : List A) (count i : ℕ) (bytes : List ℕ) (total : Option (List A × List ℕ)) → count ≤ i → with_front front (each_at read (count - i) bytes) ≡ total → total ≡ Some (front, bytes)
unfolding each_at
is_done {A} read front count i bytes total le so_far =
    let k : count - i ≡ 0 = omega arith in
    let one : with_front front (each_at read (count - i) bytes) ≡ Some (front, bytes) = rw k (ap (λ (xs : List A). Some (xs, bytes)) (append-nil front)) in
    sym so_far ∙ one

-- ---- functions, one for each index

pub func_goes_on : (front : List Func) (index : ℕ) (indices bytes : List ℕ) (f : Func) (after : List ℕ) (total : Option (List Func × List ℕ)) → sized_at (whole_read (func_at index)) bytes ≡ Some (f, after)
    → with_front front (funcs_at (index ∷ indices) bytes) ≡ total → with_front (front ++ f ∷ []) (funcs_at indices after) ≡ total
unfolding funcs_at
func_goes_on front index indices bytes f after total h so_far =
    let one : with_front front (funcs_at (index ∷ indices) bytes) ≡ with_front (front ++ f ∷ []) (funcs_at indices after) = rw h (regroup front f (funcs_at indices after)) in
    sym one ∙ so_far

pub func_fails : (e : DecodeError) (front : List Func) (index : ℕ) (indices bytes : List ℕ) (total : Option (List Func × List ℕ)) → IsErrorOf e (sized_at (whole_read (func_at index)) bytes)
    → with_front front (funcs_at (index ∷ indices) bytes) ≡ total → IsErrorOf e total
unfolding funcs_at
func_fails errors.NoMemory front index indices bytes total h so_far = tt
func_fails errors.Malformed front index indices bytes total h so_far =
    let one : with_front front (funcs_at (index ∷ indices) bytes) ≡ None = rw h refl in
    sym so_far ∙ one

pub funcs_done : (front : List Func) (indices bytes : List ℕ) (total : Option (List Func × List ℕ)) → indices ≡ [] → with_front front (funcs_at indices bytes) ≡ total → total ≡ Some (front, bytes)
unfolding funcs_at
funcs_done front indices bytes total nothing so_far =
    let one : with_front front (funcs_at indices bytes) ≡ Some (front, bytes) = rw nothing (ap (λ (fs : List Func). Some (fs, bytes)) (append-nil front)) in
    sym so_far ∙ one
