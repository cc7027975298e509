-- Threads within their limits, and instructions in place.
use Rattle.std.proofs.Common.{◌≡◌, ℕ, suc, ◌+◌, ◌≤◌, Bool, true, List, [], ◌∷◌, length, drop, refl, ap, ◌∙◌, subst, arith, rules, tests}
use Rattle.std.specs.Prelude.{if◌then◌else◌, nat_lt, nat_le, ◌&&◌, false}
use Rattle.std.proofs.lemmas.Bool.{and_parts, ltb-true, leb-true}
use Rattle.wasm_types.specs.declared.code.ValType.{ValType}
use Rattle.wasm_types.specs.declared.code.ValType.TheVariants as types
use Rattle.wasm_types.specs.declared.code.Value.{Value}
use Rattle.wasm_types.specs.declared.traps.Trap.TheVariants.{Exhausted}
use Rattle.wasm_types.specs.Code.{Tree, Then}
use Rattle.wasm_types.specs.Functions.{same_type, same_types}
use Rattle.wasm_types.specs.Modules.{FuncType}
use Rattle.wasm_types.specs.Stack.{is_same}
use Rattle.wasm_store.specs.Store.{Store}
use Rattle.wasm_step.specs.Burst.{At, settle, burst}
use Rattle.wasm_stack.specs.Limits.{ThreadWithin}
use Rattle.wasm_step.specs.Reduce.{ThreadAndStore, instr_row}
use Rattle.wasm_stack.specs.After.{AfterStep, Goes, Stops, limited_thread, at_trap}
use Rattle.wasm_stack.specs.Thread.{Thread, fits_limits, size_of_thread}
use Rattle.wasm_step.proofs.LevelRuns.{settle_here, burst_on}

same_type_itself : (v : ValType) → is_same v v ≡ true
same_type_itself types.I32 = refl
same_type_itself types.I64 = refl
same_type_itself types.F32 = refl
same_type_itself types.F64 = refl

same_types_itself : (vs : List ValType) → same_types vs vs ≡ true
same_types_itself [] = refl
same_types_itself (v ∷ vs) = ap (λ b. b && same_types vs vs) (same_type_itself v) ∙ same_types_itself vs

-- a function type is the same as itself
pub same_as_itself : (type : FuncType) → same_type type type ≡ true
same_as_itself type = ap (λ b. b && same_types type.results type.results) (same_types_itself type.params) ∙ same_types_itself type.results

pub within_is : (t : Thread) → ThreadWithin t → fits_limits t ≡ true
within_is t h =
    let size : size_of_thread t + 0 ≤ 16384 = omega (arith, h.size) in
    let frames = h.frames in
    search (rules, tests)

pub is_within_of : (t : Thread) → fits_limits t ≡ true → ThreadWithin t
is_within_of t e =
    let p = and_parts (nat_lt (length t.callers) 512) (nat_le (size_of_thread t + 0) 16384) e in
    record { frames = ltb-true (length t.callers) 512 p.0; size = omega (arith, leb-true (size_of_thread t + 0) 16384 p.1) }

-- what goes on after the test of the limits is within them
pub limited_within : (a : AfterStep) (u : Thread) → limited_thread a ≡ Goes u → ThreadWithin u
limited_within (Stops s) u e = cc
limited_within (Goes t) u e = by_test (fits_limits t) refl e
  where
    by_test : (b : Bool) → fits_limits t ≡ b → (if b then Goes t else at_trap t Exhausted) ≡ Goes u → ThreadWithin u
    by_test true q e' = let same : t ≡ u = cc in subst (λ (t : Thread). ThreadWithin t) same (is_within_of t q)
    by_test false q e' = cc

-- an instruction that goes on within the limits is a step of a burst
pub step_by : (t v u : Thread) (i : Tree) (g g' : Store) → t ≡ record v { todo = Then i v.todo } → instr_row i v g ≡ record { after = Goes u; store = g' } → ThreadWithin u → (n : ℕ) → burst (suc n) t g ≡ burst n u g'
step_by t v u i g g' here goes within n =
    let at : settle t ≡ At i v = ap settle here ∙ settle_here (record v { todo = Then i v.todo }) refl in
    burst_on n t v u g g' i at (ap (λ (b : ThreadAndStore). limited_thread b.after) goes ∙ ap (λ b. if b then Goes u else at_trap u Exhausted) (within_is u within)) (ap (λ (b : ThreadAndStore). b.store) goes)

pub within_one : (t : Thread) (x v : Value) → t.stack ≡ x ∷ drop 1 t.stack → ThreadWithin t → ThreadWithin (record t { stack = v ∷ drop 1 t.stack })
within_one t x v st h = let one = ap length st in record { frames = h.frames; size = omega (arith, h.size, one) }
