-- The levels around one, and a branch to any of them.
use Rattle.std.proofs.Common.{◌≡◌, ℕ, zero, suc, ◌+◌, List, [], ◌∷◌, length, Option, Some, refl, sym, ap, arith, None, ◌∙◌}
use Rattle.std.specs.Prelude.{is_some, nat_lt}
use Rattle.std.proofs.lemmas.Bool.{lt-ltb}
use Rattle.wasm_types.specs.declared.code.Value.{Value}
use Rattle.wasm_types.specs.declared.code.ValType.{ValType}
use Rattle.wasm_stack.specs.declared.stack.StackLevel.{StackLevel}
use Rattle.wasm_stack.specs.View.{and_close, closed_by}
use Rattle.wasm_stack.specs.inside.Stacks.{levels_of}
use Rattle.wasm_stack.specs.Control.{branch, jump, past}
use Rattle.wasm_stack.specs.Thread.{Thread, closed_to}

pub outer_is : (gives : Option ValType) (ls : List StackLevel) (ops : List Value) (t : Thread) → is_some (closed_to (levels_of gives ls ops) t) ≡ nat_lt 0 (length ls)
outer_is gives [] ops t = refl
outer_is gives (l ∷ ls) ops t = sym (lt-ltb 0 (suc (length ls)) (omega arith))

-- a branch past n levels is one to the level n levels around
one_further : (o : Option Thread) (n : ℕ) → past o (branch (suc n)) ≡ past (and_close o) (branch n)
one_further None n = refl
one_further (Some t) n = refl

further : (m n k : ℕ) (t : Thread) → m ≡ n + k → past (closed_by k t) (branch n) ≡ past (closed_by m t) (branch 0)
further m zero k t e = let same : k ≡ m = omega arith in ap (λ j. past (closed_by j t) (branch 0)) same
further m (suc n) k t e = one_further (closed_by k t) n ∙ further m n (suc k) t (omega arith)

pub branch_by : (n : ℕ) (t : Thread) (o : Option Thread) → closed_by n t ≡ o → branch n t ≡ past o jump
branch_by n t o e = further n n 0 t (omega arith) ∙ ap (λ (o : Option Thread). past o jump) e
