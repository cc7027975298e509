-- That there is a rule for what comes next.
use Rattle.std.specs.Prelude.{◌≡◌, ℕ, ◌∷◌, drop}
use Rattle.wasm_types.specs.declared.code.Value.TheVariants.{I32, I64}
use Rattle.wasm_types.specs.Code.{Tree}
use Rattle.wasm_values.specs.Numeric.{IsNone, binary_32, binary_64, unary_32, unary_64}
use Rattle.wasm_store.specs.Store.{Store}
use Rattle.wasm_stack.specs.After.{Sticks, Stops}
use Rattle.wasm_stack.specs.Thread.{Thread}
use Rattle.wasm_step.specs.Burst.{burst, most_instructions}
use Rattle.wasm_step.specs.Reduce.{instr_row}

-- a burst of the thread comes to no place without one
abbrev pub RunsByRules : Thread → Store → Type 0
RunsByRules t g = (burst most_instructions t g).stop ≡ Sticks → ⊥

-- the instruction has one, so the thread has the operands and locals that it names
abbrev pub HasRule : Tree → Thread → Store → Type 0
HasRule i t g = (instr_row i t g).after ≡ Stops Sticks → ⊥

-- ---- operands of a type

-- the topmost operand, and the two topmost, beside `HasI32` of wasm_stack
abbrev pub HasI64 : Thread → Type 0
HasI64 t = (x : ℕ) × (t.stack ≡ I64 x ∷ drop 1 t.stack)

abbrev pub HasTwoI32 : Thread → Type 0
HasTwoI32 t = (x : ℕ) × ((y : ℕ) × (t.stack ≡ I32 y ∷ (I32 x ∷ drop 2 t.stack)))

abbrev pub HasTwoI64 : Thread → Type 0
HasTwoI64 t = (x : ℕ) × ((y : ℕ) × (t.stack ≡ I64 y ∷ (I64 x ∷ drop 2 t.stack)))

-- ---- opcodes of instructions that have no rule for operands of the other type

abbrev pub OneIsI32 : ℕ → Type 0
OneIsI32 op = (x : ℕ) → unary_64 op x ≡ IsNone

abbrev pub OneIsI64 : ℕ → Type 0
OneIsI64 op = (x : ℕ) → unary_32 op x ≡ IsNone

abbrev pub TwoAreI32 : ℕ → Type 0
TwoAreI32 op = (x y : ℕ) → binary_64 op x y ≡ IsNone

abbrev pub TwoAreI64 : ℕ → Type 0
TwoAreI64 op = (x y : ℕ) → binary_32 op x y ≡ IsNone
