-- What instructions on numbers, operands and locals do to a thread (WebAssembly 1.0, sections 4.4.1 to 4.4.3).
use Rattle.std.specs.Prelude.{ℕ, zero, suc, Option, Some, None, slice_get, slice_set, length, nat_lt, if◌then◌else◌}
use Rattle.wasm_types.specs.declared.code.Value.{Value}
use Rattle.wasm_values.specs.Numeric.{Computed, Gives, Fails, IsNone, is_unary, unary, binary}
use Rattle.wasm_stack.specs.After.{AfterStep, Goes, Stops, Sticks, at_trap, on_i32, with_top}
use Rattle.wasm_stack.specs.Thread.{Thread, with_operand}

-- ---- numbers

abbrev pub put_computed : Computed → Thread → AfterStep
put_computed (Gives v) t = Goes (with_operand t v)
put_computed (Fails trap) t = at_trap t trap
put_computed IsNone t = Stops Sticks

abbrev pub numeric : ℕ → Thread → AfterStep
numeric op t =
    if is_unary op
    then with_top t (λ x t'. put_computed (unary op x) t')
    else with_top t (λ y t'. with_top t' (λ x t''. put_computed (binary op x y) t''))

-- ---- operands and locals

abbrev pub drop_top : Thread → AfterStep
drop_top t = with_top t (λ v t'. Goes t')

-- the second operand where the condition is 0, and else the first
abbrev pub chosen_operand : Value → Value → ℕ → Value
chosen_operand first second zero = second
chosen_operand first second (suc n) = first

abbrev pub select : Thread → AfterStep
select t =
    with_top t (λ v t'. with_top t' (λ second t''. with_top t'' (λ first t'''. on_i32 v (λ n. Goes (with_operand t''' (chosen_operand first second n))))))

abbrev pub got : Option Value → Thread → AfterStep
got None t = Stops Sticks
got (Some v) t = Goes (with_operand t v)

abbrev pub local_get : ℕ → Thread → AfterStep
local_get x t = got (slice_get t.locals x) t

abbrev pub local_put : ℕ → Value → Thread → AfterStep
local_put x v t = if nat_lt x (length t.locals) then Goes (record t { locals = slice_set t.locals x v }) else Stops Sticks

abbrev pub local_set : ℕ → Thread → AfterStep
local_set x t = with_top t (λ v t'. local_put x v t')

abbrev pub local_tee : ℕ → Thread → AfterStep
local_tee x t = with_top t (λ v t'. local_put x v (with_operand t' v))
