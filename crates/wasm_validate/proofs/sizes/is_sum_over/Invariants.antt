use Rattle.std.proofs.Common.{◌≡◌, ◌+◌, ℕ, map, drop, sum}
use Rattle.wasm_types.specs.declared.code.ValType.{ValType}
use Rattle.wasm_validate.proofs.sizes.is_sum_over.Given as goal

abbrev pub invariant-loop-count : goal.invariant-loop-count
invariant-loop-count l =
    l.bound + sum (map (λ (run : ℕ × ValType). run.0) (drop l.count-index l.runs)) ≡ l.left + sum (map (λ (run : ℕ × ValType). run.0) l.runs)
