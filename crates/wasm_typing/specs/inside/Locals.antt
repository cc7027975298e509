-- Locals that are given by counts.
use Rattle.std.specs.Prelude.{ℕ, ◌+◌, ◌-◌, ◌^◌, min, List, [], ◌∷◌}
use Rattle.wasm_types.specs.declared.code.ValType.{ValType}

-- the number of locals up to the end of each run, and so many before; no count passes a u64
abbrev pub ends_from : ℕ → List (ℕ × ValType) → List ℕ
ends_from n [] = []
ends_from n (run ∷ runs) = min (n + run.0) (2 ^ 64 - 1) ∷ ends_from (min (n + run.0) (2 ^ 64 - 1)) runs
