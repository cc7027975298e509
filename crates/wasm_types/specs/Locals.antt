-- What locals and globals start as.
use Rattle.std.specs.Prelude.{◌≡◌, ℕ, ◌<◌, ◌≤◌, replicate, List, [], ◌∷◌, ◌++◌, Option, Some, None, length}
use Rattle.wasm_types.specs.Limits.{most_thread_size}
use Rattle.wasm_types.specs.declared.code.Value.{Value}
use Rattle.wasm_types.specs.declared.code.Value.TheVariants.{I32, I64}
use Rattle.wasm_types.specs.declared.code.ValType.{ValType}
use Rattle.wasm_types.specs.declared.code.ValType.TheVariants as types

-- what a local or a global starts as
abbrev pub zero_of : ValType → Value
zero_of types.I32 = I32 0
zero_of types.I64 = I64 0
zero_of types.F32 = I32 0
zero_of types.F64 = I64 0

-- the declared locals of a function, each a count and a type, as they start
abbrev pub zeros : List (ℕ × ValType) → List Value
zeros [] = []
zeros (d ∷ ds) = replicate d.0 (zero_of d.1) ++ zeros ds

-- how many locals these are, where a thread may have as many, and nothing where they are more
abbrev pub HasLocalCount : List (ℕ × ValType) → Option ℕ → Type 0
HasLocalCount ds (Some n) = (n ≡ length (zeros ds)) × (n ≤ most_thread_size)
HasLocalCount ds None = most_thread_size < length (zeros ds)
