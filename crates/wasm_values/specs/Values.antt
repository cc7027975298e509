-- Values by their bits and their types.
use Rattle.std.specs.Prelude.{ℕ, List, map, Option, Some, None}
use Rattle.wasm_types.specs.declared.code.Value.{Value}
use Rattle.wasm_types.specs.declared.code.Value.TheVariants.{I32, I64}
use Rattle.wasm_types.specs.declared.code.ValType.{ValType}
use Rattle.wasm_types.specs.declared.code.ValType.TheVariants as types

-- the bits of a value, and 0 where there is none
abbrev pub bits_of : Option Value → ℕ
bits_of None = 0
bits_of (Some (I32 x)) = x
bits_of (Some (I64 x)) = x

abbrev pub type_of_value : Value → ValType
type_of_value (I32 x) = types.I32
type_of_value (I64 x) = types.I64

abbrev pub types_of_values : List Value → List ValType
types_of_values vs = map type_of_value vs
