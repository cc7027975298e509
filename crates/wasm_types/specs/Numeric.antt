-- The operators on numbers, by opcode: what each takes and gives.
use Rattle.std.specs.Prelude.{ℕ, List, [], ◌∷◌, Option, Some, None, nat_lt, nat_le, if◌then◌else◌}
use Rattle.wasm_types.specs.declared.code.ValType.{ValType}
use Rattle.wasm_types.specs.declared.code.ValType.TheVariants.{I32, I64, F32, F64}

-- an operator's operands, the last on top, and its result
pub record Operator : Type 0 where
  pub takes : List ValType
  pub gives : ValType

abbrev pub unary_operator : ValType → ValType → Option Operator
unary_operator from to = Some (record { takes = from ∷ []; gives = to })

abbrev pub binary_operator : ValType → ValType → Option Operator
binary_operator from to = Some (record { takes = from ∷ from ∷ []; gives = to })

-- by the last opcode of each group
abbrev pub operator_of : ℕ → Option Operator
operator_of n =
    if nat_lt n 0x45 then None else
    if nat_le n 0x45 then unary_operator I32 I32 else
    if nat_le n 0x4F then binary_operator I32 I32 else
    if nat_le n 0x50 then unary_operator I64 I32 else
    if nat_le n 0x5A then binary_operator I64 I32 else
    if nat_le n 0x60 then binary_operator F32 I32 else
    if nat_le n 0x66 then binary_operator F64 I32 else
    if nat_le n 0x69 then unary_operator I32 I32 else
    if nat_le n 0x78 then binary_operator I32 I32 else
    if nat_le n 0x7B then unary_operator I64 I64 else
    if nat_le n 0x8A then binary_operator I64 I64 else
    if nat_le n 0x91 then unary_operator F32 F32 else
    if nat_le n 0x98 then binary_operator F32 F32 else
    if nat_le n 0x9F then unary_operator F64 F64 else
    if nat_le n 0xA6 then binary_operator F64 F64 else
    if nat_le n 0xA7 then unary_operator I64 I32 else
    if nat_le n 0xA9 then unary_operator F32 I32 else
    if nat_le n 0xAB then unary_operator F64 I32 else
    if nat_le n 0xAD then unary_operator I32 I64 else
    if nat_le n 0xAF then unary_operator F32 I64 else
    if nat_le n 0xB1 then unary_operator F64 I64 else
    if nat_le n 0xB3 then unary_operator I32 F32 else
    if nat_le n 0xB5 then unary_operator I64 F32 else
    if nat_le n 0xB6 then unary_operator F64 F32 else
    if nat_le n 0xB8 then unary_operator I32 F64 else
    if nat_le n 0xBA then unary_operator I64 F64 else
    if nat_le n 0xBB then unary_operator F32 F64 else
    if nat_le n 0xBC then unary_operator F32 I32 else
    if nat_le n 0xBD then unary_operator F64 I64 else
    if nat_le n 0xBE then unary_operator I32 F32 else
    if nat_le n 0xBF then unary_operator I64 F64 else
    if nat_le n 0xC1 then unary_operator I32 I32 else
    if nat_le n 0xC4 then unary_operator I64 I64 else
    None
