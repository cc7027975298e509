-- What the loads and stores read and write (WebAssembly 1.0, section 5.4.4). The type and the width of each
-- stand in the opcode table.
use Rattle.std.specs.Prelude.{ℕ, ◌^◌, Bool, ◌||◌, nat_eq, if◌then◌else◌, Option, Some, None, option_and_then}
use Rattle.std.specs.Int.{Width, w8, w16, w32, w64}
use Rattle.wasm_num.specs.Operators.{wrap, extend_s}
use Rattle.wasm_types.specs.declared.code.Value.{Value}
use Rattle.wasm_types.specs.declared.code.Value.TheVariants.{I32, I64}
use Rattle.wasm_types.specs.declared.code.ValType.{ValType}
use Rattle.wasm_types.specs.declared.code.ValType.TheVariants as types
use Rattle.wasm_types.specs.Accesses.{Access, load_access, store_access}
use Rattle.wasm_types.specs.Floats.{is_float}
use Rattle.wasm_types.specs.Stack.{is_same}
use Rattle.wasm_values.specs.Values.{type_of_value}

-- ---- how many bytes

-- none where floats are loaded, since modules with floats are not run
abbrev pub loaded_width : Access → Option ℕ
loaded_width a = if is_float a.moved then None else Some (2 ^ a.exponent)

-- how many bytes a load reads
unfoldable pub load_width : ℕ → Option ℕ
load_width op = option_and_then loaded_width (load_access op)

-- none where the operand has another type than the store's
abbrev pub stored_width : ValType → Access → Option ℕ
stored_width value_type a = if is_same value_type a.moved then Some (2 ^ a.exponent) else None

-- how many bytes of the operand a store writes
unfoldable pub store_width : ℕ → Value → Option ℕ
store_width op v = option_and_then (stored_width (type_of_value v)) (store_access op)

-- ---- the operand

-- the loads that fill the bits above what they read with its sign, and not with zeros
abbrev pub is_signed : ℕ → Bool
is_signed op = nat_eq op 0x2C || nat_eq op 0x2E || nat_eq op 0x30 || nat_eq op 0x32 || nat_eq op 0x34

-- the width in bits of so many bytes, as an exponent of 2
abbrev pub bits_at : ℕ → Width
bits_at exponent =
    if nat_eq exponent 0 then w8 else
    if nat_eq exponent 1 then w16 else
    if nat_eq exponent 2 then w32 else
    w64

-- an operand of this type, whose bits are given at its width
abbrev pub operand_of : ValType → (Width → ℕ) → Option Value
operand_of types.I32 bits = Some (I32 (bits w32))
operand_of types.I64 bits = Some (I64 (bits w64))
operand_of types.F32 bits = None
operand_of types.F64 bits = None

-- the lowest bits of the number, as many as the load reads, at another width
abbrev pub widened_load : ℕ → ℕ → ℕ → Width → ℕ
widened_load op exponent n to =
    if is_signed op
    then extend_s (bits_at exponent) to (wrap (bits_at exponent) n)
    else wrap (bits_at exponent) n

abbrev pub loaded_value : ℕ → ℕ → Access → Option Value
loaded_value op n a = operand_of a.moved (widened_load op a.exponent n)

-- the operand that a load makes of the number that it reads
unfoldable pub load_value : ℕ → ℕ → Option Value
load_value op n = option_and_then (loaded_value op n) (load_access op)
