-- What the numeric instructions compute, by their opcodes: the operators of the WebAssembly
-- specification, version 1.0, section 4.3.2, in the order of its section 5.4.5, and the five on the signed number of
-- the lowest bits, which came with version 2.0.
use Rattle.std.specs.Prelude.{ℕ, Bool, false, ◌&&◌, nat_eq, nat_le, length, if◌then◌else◌, Option, Some, None, Result, Ok, Err}
use Rattle.std.specs.Int.{w8, w16, w32, w64}
use Rattle.std.specs.Option.{option_map_or}
use Rattle.wasm_num.specs.Operators.{ieqz, ieq, ine, ilt_s, ilt_u, igt_s, igt_u, ile_s, ile_u, ige_s, ige_u, iclz, ictz, ipopcnt, iadd, isub, imul, idiv_s, idiv_u, irem_s, irem_u, iand, ior, ixor, ishl, ishr_s, ishr_u, irotl, irotr, wrap, extend_s, extend_u, iextend_s}
use Rattle.wasm_num.specs.declared.Trap.{Trap as NoResult}
use Rattle.wasm_num.specs.declared.Trap.TheVariants as num
use Rattle.wasm_types.specs.declared.code.Value.{Value}
use Rattle.wasm_types.specs.declared.code.Value.TheVariants.{I32, I64}
use Rattle.wasm_types.specs.declared.traps.Trap.{Trap}
use Rattle.wasm_types.specs.declared.traps.Trap.TheVariants.{ZeroDivisor, Overflow}
use Rattle.wasm_types.specs.Numeric.{Operator, operator_of}
use Rattle.wasm_values.specs.declared.numeric.Number.{Number}
use Rattle.wasm_values.specs.declared.numeric.Number.TheVariants.{Given, Failed, Missing}

-- a value, a trap, or nothing, where no instruction has the opcode and takes operands of these types
pub data Computed : Type 0 where
  Gives : Value → Computed
  Fails : Trap → Computed
  IsNone : Computed

abbrev pub trap_of : NoResult → Trap
trap_of num.ZeroDivisor = ZeroDivisor
trap_of num.Overflow = Overflow

abbrev pub gives_32 : Option ℕ → Computed
gives_32 None = IsNone
gives_32 (Some x) = Gives (I32 x)

abbrev pub gives_64 : Option ℕ → Computed
gives_64 None = IsNone
gives_64 (Some x) = Gives (I64 x)

abbrev pub divided_32 : Result ℕ NoResult → Computed
divided_32 (Ok x) = Gives (I32 x)
divided_32 (Err e) = Fails (trap_of e)

abbrev pub divided_64 : Result ℕ NoResult → Computed
divided_64 (Ok x) = Gives (I64 x)
divided_64 (Err e) = Fails (trap_of e)

-- ---- on one operand

abbrev pub takes_one_operand : Operator → Bool
takes_one_operand o = nat_eq (length o.takes) 1

-- the opcode table has it as an instruction on one operand
unfoldable pub is_unary : ℕ → Bool
is_unary op = option_map_or takes_one_operand (operator_of op) false

abbrev pub unary_32 : ℕ → ℕ → Computed
unary_32 op x =
    if nat_eq op 0x45 then Gives (I32 (ieqz x)) else
    if nat_eq op 0x67 then Gives (I32 (iclz w32 x)) else
    if nat_eq op 0x68 then Gives (I32 (ictz w32 x)) else
    if nat_eq op 0x69 then Gives (I32 (ipopcnt x)) else
    if nat_eq op 0xAC then Gives (I64 (extend_s w32 w64 x)) else
    if nat_eq op 0xAD then Gives (I64 (extend_u x)) else
    if nat_eq op 0xC0 then Gives (I32 (iextend_s w8 w32 x)) else
    if nat_eq op 0xC1 then Gives (I32 (iextend_s w16 w32 x)) else
    IsNone

abbrev pub unary_64 : ℕ → ℕ → Computed
unary_64 op x =
    if nat_eq op 0x50 then Gives (I32 (ieqz x)) else
    if nat_eq op 0x79 then Gives (I64 (iclz w64 x)) else
    if nat_eq op 0x7A then Gives (I64 (ictz w64 x)) else
    if nat_eq op 0x7B then Gives (I64 (ipopcnt x)) else
    if nat_eq op 0xA7 then Gives (I32 (wrap w32 x)) else
    if nat_eq op 0xC2 then Gives (I64 (iextend_s w8 w64 x)) else
    if nat_eq op 0xC3 then Gives (I64 (iextend_s w16 w64 x)) else
    if nat_eq op 0xC4 then Gives (I64 (iextend_s w32 w64 x)) else
    IsNone

abbrev pub unary : ℕ → Value → Computed
unary op (I32 x) = unary_32 op x
unary op (I64 x) = unary_64 op x

-- ---- on two operands

abbrev pub compare_32 : ℕ → ℕ → ℕ → Option ℕ
compare_32 op x y =
    if nat_eq op 0x46 then Some (ieq x y) else
    if nat_eq op 0x47 then Some (ine x y) else
    if nat_eq op 0x48 then Some (ilt_s w32 x y) else
    if nat_eq op 0x49 then Some (ilt_u x y) else
    if nat_eq op 0x4A then Some (igt_s w32 x y) else
    if nat_eq op 0x4B then Some (igt_u x y) else
    if nat_eq op 0x4C then Some (ile_s w32 x y) else
    if nat_eq op 0x4D then Some (ile_u x y) else
    if nat_eq op 0x4E then Some (ige_s w32 x y) else
    if nat_eq op 0x4F then Some (ige_u x y) else
    None

abbrev pub compare_64 : ℕ → ℕ → ℕ → Option ℕ
compare_64 op x y =
    if nat_eq op 0x51 then Some (ieq x y) else
    if nat_eq op 0x52 then Some (ine x y) else
    if nat_eq op 0x53 then Some (ilt_s w64 x y) else
    if nat_eq op 0x54 then Some (ilt_u x y) else
    if nat_eq op 0x55 then Some (igt_s w64 x y) else
    if nat_eq op 0x56 then Some (igt_u x y) else
    if nat_eq op 0x57 then Some (ile_s w64 x y) else
    if nat_eq op 0x58 then Some (ile_u x y) else
    if nat_eq op 0x59 then Some (ige_s w64 x y) else
    if nat_eq op 0x5A then Some (ige_u x y) else
    None

abbrev pub divide_32 : ℕ → ℕ → ℕ → Computed
divide_32 op x y =
    if nat_eq op 0x6D then divided_32 (idiv_s w32 x y) else
    if nat_eq op 0x6E then divided_32 (idiv_u x y) else
    if nat_eq op 0x6F then divided_32 (irem_s w32 x y) else
    if nat_eq op 0x70 then divided_32 (irem_u x y) else
    IsNone

abbrev pub divide_64 : ℕ → ℕ → ℕ → Computed
divide_64 op x y =
    if nat_eq op 0x7F then divided_64 (idiv_s w64 x y) else
    if nat_eq op 0x80 then divided_64 (idiv_u x y) else
    if nat_eq op 0x81 then divided_64 (irem_s w64 x y) else
    if nat_eq op 0x82 then divided_64 (irem_u x y) else
    IsNone

abbrev pub combine_32 : ℕ → ℕ → ℕ → Option ℕ
combine_32 op x y =
    if nat_eq op 0x6A then Some (iadd w32 x y) else
    if nat_eq op 0x6B then Some (isub w32 x y) else
    if nat_eq op 0x6C then Some (imul w32 x y) else
    if nat_eq op 0x71 then Some (iand x y) else
    if nat_eq op 0x72 then Some (ior x y) else
    if nat_eq op 0x73 then Some (ixor x y) else
    if nat_eq op 0x74 then Some (ishl w32 x y) else
    if nat_eq op 0x75 then Some (ishr_s w32 x y) else
    if nat_eq op 0x76 then Some (ishr_u w32 x y) else
    if nat_eq op 0x77 then Some (irotl w32 x y) else
    if nat_eq op 0x78 then Some (irotr w32 x y) else
    None

abbrev pub combine_64 : ℕ → ℕ → ℕ → Option ℕ
combine_64 op x y =
    if nat_eq op 0x7C then Some (iadd w64 x y) else
    if nat_eq op 0x7D then Some (isub w64 x y) else
    if nat_eq op 0x7E then Some (imul w64 x y) else
    if nat_eq op 0x83 then Some (iand x y) else
    if nat_eq op 0x84 then Some (ior x y) else
    if nat_eq op 0x85 then Some (ixor x y) else
    if nat_eq op 0x86 then Some (ishl w64 x y) else
    if nat_eq op 0x87 then Some (ishr_s w64 x y) else
    if nat_eq op 0x88 then Some (ishr_u w64 x y) else
    if nat_eq op 0x89 then Some (irotl w64 x y) else
    if nat_eq op 0x8A then Some (irotr w64 x y) else
    None

abbrev pub binary_32 : ℕ → ℕ → ℕ → Computed
binary_32 op x y =
    if nat_le op 0x4F then gives_32 (compare_32 op x y) else
    if nat_le 0x6D op && nat_le op 0x70 then divide_32 op x y else
    gives_32 (combine_32 op x y)

abbrev pub binary_64 : ℕ → ℕ → ℕ → Computed
binary_64 op x y =
    if nat_le op 0x5A then gives_32 (compare_64 op x y) else
    if nat_le 0x7F op && nat_le op 0x82 then divide_64 op x y else
    gives_64 (combine_64 op x y)

abbrev pub binary : ℕ → Value → Value → Computed
binary op (I32 x) (I32 y) = binary_32 op x y
binary op (I64 x) (I64 y) = binary_64 op x y
binary op (I32 x) (I64 y) = IsNone
binary op (I64 x) (I32 y) = IsNone

-- ---- what the program has of it

abbrev pub computed_of : Number → Computed
computed_of (Given v) = Gives v
computed_of (Failed trap) = Fails trap
computed_of Missing = IsNone
