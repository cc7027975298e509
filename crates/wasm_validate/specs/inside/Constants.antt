-- Instructions that may be alone in a constant expression.
use Rattle.std.specs.Prelude.{Bool, true, false, List, Option, Some, None, slice_get}
use Rattle.std.specs.Option.{option_map_or}
use Rattle.wasm_types.specs.declared.code.ValType.{ValType}
use Rattle.wasm_types.specs.declared.code.ValType.TheVariants.{I32, I64, F32, F64}
use Rattle.wasm_types.specs.Code.{Tree, ConstI32, ConstI64, ConstF32, ConstF64, GlobalGet}
use Rattle.wasm_types.specs.Modules.{GlobalDef}
use Rattle.wasm_types.specs.Rules.{is_fixed_global}

-- the type of a constant
abbrev pub constant_of : Tree → Option ValType
constant_of (ConstI32 bits) = Some I32
constant_of (ConstI64 bits) = Some I64
constant_of (ConstF32 bits) = Some F32
constant_of (ConstF64 bits) = Some F64
constant_of _ = None

-- the instruction gives an offset
abbrev pub gives_offset : List GlobalDef → Tree → Bool
gives_offset globals (ConstI32 bits) = true
gives_offset globals (GlobalGet x) = option_map_or is_fixed_global (slice_get globals x) false
gives_offset globals _ = false
