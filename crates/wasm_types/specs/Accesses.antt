-- What the instructions on variables and on memory take and give.
use Rattle.std.specs.Prelude.{ℕ, Bool, List, [], ◌∷◌, Option, Some, None, slice_get, nat_lt, nat_le, ◌&&◌, if◌then◌else◌}
use Rattle.wasm_types.specs.declared.code.ValType.{ValType}
use Rattle.wasm_types.specs.declared.code.ValType.TheVariants.{I32, I64, F32, F64}
use Rattle.wasm_types.specs.Modules.{GlobalType}
use Rattle.wasm_types.specs.Maybe.{◌>>=◌}
use Rattle.wasm_types.specs.Stack.{BlockStack, push_operand, pop_type, operate}

abbrev pub typed_local_get : List ValType → ℕ → BlockStack → Option BlockStack
typed_local_get locals x s = do
  type ← slice_get locals x
  Some (push_operand (Some type) s)

abbrev pub typed_local_set : List ValType → ℕ → BlockStack → Option BlockStack
typed_local_set locals x s = do
  type ← slice_get locals x
  pop_type type s

abbrev pub typed_local_tee : List ValType → ℕ → BlockStack → Option BlockStack
typed_local_tee locals x s = do
  type ← slice_get locals x
  rest ← pop_type type s
  Some (push_operand (Some type) rest)

abbrev pub typed_global_get : List GlobalType → ℕ → BlockStack → Option BlockStack
typed_global_get globals x s = do
  global ← slice_get globals x
  Some (push_operand (Some global.value_type) s)

-- only a global that may change is set
abbrev pub typed_global_set : List GlobalType → ℕ → BlockStack → Option BlockStack
typed_global_set globals x s = do
  global ← slice_get globals x
  if global.mutable then pop_type global.value_type s else None

-- the type of the value that a load or a store moves, and the number of bytes in memory as an exponent
-- of 2
pub record Access : Type 0 where
  pub moved : ValType
  pub exponent : ℕ

abbrev pub access : ValType → ℕ → Option Access
access moved exponent = Some (record { moved = moved; exponent = exponent })

-- the loads, by the last opcode of each group
abbrev pub load_access : ℕ → Option Access
load_access n =
    if nat_lt n 0x28 then None else
    if nat_le n 0x28 then access I32 2 else
    if nat_le n 0x29 then access I64 3 else
    if nat_le n 0x2A then access F32 2 else
    if nat_le n 0x2B then access F64 3 else
    if nat_le n 0x2D then access I32 0 else
    if nat_le n 0x2F then access I32 1 else
    if nat_le n 0x31 then access I64 0 else
    if nat_le n 0x33 then access I64 1 else
    if nat_le n 0x35 then access I64 2 else
    None

-- the stores, by the last opcode of each group
abbrev pub store_access : ℕ → Option Access
store_access n =
    if nat_lt n 0x36 then None else
    if nat_le n 0x36 then access I32 2 else
    if nat_le n 0x37 then access I64 3 else
    if nat_le n 0x38 then access F32 2 else
    if nat_le n 0x39 then access F64 3 else
    if nat_le n 0x3A then access I32 0 else
    if nat_le n 0x3B then access I32 1 else
    if nat_le n 0x3C then access I64 0 else
    if nat_le n 0x3D then access I64 1 else
    if nat_le n 0x3E then access I64 2 else
    None

-- there is a memory, and the alignment is at most the width
abbrev pub may_access : Bool → Access → ℕ → Bool
may_access has_memory a align = has_memory && nat_le align a.exponent

abbrev pub typed_load : Bool → ℕ → ℕ → BlockStack → Option BlockStack
typed_load has_memory opcode align s = do
  a ← load_access opcode
  if may_access has_memory a align then operate (I32 ∷ []) (Some a.moved) s else None

abbrev pub typed_store : Bool → ℕ → ℕ → BlockStack → Option BlockStack
typed_store has_memory opcode align s = do
  a ← store_access opcode
  if may_access has_memory a align then operate (I32 ∷ a.moved ∷ []) None s else None

abbrev pub typed_memory_size : Bool → BlockStack → Option BlockStack
typed_memory_size has_memory s = if has_memory then operate [] (Some I32) s else None

abbrev pub typed_memory_grow : Bool → BlockStack → Option BlockStack
typed_memory_grow has_memory s = if has_memory then operate (I32 ∷ []) (Some I32) s else None
