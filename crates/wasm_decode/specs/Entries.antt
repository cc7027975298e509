-- Reading what is in sections from the front of bytes.
use Rattle.std.specs.Prelude.{ℕ, ◌^◌, List, [], ◌∷◌, length, Option, Some, None, Bool, ◌==◌, nat_lt, if◌then◌else◌, sum_by}
use Rattle.fri_bytes.specs.Reading.{byte_at}
use Rattle.wasm_types.specs.declared.code.ValType.{ValType}
use Rattle.wasm_types.specs.declared.modules.ImportDesc.{ImportDesc}
use Rattle.wasm_types.specs.declared.modules.ImportDesc.TheVariants as imported
use Rattle.wasm_types.specs.declared.modules.ExportDesc.{ExportDesc}
use Rattle.wasm_types.specs.declared.modules.ExportDesc.TheVariants as exported
use Rattle.wasm_types.specs.Modules.{Import, Func, GlobalDef, Export, Elem, Segment}
use Rattle.wasm_decode.specs.Values.{Reader, ◌>>=◌, u32_at, vector_at, byte_vector_at, utf8_name_at, whole_read, sized_at, val_type_at, limits_at, table_at, global_type_at}
use Rattle.wasm_decode.specs.Instrs.{expression_at}

-- ---- imports and exports

-- what is imported, after the byte that says what it is
unfoldable pub imported_at : ℕ → Reader ImportDesc
imported_at byte bytes =
    if byte == 0x00 then (do
      type ← u32_at bytes
      Some (imported.Func type.0, type.1)) else
    (if byte == 0x01 then (do
      limits ← table_at bytes
      Some (imported.Table limits.0, limits.1)) else
    (if byte == 0x02 then (do
      limits ← limits_at bytes
      Some (imported.Memory limits.0, limits.1)) else
    (if byte == 0x03 then (do
      type ← global_type_at bytes
      Some (imported.Global type.0.0 type.0.1, type.1)) else None)))

-- what is imported
unfoldable pub import_desc_at : Reader ImportDesc
import_desc_at bytes = do
  byte ← byte_at bytes
  imported_at byte.0 byte.1

-- an import
unfoldable pub import_at : Reader Import
import_at bytes = do
  front ← utf8_name_at bytes
  name ← utf8_name_at front.1
  desc ← import_desc_at name.1
  Some (record { «module» = front.0; name = name.0; desc = desc.0 }, desc.1)

-- what is exported, by the byte that says what it is, and the index
unfoldable pub exported_of : ℕ → ℕ → Option ExportDesc
exported_of byte index =
    if byte == 0x00 then Some (exported.Func index) else
    (if byte == 0x01 then Some (exported.Table index) else
    (if byte == 0x02 then Some (exported.Memory index) else
    (if byte == 0x03 then Some (exported.Global index) else None)))

-- what is exported
unfoldable pub export_desc_at : Reader ExportDesc
export_desc_at bytes = do
  byte ← byte_at bytes
  index ← u32_at byte.1
  desc ← exported_of byte.0 index.0
  Some (desc, index.1)

-- an export
unfoldable pub export_at : Reader Export
export_at bytes = do
  name ← utf8_name_at bytes
  desc ← export_desc_at name.1
  Some (record { name = name.0; desc = desc.0 }, desc.1)

-- ---- globals, the start function and segments

-- a global
unfoldable pub global_def_at : Reader GlobalDef
global_def_at bytes = do
  type ← global_type_at bytes
  init ← expression_at type.1
  Some (record { value_type = type.0.0; mutable = type.0.1; init = init.0 }, init.1)

-- the index of the start function
unfoldable pub start_at : Reader (Option ℕ)
start_at bytes = do
  func ← u32_at bytes
  Some (Some func.0, func.1)

-- an element segment
unfoldable pub elem_at : Reader Elem
elem_at bytes = do
  table ← u32_at bytes
  offset ← expression_at table.1
  funcs ← vector_at u32_at offset.1
  Some (record { table = table.0; offset = offset.0; funcs = funcs.0 }, funcs.1)

-- a data segment
unfoldable pub segment_at : Reader Segment
segment_at bytes = do
  memory ← u32_at bytes
  offset ← expression_at memory.1
  contents ← byte_vector_at offset.1
  Some (record { memory = memory.0; offset = offset.0; bytes = contents.0 }, contents.1)

-- ---- functions

-- locals of one type
unfoldable pub locals_at : Reader (ℕ × ValType)
locals_at bytes = do
  count ← u32_at bytes
  type ← val_type_at count.1
  Some ((count.0, type.0), type.1)

-- there are fewer than 2 ^ 32 locals
abbrev pub are_few_locals : List (ℕ × ValType) → Bool
are_few_locals locals = nat_lt (sum_by (λ l. l.0) locals) (2 ^ 32)

-- a function of the type with this index
unfoldable pub func_at : ℕ → Reader Func
func_at type_index bytes = do
  locals ← vector_at locals_at bytes
  if are_few_locals locals.0 then (do
    body ← expression_at locals.1
    Some (record { type_index = type_index; locals = locals.0; body = body.0 }, body.1)) else None

-- a function for each index of a type
unfoldable pub funcs_at : List ℕ → Reader (List Func)
funcs_at [] bytes = Some ([], bytes)
funcs_at (index ∷ indices) bytes = do
  first ← sized_at (whole_read (func_at index)) bytes
  others ← funcs_at indices first.1
  Some (first.0 ∷ others.0, others.1)

-- a vector of functions, as many as there are indices
unfoldable pub code_at : List ℕ → Reader (List Func)
code_at indices bytes = do
  count ← u32_at bytes
  if count.0 == length indices then funcs_at indices count.1 else None
