-- Reading sections from the front of bytes, and the module that bytes spell.
use Rattle.std.specs.Prelude.{ℕ, zero, suc, List, [], ◌∷◌, length, drop, Option, Some, None, Bool, false, ◌==◌, nat_eq, if◌then◌else◌}
use Rattle.std.specs.List.{starts_with}
use Rattle.wasm_types.specs.Modules.{Module}
use Rattle.wasm_decode.specs.Grammar.{header}
use Rattle.wasm_decode.specs.Values.{Reader, ◌>>=◌, u32_at, vector_at, byte_vector_at, utf8_name_at, end_of, whole_read, sized_at, func_type_at, limits_at, table_at}
use Rattle.wasm_decode.specs.Entries.{import_at, export_at, global_def_at, start_at, elem_at, segment_at, code_at}

-- the name at the front of a custom section's contents
unfoldable pub custom_name_of : List ℕ → Option (List ℕ)
custom_name_of bytes = do
  name ← utf8_name_at bytes
  Some name.0

-- this byte is the next one
abbrev pub starts_with_byte : ℕ → List ℕ → Bool
starts_with_byte id [] = false
starts_with_byte id (b ∷ bytes) = b == id

-- what follows the custom sections, of which there are at most so many
unfoldable pub skip_customs_at : ℕ → List ℕ → Option (List ℕ)
skip_customs_at zero bytes = Some bytes
skip_customs_at (suc count) bytes =
    if starts_with_byte 0 bytes then (do
      custom ← sized_at custom_name_of (drop 1 bytes)
      skip_customs_at count custom.1) else Some bytes

-- what follows the custom sections; each of them takes a byte at least
unfoldable pub customs_at : List ℕ → Option (List ℕ)
customs_at bytes = skip_customs_at (length bytes) bytes

-- the contents of the section with this id, after custom sections, or nothing where it is absent
unfoldable pub contents_at : ℕ → Reader (Option (List ℕ))
contents_at id bytes = do
  rest ← customs_at bytes
  if starts_with_byte id rest then (do
    contents ← byte_vector_at (drop 1 rest)
    Some (Some contents.0, contents.1)) else Some (None, rest)

-- what the contents of a section stand for
abbrev pub contents_value : {A : Type 0} → A → Reader A → Option (List ℕ) → Option A
contents_value absent read None = Some absent
contents_value absent read (Some contents) = whole_read read contents

-- the section with this id, after custom sections
unfoldable pub section_at : {A : Type 0} → ℕ → A → Reader A → Reader A
section_at id absent read bytes = do
  contents ← contents_at id bytes
  x ← contents_value absent read contents.0
  Some (x, contents.1)

-- what follows the header
unfoldable pub header_at : List ℕ → Option (List ℕ)
header_at bytes = if starts_with nat_eq bytes header then Some (drop 8 bytes) else None

-- the module that the bytes spell, or nothing where they spell none
unfoldable pub module_of_bytes : List ℕ → Option Module
module_of_bytes bytes = do
  sections ← header_at bytes
  types ← section_at 1 [] (vector_at func_type_at) sections
  imports ← section_at 2 [] (vector_at import_at) types.1
  indices ← section_at 3 [] (vector_at u32_at) imports.1
  tables ← section_at 4 [] (vector_at table_at) indices.1
  mems ← section_at 5 [] (vector_at limits_at) tables.1
  globals ← section_at 6 [] (vector_at global_def_at) mems.1
  exports ← section_at 7 [] (vector_at export_at) globals.1
  start ← section_at 8 None start_at exports.1
  elems ← section_at 9 [] (vector_at elem_at) start.1
  funcs ← section_at 10 [] (code_at indices.0) elems.1
  segments ← section_at 11 [] (vector_at segment_at) funcs.1
  rest ← customs_at segments.1
  end ← end_of rest
  if length funcs.0 == length indices.0 then Some (record {
    types = types.0;
    imports = imports.0;
    funcs = funcs.0;
    tables = tables.0;
    mems = mems.0;
    globals = globals.0;
    exports = exports.0;
    start = start.0;
    elems = elems.0;
    segments = segments.0;
  }) else None
