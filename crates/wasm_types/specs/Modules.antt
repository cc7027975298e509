-- Modules and their parts as contracts see them, with lists where the program has vectors.
use Rattle.std.specs.Prelude.{ℕ, Bool, List, Option, map}
use Rattle.wasm_types.specs.declared.code.ValType.{ValType}
use Rattle.wasm_types.specs.declared.modules.FuncType.{FuncType as RustFuncType}
use Rattle.wasm_types.specs.declared.modules.Limits.{Limits}
use Rattle.wasm_types.specs.declared.modules.ImportDesc.{ImportDesc}
use Rattle.wasm_types.specs.declared.modules.Import.{Import as RustImport}
use Rattle.wasm_types.specs.declared.modules.Func.{Func as RustFunc}
use Rattle.wasm_types.specs.declared.modules.GlobalDef.{GlobalDef as RustGlobalDef}
use Rattle.wasm_types.specs.declared.modules.ExportDesc.{ExportDesc}
use Rattle.wasm_types.specs.declared.modules.Export.{Export as RustExport}
use Rattle.wasm_types.specs.declared.modules.Elem.{Elem as RustElem}
use Rattle.wasm_types.specs.declared.modules.Segment.{Segment as RustSegment}
use Rattle.wasm_types.specs.declared.modules.Module.{Module as RustModule}
use Rattle.wasm_types.specs.Code.{Trees, trees}

-- the types of a function's parameters and results
pub record FuncType : Type 0 where
  pub params : List ValType
  pub results : List ValType

-- an import
pub record Import : Type 0 where
  pub «module» : List ℕ
  pub name : List ℕ
  pub desc : ImportDesc

-- a function, its locals each a count and a type
pub record Func : Type 0 where
  pub type_index : ℕ
  pub locals : List (ℕ × ValType)
  pub body : Trees

-- a global
pub record GlobalDef : Type 0 where
  pub value_type : ValType
  pub mutable : Bool
  pub init : Trees

-- what code may do with a global
pub record GlobalType : Type 0 where
  pub value_type : ValType
  pub mutable : Bool

-- an export
pub record Export : Type 0 where
  pub name : List ℕ
  pub desc : ExportDesc

-- an element segment
pub record Elem : Type 0 where
  pub table : ℕ
  pub offset : Trees
  pub funcs : List ℕ

-- a data segment
pub record Segment : Type 0 where
  pub memory : ℕ
  pub offset : Trees
  pub bytes : List ℕ

-- a module
pub record Module : Type 0 where
  pub types : List FuncType
  pub imports : List Import
  pub funcs : List Func
  pub tables : List Limits
  pub mems : List Limits
  pub globals : List GlobalDef
  pub exports : List Export
  pub start : Option ℕ
  pub elems : List Elem
  pub segments : List Segment

-- the type of a global
abbrev pub global_type : GlobalDef → GlobalType
global_type g = record { value_type = g.value_type; mutable = g.mutable }

-- what contracts see of a function type
abbrev pub func_type : RustFuncType → FuncType
func_type t = record { params = t.params.items; results = t.results.items }

-- what contracts see of an import
abbrev pub import_of : RustImport → Import
import_of i = record { «module» = i.module.items; name = i.name.items; desc = i.desc }

-- what contracts see of a function
abbrev pub func : RustFunc → Func
func f = record { type_index = f.type_index; locals = f.locals.items; body = trees f.body.items }

-- what contracts see of a global
abbrev pub global_def : RustGlobalDef → GlobalDef
global_def g = record { value_type = g.kind; mutable = g.mutable; init = trees g.init.items }

-- what contracts see of an export
abbrev pub export : RustExport → Export
export e = record { name = e.name.items; desc = e.desc }

-- what contracts see of an element segment
abbrev pub elem : RustElem → Elem
elem e = record { table = e.table; offset = trees e.offset.items; funcs = e.funcs.items }

-- what contracts see of a data segment
abbrev pub segment : RustSegment → Segment
segment s = record { memory = s.memory; offset = trees s.offset.items; bytes = s.bytes.items }

-- what contracts see of a module
abbrev pub module_of : RustModule → Module
module_of m = record {
  types = map func_type m.types.items;
  imports = map import_of m.imports.items;
  funcs = map func m.funcs.items;
  tables = m.tables.items;
  mems = m.mems.items;
  globals = map global_def m.globals.items;
  exports = map export m.exports.items;
  start = m.start;
  elems = map elem m.elems.items;
  segments = map segment m.segments.items;
}
