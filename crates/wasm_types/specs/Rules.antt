-- Which modules are well typed (WebAssembly 1.0, section 3.4).
use Rattle.std.specs.Prelude.{◌≡◌, ◌≢◌, ◌≤◌, Bool, true, false, not, ◌&&◌, List, [], ◌++◌, length, map, Option, Some, None, All, AllPairs, IfSome, IsSomeAnd, IsTrue, slice_get, nat_lt, nat_le}
use Rattle.std.specs.List.{list_all}
use Rattle.std.specs.Option.{option_map_or}
use Rattle.wasm_types.specs.declared.code.ValType.{ValType}
use Rattle.wasm_types.specs.declared.code.ValType.TheVariants.{I32, I64, F32, F64}
use Rattle.wasm_types.specs.declared.modules.Limits.{Limits}
use Rattle.wasm_types.specs.declared.modules.ImportDesc.{ImportDesc}
use Rattle.wasm_types.specs.declared.modules.ImportDesc.TheVariants as desc
use Rattle.wasm_types.specs.declared.modules.ExportDesc.{ExportDesc}
use Rattle.wasm_types.specs.declared.modules.ExportDesc.TheVariants.{Func as ToFunc, Table as ToTable, Memory as ToMemory, Global as ToGlobal}
use Rattle.wasm_types.specs.Code.{Trees, Then, End, ConstI32, ConstI64, ConstF32, ConstF64, GlobalGet}
use Rattle.wasm_types.specs.Modules.{Import, Func, GlobalDef, Export, Elem, Segment, Module}
use Rattle.wasm_types.specs.Calls.{result_of}
use Rattle.wasm_types.specs.Context.{expand_locals, context_of, funcs_of, func_type_of}
use Rattle.wasm_types.specs.Stack.{is_same}
use Rattle.wasm_types.specs.Typing.{IsWellTyped}

-- the maximum, where there is one, is not below the minimum
abbrev pub is_ordered : Limits → Bool
is_ordered l = option_map_or (nat_le l.min) l.max true

-- a memory's, in pages
abbrev pub is_memory : Limits → Bool
is_memory l = is_ordered l && (nat_le l.min 65536 && option_map_or (λ max. nat_le max 65536) l.max true)

-- a function that is imported has a type of the module
abbrev pub has_type : Module → ImportDesc → Bool
has_type m (desc.Func t) = nat_lt t (length m.types)
has_type m _ = true

-- the index of an export names something
abbrev pub names_something : Module → ExportDesc → Bool
names_something m (ToFunc f) = nat_lt f (length (funcs_of m))
names_something m (ToTable t) = nat_lt t (length m.tables)
names_something m (ToMemory x) = nat_lt x (length m.mems)
names_something m (ToGlobal g) = nat_lt g (length m.globals)

-- the type of an expression that is one constant
abbrev pub constant_type : Trees → Option ValType
constant_type (Then (ConstI32 bits) End) = Some I32
constant_type (Then (ConstI64 bits) End) = Some I64
constant_type (Then (ConstF32 bits) End) = Some F32
constant_type (Then (ConstF64 bits) End) = Some F64
constant_type _ = None

-- an initial value is one constant of the global's type
abbrev pub is_initial_value : GlobalDef → Bool
is_initial_value g = option_map_or (is_same g.value_type) (constant_type g.init) false

-- a global that an offset may name
abbrev pub is_fixed_global : GlobalDef → Bool
is_fixed_global g = is_same g.value_type I32 && not g.mutable

-- an offset is one constant i32, or an immutable global of this type
abbrev pub is_offset : List GlobalDef → Trees → Bool
is_offset globals (Then (ConstI32 bits) End) = true
is_offset globals (Then (GlobalGet x) End) = option_map_or is_fixed_global (slice_get globals x) false
is_offset globals _ = false

abbrev pub is_elem : Module → Elem → Bool
is_elem m e =
    nat_lt e.table (length m.tables)
    && (is_offset m.globals e.offset && list_all (λ f. nat_lt f (length (funcs_of m))) e.funcs)

abbrev pub is_segment : Module → Segment → Bool
is_segment m s = nat_lt s.memory (length m.mems) && is_offset m.globals s.offset

-- the function has a type of the module, and its body is typed
abbrev pub IsTypedFunc : Module → Func → Type 0
IsTypedFunc m f =
    IsSomeAnd (slice_get m.types f.type_index)
    (λ t. IsWellTyped (context_of m (t.params ++ expand_locals f.locals) (result_of t)) f.body)

-- All but the functions' code: few results, tables and memories, limits in order, indices that name
-- something, distinct names of exports, the type of the start function, constant expressions.
pub record HasShape (m : Module) : Type 0 where
  pub few_results : All (λ t. length t.results ≤ 1) m.types
  pub one_table : length m.tables ≤ 1
  pub one_memory : length m.mems ≤ 1
  pub tables : IsTrue (list_all is_ordered m.tables)
  pub mems : IsTrue (list_all is_memory m.mems)
  pub imports : IsTrue (list_all (λ (i : Import). has_type m i.desc) m.imports)
  pub globals : IsTrue (list_all is_initial_value m.globals)
  pub exports : IsTrue (list_all (λ (e : Export). names_something m e.desc) m.exports)
  pub names : AllPairs ◌≢◌ (map (λ (e : Export). e.name) m.exports)
  pub start : IfSome m.start (λ f. func_type_of m f ≡ Some (record { params = []; results = [] }))
  pub elems : IsTrue (list_all (is_elem m) m.elems)
  pub segments : IsTrue (list_all (is_segment m) m.segments)

abbrev pub AreTypedFuncs : Module → Type 0
AreTypedFuncs m = All (IsTypedFunc m) m.funcs

-- a module is well typed
pub record IsTyped (m : Module) : Type 0 where
  pub shaped : HasShape m
  pub funcs : AreTypedFuncs m
