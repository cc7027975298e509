-- The functions that run first: the one that a module exports as its start, and before it that of its start section.
use Rattle.std.specs.Prelude.{◌≡◌, ℕ, ◌≤◌, List, [], ◌∷◌, Option, Some, None, IsSome, length, if◌then◌else◌}
use Rattle.wasm_types.specs.declared.modules.ExportDesc.{ExportDesc}
use Rattle.wasm_types.specs.declared.modules.ExportDesc.TheVariants.{Func as ToFunc, Table as ToTable, Memory as ToMemory, Global as ToGlobal}
use Rattle.wasm_types.specs.Functions.{own_func, type_of}
use Rattle.wasm_types.specs.Modules.{Module, Export}
use Rattle.guest_module.specs.Valid.{is_start_export}

abbrev pub exported_function : ExportDesc → Option ℕ
exported_function (ToFunc f) = Some f
exported_function (ToTable t) = None
exported_function (ToMemory x) = None
exported_function (ToGlobal g) = None

-- the function that the module exports as its start
abbrev pub entry_from : Module → List Export → Option ℕ
entry_from m [] = None
entry_from m (e ∷ es) = if is_start_export m e then exported_function e.desc else entry_from m es

-- the module itself defines the function, with no parameters and no result
pub record IsOwnPlain (m : Module) (f : ℕ) : Type 0 where
  pub own : length m.imports ≤ f
  pub there : IsSome (own_func m f)
  pub type : type_of m f ≡ Some (record { params = []; results = [] })
