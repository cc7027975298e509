-- The functions of a module and their types. The imports have the first indices.
use Rattle.std.specs.Prelude.{ℕ, ◌-◌, Bool, true, false, ◌&&◌, List, [], ◌∷◌, Option, Some, None, slice_get, length, nat_lt, if◌then◌else◌}
use Rattle.wasm_types.specs.declared.code.ValType.{ValType}
use Rattle.wasm_types.specs.declared.modules.ImportDesc.{ImportDesc}
use Rattle.wasm_types.specs.declared.modules.ImportDesc.TheVariants as desc
use Rattle.wasm_types.specs.Modules.{Module, Import, Func, FuncType}
use Rattle.wasm_types.specs.Stack.{is_same}

-- the module's own function with this index
abbrev pub own_func : Module → ℕ → Option Func
own_func m f = slice_get m.funcs (f - length m.imports)

-- the type of an imported function
abbrev pub described_type : Module → ImportDesc → Option FuncType
described_type m (desc.Func type) = slice_get m.types type
described_type m (desc.Table limits) = None
described_type m (desc.Memory limits) = None
described_type m (desc.Global value_type mutable) = None

abbrev pub imported_type : Module → Option Import → Option FuncType
imported_type m None = None
imported_type m (Some import) = described_type m import.desc

abbrev pub own_type : Module → Option Func → Option FuncType
own_type m None = None
own_type m (Some func) = slice_get m.types func.type_index

-- the type of the function f
abbrev pub type_of : Module → ℕ → Option FuncType
type_of m f =
    if nat_lt f (length m.imports)
    then imported_type m (slice_get m.imports f)
    else own_type m (slice_get m.funcs (f - length m.imports))

abbrev pub same_types : List ValType → List ValType → Bool
same_types [] [] = true
same_types [] (b ∷ bs) = false
same_types (a ∷ as') [] = false
same_types (a ∷ as') (b ∷ bs) = is_same a b && same_types as' bs

abbrev pub same_type : FuncType → FuncType → Bool
same_type a b = same_types a.params b.params && same_types a.results b.results
