-- The tests of a module as functions, for definitions that compute with them.
use Rattle.std.specs.Prelude.{ℕ, Bool, true, false, not, ◌&&◌, List, [], ◌∷◌, ◌++◌, map, codes, bytes_eq, slice_get}
use Rattle.std.specs.List.{list_all}
use Rattle.std.specs.Option.{option_map_or, is_some}
use Rattle.call_table.specs.Table.{row}
use Rattle.wasm_types.specs.Calls.{result_of}
use Rattle.wasm_types.specs.Context.{context_of, expand_locals}
use Rattle.wasm_types.specs.Functions.{same_type}
use Rattle.guest_module.specs.Library.{importable, imported_type_index, signature_type}
use Rattle.wasm_types.specs.Maybe.{◌>>=◌}
use Rattle.wasm_types.specs.Modules.{FuncType, Import, Func, Export, Module}
use Rattle.wasm_types.specs.Stack.{no_operands, is_exactly}
use Rattle.wasm_types.specs.Typing.{typed_instrs}
use Rattle.wasm_validate.specs.Shape.{is_linked, is_within_limits}

-- the type with this index, if there is one, is this type
abbrev pub is_type_at : List FuncType → FuncType → ℕ → Bool
is_type_at types type t = option_map_or (same_type type) (slice_get types t) false

-- the import is a function of exactly this type
abbrev pub is_typed_as : List FuncType → Import → FuncType → Bool
is_typed_as types i type = option_map_or (is_type_at types type) (imported_type_index i.desc) false

-- a function of the library, of exactly its type
abbrev pub is_of_library : List FuncType → Import → Bool
is_of_library types i =
    bytes_eq i.«module» (codes "liblog") && option_map_or (λ kind. is_typed_as types i (signature_type (row kind).signature)) (importable i.name) false

abbrev pub are_of_library : Module → Bool
are_of_library m = list_all (is_of_library m.types) m.imports

-- no two names are the same
abbrev pub are_distinct : List (List ℕ) → Bool
are_distinct [] = true
are_distinct (name ∷ names) = list_all (λ other. not (bytes_eq name other)) names && are_distinct names

-- all but the functions' code
abbrev pub has_shape : Module → Bool
has_shape m = is_within_limits m && (is_linked m && are_distinct (map (λ (e : Export). e.name) m.exports))

-- the body of a function of this type is typed
abbrev pub is_typed_body : Module → Func → FuncType → Bool
is_typed_body m f t =
    is_some (typed_instrs (context_of m (t.params ++ expand_locals f.locals) (result_of t)) f.body (result_of t ∷ []) no_operands >>= is_exactly (result_of t))

abbrev pub is_typed_func : Module → Func → Bool
is_typed_func m f = option_map_or (is_typed_body m f) (slice_get m.types f.type_index) false

abbrev pub is_typed : Module → Bool
is_typed m = has_shape m && list_all (is_typed_func m) m.funcs
