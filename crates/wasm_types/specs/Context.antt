-- What the code of a function may name.
use Rattle.std.specs.Prelude.{ℕ, Bool, List, [], ◌∷◌, ◌++◌, Option, map, length, replicate, if◌then◌else◌, nat_lt, slice_get, option_and_then}
use Rattle.wasm_types.specs.declared.code.ValType.{ValType}
use Rattle.wasm_types.specs.declared.modules.ImportDesc.{ImportDesc}
use Rattle.wasm_types.specs.declared.modules.ImportDesc.TheVariants as desc
use Rattle.wasm_types.specs.Modules.{FuncType, Import, Func, GlobalType, Module, global_type}

-- The index of each function's type is in `funcs`, the imports first. All other imports are refused
-- before code is typed, so the other index spaces are those of the module itself.
pub record Context : Type 0 where
  pub types : List FuncType
  pub funcs : List ℕ
  pub globals : List GlobalType
  pub has_table : Bool
  pub has_memory : Bool
  pub locals : List ValType
  pub gives : Option ValType

-- the type's index, where a function is imported
abbrev pub imported_func : ImportDesc → List ℕ
imported_func (desc.Func t) = t ∷ []
imported_func _ = []

-- the types' indices of the functions that are imported
abbrev pub imported_funcs : List Import → List ℕ
imported_funcs [] = []
imported_funcs (i ∷ is) = imported_func i.desc ++ imported_funcs is

-- the types' indices of all functions
abbrev pub funcs_of : Module → List ℕ
funcs_of m = imported_funcs m.imports ++ map (λ (f : Func). f.type_index) m.funcs

-- the types of locals that are given by counts
abbrev pub expand_locals : List (ℕ × ValType) → List ValType
expand_locals [] = []
expand_locals (run ∷ runs) = replicate run.0 run.1 ++ expand_locals runs

-- the runs of locals that are not empty
abbrev pub filled_runs : List (ℕ × ValType) → List (ℕ × ValType)
filled_runs [] = []
filled_runs (run ∷ runs) = if nat_lt 0 run.0 then run ∷ filled_runs runs else filled_runs runs

-- the code of a function with these parameters and locals, and this result
abbrev pub context_of : Module → List ValType → Option ValType → Context
context_of m locals gives = record {
  types = m.types;
  funcs = funcs_of m;
  globals = map global_type m.globals;
  has_table = nat_lt 0 (length m.tables);
  has_memory = nat_lt 0 (length m.mems);
  locals = locals;
  gives = gives;
}

-- the type of the function with this index, if there is one
abbrev pub func_type_of : Module → ℕ → Option FuncType
func_type_of m f = option_and_then (slice_get m.types) (slice_get (funcs_of m) f)
