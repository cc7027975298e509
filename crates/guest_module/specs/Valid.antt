-- Which modules run: those for which none of five refusals holds.
use Rattle.std.specs.Prelude.{ℕ, ◌+◌, Bool, false, ◌≡◌, not, ◌&&◌, ◌||◌, nat_lt, nat_le, length, map, sum, All, IsTrue, slice_get, codes, bytes_eq}
use Rattle.std.specs.List.{list_any}
use Rattle.std.specs.Option.{option_map_or}
use Rattle.wasm_types.specs.declared.code.ValType.{ValType}
use Rattle.wasm_types.specs.declared.modules.Limits.{Limits}
use Rattle.wasm_types.specs.declared.modules.ExportDesc.{ExportDesc}
use Rattle.wasm_types.specs.declared.modules.ExportDesc.TheVariants.{Func as ToFunc}
use Rattle.wasm_types.specs.Modules.{FuncType, Func, Export, Module}
use Rattle.wasm_types.specs.Context.{imported_funcs, func_type_of}
use Rattle.wasm_types.specs.Floats.{is_with_floats}
use Rattle.guest_module.specs.Library.{IsOfLibrary}
use Rattle.wasm_types.specs.Limits.{most_elements, most_first_pages, most_locals}
use Rattle.wasm_types.specs.Rules.{IsTyped}

abbrev pub HasFloat : Module → Type 0
HasFloat m = IsTrue (is_with_floats m)

-- some import is not a function of the library of its exact type
abbrev pub HasBadImport : Module → Type 0
HasBadImport m = ¬ All (IsOfLibrary m.types) m.imports

abbrev pub IsUntyped : Module → Type 0
IsUntyped m = ¬ IsTyped m

-- the number of a function's parameters and locals
abbrev pub local_count : Module → Func → ℕ
local_count m f =
    option_map_or (λ (t : FuncType). length t.params) (slice_get m.types f.type_index) 0
    + sum (map (λ (run : ℕ × ValType). run.0) f.locals)

-- a memory of too many pages at first, a table of too many elements, or a function of too many parameters and locals
abbrev pub is_over_limit : Module → Bool
is_over_limit m =
    list_any (λ (l : Limits). nat_lt most_first_pages l.min) m.mems
    || (list_any (λ (l : Limits). nat_lt most_elements l.min) m.tables
    || list_any (λ f. nat_lt most_locals (local_count m f)) m.funcs)

abbrev pub IsOverLimit : Module → Type 0
IsOverLimit m = IsTrue (is_over_limit m)

-- how many functions are imported; those with an index from there on are the module's own
abbrev pub import_count : Module → ℕ
import_count m = length (imported_funcs m.imports)

-- no parameters and no result
abbrev pub is_plain : FuncType → Bool
is_plain t = nat_le (length t.params) 0 && nat_le (length t.results) 0

-- a function of the module itself, with no parameters and no result
abbrev pub is_entry : Module → ExportDesc → Bool
is_entry m (ToFunc f) = nat_le (import_count m) f && option_map_or is_plain (func_type_of m f) false
is_entry m _ = false

-- the export names the function that runs
abbrev pub is_start_export : Module → Export → Bool
is_start_export m e = bytes_eq e.name (codes "_start") && is_entry m e.desc

-- no export `_start` of a function that can run, or a start section that names an import
abbrev pub has_no_start : Module → Bool
has_no_start m =
    not (list_any (is_start_export m) m.exports) || option_map_or (λ f. nat_lt f (import_count m)) m.start false

abbrev pub HasNoStart : Module → Type 0
HasNoStart m = IsTrue (has_no_start m)

-- None of the five holds: `HasFloat`, `HasBadImport`, `IsUntyped`, `IsOverLimit` and `HasNoStart`.
pub record IsValid (m : Module) : Type 0 where
  pub no_float : is_with_floats m ≡ false
  pub imports : All (IsOfLibrary m.types) m.imports
  pub typed : IsTyped m
  pub within_limits : is_over_limit m ≡ false
  pub has_start : has_no_start m ≡ false
