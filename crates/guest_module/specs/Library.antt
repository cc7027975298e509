-- The functions that a module may import, all of the module `liblog`: the calls of the library but `begin`.
use Rattle.std.specs.Prelude.{◌≡◌, ℕ, List, [], ◌∷◌, Option, Some, None, codes, option_and_then, replicate, slice_get, if◌then◌else◌, ◌==◌}
use Rattle.call_table.specs.Table.{kind_named, row}
use Rattle.call_table.specs.declared.kind.Kind.{Kind}
use Rattle.call_table.specs.declared.kind.Kind.TheVariants.{Begin}
use Rattle.call_table.specs.declared.signature.Signature.{Signature}
use Rattle.wasm_types.specs.declared.code.ValType.{ValType}
use Rattle.wasm_types.specs.declared.code.ValType.TheVariants.{I32, I64}
use Rattle.wasm_types.specs.declared.modules.ImportDesc.{ImportDesc}
use Rattle.wasm_types.specs.declared.modules.ImportDesc.TheVariants as desc
use Rattle.wasm_types.specs.Modules.{FuncType, Import, Module}

abbrev pub unless_begin : Kind → Option Kind
unless_begin Begin = None
unless_begin kind = Some kind

-- the kind of the calls that are imported under a name, if there is one
unfoldable pub importable : List ℕ → Option Kind
importable name = option_and_then unless_begin (kind_named name)

-- the results, from the result's width in bits
abbrev pub results_of : ℕ → List ValType
results_of width = if width == 0 then [] else if width == 32 then I32 ∷ [] else I64 ∷ []

-- the type with this signature
abbrev pub signature_type : Signature → FuncType
signature_type s = record {
  params = replicate s.params (if s.wide_param then I64 else I32);
  results = results_of s.result;
}

-- the index of a function's type
abbrev pub imported_type_index : ImportDesc → Option ℕ
imported_type_index (desc.Func t) = Some t
imported_type_index _ = None

-- The import is a function of the library, and its type index names exactly the function's type.
pub record IsOfLibrary (types : List FuncType) (i : Import) : Type 0 where
  pub type_index : ℕ
  pub is_func : imported_type_index i.desc ≡ Some type_index
  pub from_library : i.«module» ≡ codes "liblog"
  pub kind : Kind
  pub named : importable i.name ≡ Some kind
  pub typed : slice_get types type_index ≡ Some (signature_type (row kind).signature)

-- the kind of the calls of the function with this index, if it is imported
abbrev pub kind_at : Module → ℕ → Option Kind
kind_at m func = option_and_then (λ (i : Import). importable i.name) (slice_get m.imports func)
