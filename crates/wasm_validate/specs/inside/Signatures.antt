-- The type that an import names.
use Rattle.std.specs.Prelude.{◌≡◌, ℕ, List, Some, IsSomeAnd, slice_get}
use Rattle.call_table.specs.Table.{row}
use Rattle.wasm_types.specs.Modules.{FuncType}
use Rattle.guest_module.specs.Library.{importable, signature_type}

-- the type with this index is that of the call with this name
abbrev pub HasTypeUnder : List FuncType → ℕ → List ℕ → Type 0
HasTypeUnder types index name = IsSomeAnd (importable name) (λ kind. slice_get types index ≡ Some (signature_type (row kind).signature))
