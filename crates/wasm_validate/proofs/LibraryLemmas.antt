-- An import of the library and its parts.
use Rattle.std.proofs.Common.{◌≡◌, ℕ, List, Option, Some, None, IsSomeAnd, slice_get, codes, refl, sym, ap, subst}
use Rattle.call_table.specs.Table.{row}
use Rattle.call_table.specs.declared.kind.Kind.{Kind}
use Rattle.wasm_types.specs.declared.modules.ImportDesc.{ImportDesc}
use Rattle.wasm_types.specs.declared.modules.ImportDesc.TheVariants as desc
use Rattle.wasm_types.specs.Modules.{FuncType, Import}
use Rattle.guest_module.specs.Library.{IsOfLibrary, importable, imported_type_index, signature_type}
use Rattle.wasm_validate.specs.inside.Signatures.{HasTypeUnder}

-- only a function has the index of a function's type
pub imported_func : (d : ImportDesc) (t : ℕ) → imported_type_index d ≡ Some t → d ≡ desc.Func t
imported_func (desc.Func u) t e = let same : u ≡ t = cc in ap desc.Func same
imported_func (desc.Table limits) t e = cc
imported_func (desc.Memory limits) t e = cc
imported_func (desc.Global value_type mutable) t e = cc

-- the parts of a fact of what is there
some_parts : {A : Type 0} (o : Option A) (P : A → Type 0) → IsSomeAnd o P → (x : A) × (o ≡ Some x) × P x
some_parts None P h = absurd h
some_parts (Some x) P h = (x, refl, h)

some_from : {A : Type 0} (o : Option A) (P : A → Type 0) (x : A) → o ≡ Some x → P x → IsSomeAnd o P
some_from None P x e h = cc
some_from (Some y) P x e h = let same : y ≡ x = cc in subst P (sym same) h

-- the type with this index is that of the calls of a kind
abbrev IsTypeOf : List FuncType → ℕ → Kind → Type 0
IsTypeOf types index kind = slice_get types index ≡ Some (signature_type (row kind).signature)

-- an import of the library, from its parts
pub of_library : (types : List FuncType) (i : Import) (index : ℕ) → i.desc ≡ desc.Func index → i.«module» ≡ codes "liblog" → HasTypeUnder types index i.name → IsOfLibrary types i
of_library types i index is from_library under =
    let parts = some_parts (importable i.name) (IsTypeOf types index) under in
    record { type_index = index; is_func = ap imported_type_index is; from_library = from_library; kind = parts.0; named = parts.1; typed = parts.2 }

-- the type of an import of the library
pub library-type : (types : List FuncType) (i : Import) (index : ℕ) → i.desc ≡ desc.Func index → IsOfLibrary types i → HasTypeUnder types index i.name
library-type types i index is of =
    let same : of.type_index ≡ index = let e : imported_type_index i.desc ≡ Some index = ap imported_type_index is in let f = of.is_func in cc in
    some_from (importable i.name) (IsTypeOf types index) of.kind of.named (subst (λ k. IsTypeOf types k of.kind) same of.typed)
