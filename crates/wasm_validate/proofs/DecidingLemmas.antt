-- The tests as functions decide what they test.
use Rattle.std.proofs.Common.{◌≡◌, ◌≢◌, ℕ, Bool, true, false, not, List, [], ◌∷◌, map, Option, Some, None, refl, sym, ap, ◌∙◌, codes}
use Rattle.std.specs.Prelude.{All, AllPairs, IsSomeAnd, IsTrue, bytes_eq, slice_get}
use Rattle.std.specs.Bool.{Decides}
use Rattle.std.specs.List.{list_all, IsDistinct, AllByRecursion}
use Rattle.std.specs.Option.{option_map_or}
use Rattle.std.proofs.lemmas.Bool.Decides.{Decides-and, Decides-by_and, Decides-like}
use Rattle.std.proofs.lemmas.Slice.Eq.{bytes_eq-Decides}
use Rattle.std.proofs.lemmas.Map.Made.{AllPairs-from_IsDistinct, IsDistinct-from_AllPairs}
use Rattle.call_table.specs.Table.{row}
use Rattle.wasm_types.specs.declared.code.ValType.{ValType}
use Rattle.wasm_types.specs.declared.code.ValType.TheVariants.{I32, I64, F32, F64}
use Rattle.wasm_types.specs.Stack.{is_same}
use Rattle.wasm_types.specs.Modules.{FuncType, Import, Func, Export, Module}
use Rattle.wasm_types.specs.Functions.{same_type, same_types}
use Rattle.guest_module.specs.Library.{IsOfLibrary, importable, imported_type_index, signature_type}
use Rattle.wasm_types.specs.Rules.{HasShape, IsTyped, IsTypedFunc}
use Rattle.wasm_validate.specs.Shape.{is_linked, is_within_limits}
use Rattle.wasm_validate.proofs.ShapeLemmas.{linked_by, shaped_from, within_by}
use Rattle.wasm_validate.specs.Deciding.{is_typed_as, is_of_library, are_of_library, are_distinct, has_shape, is_typed_body, is_typed_func, is_typed}

-- ---- types

same-Decides : (t u : ValType) → Decides (is_same t u) (t ≡ u)
same-Decides I32 I32 = (λ _. refl, λ _. refl)
same-Decides I64 I64 = (λ _. refl, λ _. refl)
same-Decides F32 F32 = (λ _. refl, λ _. refl)
same-Decides F64 F64 = (λ _. refl, λ _. refl)
same-Decides t u = (λ e. absurd cc, λ e. absurd cc)

same_types-Decides : (ts us : List ValType) → Decides (same_types ts us) (ts ≡ us)
same_types-Decides [] [] = (λ _. refl, λ _. refl)
same_types-Decides [] (u ∷ us) = (λ e. absurd cc, λ e. absurd cc)
same_types-Decides (t ∷ ts) [] = (λ e. absurd cc, λ e. absurd cc)
same_types-Decides (t ∷ ts) (u ∷ us) =
    Decides-like _ (λ h. ap (λ (x : ValType). x ∷ ts) h.0 ∙ ap (λ (xs : List ValType). u ∷ xs) h.1) (λ e. (cc, cc))
    (Decides-and (is_same t u) (same_types ts us) (same-Decides t u) (same_types-Decides ts us))

-- types with the same parameters and results
same_parts : (t u : FuncType) → t.params ≡ u.params → t.results ≡ u.results → t ≡ u
same_parts t u params results =
    let made : List ValType → List ValType → FuncType = λ p r. record { params = p; results = r } in
    ap (λ (p : List ValType). made p t.results) params ∙ ap (made u.params) results

same_type-Decides : (t u : FuncType) → Decides (same_type t u) (t ≡ u)
same_type-Decides t u =
    Decides-like _ (λ h. same_parts t u h.0 h.1) (λ e. (ap (λ (f : FuncType). f.params) e, ap (λ (f : FuncType). f.results) e))
    (Decides-and _ _ (same_types-Decides t.params u.params) (same_types-Decides t.results u.results))

-- ---- what may be absent

some-Decides : {A : Type 0} (p : A → Bool) (P : A → Type 0) → ((x : A) → Decides (p x) (P x)) → (o : Option A) → Decides (option_map_or p o false) (IsSomeAnd o P)
some-Decides p P each None = (λ e. absurd cc, λ h. absurd h)
some-Decides p P each (Some x) = each x

-- the value is this one
is-Decides : (wanted : FuncType) (o : Option FuncType) → Decides (option_map_or (same_type wanted) o false) (o ≡ Some wanted)
is-Decides wanted None = (λ e. absurd cc, λ e. absurd cc)
is-Decides wanted (Some found) = Decides-like _ (λ e. ap Some (sym e)) (λ e. cc) (same_type-Decides wanted found)

-- ---- imports

typed_as-Decides : (types : List FuncType) (i : Import) (type : FuncType) → Decides (is_typed_as types i type) (IsSomeAnd (imported_type_index i.desc) (λ t. slice_get types t ≡ Some type))
typed_as-Decides types i type = some-Decides _ _ (λ t. is-Decides type (slice_get types t)) (imported_type_index i.desc)

-- what may be absent and is not
is_there : {A : Type 0} (o : Option A) (P : A → Type 0) → IsSomeAnd o P → (x : A) × (o ≡ Some x) × P x
is_there None P h = absurd h
is_there (Some x) P h = (x, refl, h)

from_there : {A : Type 0} (o : Option A) (P : A → Type 0) (x : A) → o ≡ Some x → P x → IsSomeAnd o P
from_there o P x is holds = rw is holds

of_library-Decides : (types : List FuncType) (i : Import) → Decides (is_of_library types i) (IsOfLibrary types i)
of_library-Decides types i =
    Decides-like _ (λ h.
    let named = is_there _ _ h.1 in
    let found = is_there _ _ named.2 in
    record { type_index = found.0; is_func = found.1; from_library = h.0; kind = named.0; named = named.1; typed = found.2 })
    (λ l. (l.from_library, from_there _ _ l.kind l.named (from_there _ _ l.type_index l.is_func l.typed)))
    (Decides-and _ _ (bytes_eq-Decides i.«module» (codes "liblog")) (some-Decides _ _ (λ kind. typed_as-Decides types i (signature_type (row kind).signature)) (importable i.name)))

pub imports-Decides : (m : Module) → Decides (are_of_library m) (All (IsOfLibrary m.types) m.imports)
imports-Decides m = Decides-by_and _ _ (list_all (is_of_library m.types)) (of_library-Decides m.types) refl (λ _ _. refl) m.imports

-- ---- the names of exports

not-Decides : (b : Bool) → Decides (not b) (b ≡ false)
not-Decides true = (λ e. absurd cc, λ e. absurd cc)
not-Decides false = (λ _. refl, λ _. refl)

others-Decides : (name : List ℕ) (names : List (List ℕ)) → Decides (list_all (λ other. not (bytes_eq name other)) names) (AllByRecursion (λ other. bytes_eq name other ≡ false) names)
others-Decides name [] = (λ _. tt, λ _. refl)
others-Decides name (other ∷ names) = Decides-and _ _ (not-Decides (bytes_eq name other)) (others-Decides name names)

distinct_by : (names : List (List ℕ)) → Decides (are_distinct names) (IsDistinct bytes_eq names)
unfolding IsDistinct
distinct_by [] = (λ _. tt, λ _. refl)
distinct_by (name ∷ names) =
    Decides-and _ _ (others-Decides name names) (distinct_by names)

pub distinct-Decides : (names : List (List ℕ)) → Decides (are_distinct names) (AllPairs ◌≢◌ names)
distinct-Decides names = Decides-like _ (AllPairs-from_IsDistinct bytes_eq-Decides names) (IsDistinct-from_AllPairs bytes_eq-Decides names) (distinct_by names)

-- ---- the module's own rules

itself : (b : Bool) → Decides b (IsTrue b)
itself b = (λ e. e, λ e. e)

shaped-Decides : (m : Module) → Decides (has_shape m) (HasShape m)
shaped-Decides m =
    Decides-like _ (λ (within, (linked, names)). shaped_from m within linked names) (λ s. (within_by m s, (linked_by m s, s.names)))
    (Decides-and _ _ (itself (is_within_limits m)) (Decides-and _ _ (itself (is_linked m)) (distinct-Decides (map (λ (e : Export). e.name) m.exports))))

-- ---- code

func-Decides : (m : Module) (f : Func) → Decides (is_typed_func m f) (IsTypedFunc m f)
func-Decides m f = some-Decides _ _ (λ t. itself (is_typed_body m f t)) (slice_get m.types f.type_index)

pub typed-Decides : (m : Module) → Decides (is_typed m) (IsTyped m)
typed-Decides m =
    Decides-like _ (λ h. record { shaped = h.0; funcs = h.1 }) (λ t. (t.shaped, t.funcs))
    (Decides-and _ _ (shaped-Decides m) (Decides-by_and _ _ (list_all (is_typed_func m)) (func-Decides m) refl (λ _ _. refl) m.funcs))
