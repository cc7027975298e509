-- The store that a valid module begins with suits it.
use Rattle.std.proofs.Common.{◌≡◌, ℕ, zero, suc, ◌+◌, ◌-◌, ◌<◌, ◌≤◌, Bool, true, false, List, [], ◌∷◌, ◌++◌, Option, Some, None, length, take, drop, replicate, refl, sym, ap, ◌∙◌, subst, arith, length-append, length-drop}
use Rattle.std.specs.Prelude.{map, slice_get, nat_lt, All, IsSome, IsSomeAnd, ◌&&◌, ◌||◌, if◌then◌else◌}
use Rattle.std.specs.List.{list_all, list_any}
use Rattle.std.specs.Option.{option_map_or}
use Rattle.std.proofs.lemmas.Bool.{ltb-true, ltb-false, leb-true}
use Rattle.std.proofs.lemmas.List.{length-map, length-replicate, length-take-le}
use Rattle.std.proofs.lemmas.Option.{slice_get_within, get_or_from_slice_get}
use Rattle.guest_memory.specs.Memory.{Memory, is_inside, after_write_at}
use Rattle.wasm_types.specs.declared.code.Value.{Value}
use Rattle.wasm_types.specs.declared.code.ValType.{ValType}
use Rattle.wasm_types.specs.declared.code.ValType.TheVariants as types
use Rattle.wasm_types.specs.declared.modules.ImportDesc.{ImportDesc}
use Rattle.wasm_types.specs.declared.modules.ImportDesc.TheVariants as desc
use Rattle.wasm_types.specs.Code.{Tree, Trees, End, Then, ConstI32, ConstI64}
use Rattle.wasm_types.specs.Context.{imported_func, imported_funcs, funcs_of}
use Rattle.wasm_types.specs.Floats.{is_float, is_float_import, have_float, has_float_func, has_float_global, has_float_type}
use Rattle.guest_module.specs.Library.{IsOfLibrary}
use Rattle.guest_module.specs.Library as library
use Rattle.wasm_types.specs.Locals.{zero_of}
use Rattle.wasm_types.specs.Modules.{Module, Import, Func, FuncType, GlobalDef, Elem, Segment}
use Rattle.wasm_types.specs.Rules.{IsTypedFunc, constant_type, is_initial_value, is_elem, is_offset}
use Rattle.wasm_types.specs.Stack.{is_same}
use Rattle.guest_module.specs.Valid.{IsValid}
use Rattle.wasm_store.specs.Suits.{SuitsModule}
use Rattle.wasm_values.specs.Values.{type_of_value, types_of_values}
use Rattle.wasm_types.specs.Functions.{described_type, imported_type, own_func, own_type, type_of}
use Rattle.wasm_store.specs.Start.{initial_store, constant, initial_value, initial_in, initial_globals, offset_in, first_min, empty_table, memory_before_segments, is_elem_inside, put_funcs, put_elems, put_segments, segments_fit}
use Rattle.wasm_store.specs.Store.{Store}

both : (a b : Bool) → a && b ≡ true → (a ≡ true) × (b ≡ true)
both true true e = (refl, refl)
both true false e = cc
both false b e = cc

neither : (a b : Bool) → a || b ≡ false → (a ≡ false) × (b ≡ false)
neither false false e = (refl, refl)
neither false true e = cc
neither true b e = cc

never_none : {X : Type 0} → false ≡ true → X
never_none e = absurd (let h : ⊥ = cc in h)

-- what holds of all elements holds of each
at_all : {X : Type 0} (P : X → Type 0) (xs : List X) (k : ℕ) (x : X) → All P xs → slice_get xs k ≡ Some x → P x
at_all P xs k x h at = subst P (get_or_from_slice_get xs k x x at) (h k x (slice_get_within xs k x at))

-- ---- the memory

-- a memory that is one of two of one maximum
choice_most : (b : Bool) (memory other : Memory) → other.max ≡ memory.max → (if b then other else memory).max ≡ memory.max
choice_most true memory other e = e
choice_most false memory other e = refl

segments_most : (globals : List Value) (ss : List Segment) (memory : Memory) → (put_segments globals ss memory).max ≡ memory.max
segments_most globals [] memory = refl
segments_most globals (s ∷ ss) memory =
    segments_most globals ss (after_write_at memory (offset_in globals s.offset) s.bytes)
    ∙ choice_most (is_inside memory (offset_in globals s.offset) (length s.bytes)) memory _ refl

-- ---- the table

funcs_length : (table : List (Option ℕ)) (at : ℕ) (funcs : List ℕ) → at + length funcs ≤ length table → length (put_funcs table at funcs) ≡ length table
funcs_length table at funcs le =
    let mapped : length (map Some funcs) ≡ length funcs = length-map funcs Some in
    omega (arith, length-append (take at table) (map Some funcs ++ drop (at + length funcs) table), length-append (map Some funcs) (drop (at + length funcs) table), mapped, length-drop (at + length funcs) table, length-take-le at table (omega arith))

elems_length : (globals : List Value) (es : List Elem) (table : List (Option ℕ)) (n : ℕ) → length table ≡ n → list_all (is_elem_inside globals n) es ≡ true → length (put_elems globals es table) ≡ n
elems_length globals [] table n e h = e
elems_length globals (x ∷ es) table n e h =
    let parts = both (is_elem_inside globals n x) (list_all (is_elem_inside globals n) es) h in
    let le : offset_in globals x.offset + length x.funcs ≤ n = leb-true (offset_in globals x.offset + length x.funcs) n parts.0 in
    elems_length globals es (put_funcs table (offset_in globals x.offset) x.funcs) n (funcs_length table (offset_in globals x.offset) x.funcs (omega (arith, e, le)) ∙ e) parts.1

-- a place that is empty or holds a function below a bound
abbrev is_known : ℕ → Option ℕ → Bool
is_known n None = true
is_known n (Some f) = nat_lt f n

join : (a b : Bool) → a ≡ true → b ≡ true → a && b ≡ true
join true true p q = refl
join true false p q = q
join false b p q = p

all_append : {X : Type 0} (p : X → Bool) (xs ys : List X) → list_all p xs ≡ true → list_all p ys ≡ true → list_all p (xs ++ ys) ≡ true
all_append p [] ys h k = k
all_append p (x ∷ xs) ys h k =
    let parts = both (p x) (list_all p xs) h in join (p x) (list_all p (xs ++ ys)) parts.0 (all_append p xs ys parts.1 k)

all_take : {X : Type 0} (p : X → Bool) (n : ℕ) (xs : List X) → list_all p xs ≡ true → list_all p (take n xs) ≡ true
all_take p zero xs h = refl
all_take p (suc n) [] h = refl
all_take p (suc n) (x ∷ xs) h =
    let parts = both (p x) (list_all p xs) h in join (p x) (list_all p (take n xs)) parts.0 (all_take p n xs parts.1)

all_drop : {X : Type 0} (p : X → Bool) (n : ℕ) (xs : List X) → list_all p xs ≡ true → list_all p (drop n xs) ≡ true
all_drop p zero xs h = h
all_drop p (suc n) [] h = refl
all_drop p (suc n) (x ∷ xs) h = all_drop p n xs (both (p x) (list_all p xs) h).1

all_some : (n : ℕ) (fs : List ℕ) → list_all (λ f. nat_lt f n) fs ≡ true → list_all (is_known n) (map Some fs) ≡ true
all_some n [] h = refl
all_some n (f ∷ fs) h =
    let parts = both (nat_lt f n) (list_all (λ f. nat_lt f n) fs) h in join (nat_lt f n) (list_all (is_known n) (map Some fs)) parts.0 (all_some n fs parts.1)

all_empty : (n k : ℕ) → list_all (is_known n) (replicate k None) ≡ true
all_empty n zero = refl
all_empty n (suc k) = all_empty n k

known_at : (n : ℕ) (table : List (Option ℕ)) (k f : ℕ) → list_all (is_known n) table ≡ true → slice_get table k ≡ Some (Some f) → nat_lt f n ≡ true
known_at n [] k f h e = cc
known_at n (x ∷ xs) zero f h e =
    let same : x ≡ Some f = cc in ap (is_known n) (sym same) ∙ (both (is_known n x) (list_all (is_known n) xs) h).0
known_at n (x ∷ xs) (suc k) f h e = known_at n xs k f (both (is_known n x) (list_all (is_known n) xs) h).1 e

elems_known : (m : Module) (globals : List Value) (n : ℕ) (es : List Elem) (table : List (Option ℕ)) → n ≡ length (funcs_of m) → list_all (is_elem m) es ≡ true → list_all (is_known n) table ≡ true → list_all (is_known n) (put_elems globals es table) ≡ true
elems_known m globals n [] table e h k = k
elems_known m globals n (x ∷ es) table e h k =
    let parts = both (is_elem m x) (list_all (is_elem m) es) h in
    let at = offset_in globals x.offset in
    let funcs : list_all (λ f. nat_lt f n) x.funcs ≡ true = ap (λ n. list_all (λ f. nat_lt f n) x.funcs) e ∙ (both (is_offset m.globals x.offset) _ (both (nat_lt x.table (length m.tables)) _ parts.0).1).1 in
    elems_known m globals n es (put_funcs table at x.funcs) e parts.1
    (all_append (is_known n) (take at table) (map Some x.funcs ++ drop (at + length x.funcs) table) (all_take (is_known n) at table k) (all_append (is_known n) (map Some x.funcs) (drop (at + length x.funcs) table) (all_some n x.funcs funcs) (all_drop (is_known n) (at + length x.funcs) table k)))

-- ---- the functions

there : {X : Type 0} (xs : List X) (k : ℕ) → k < length xs → IsSome (slice_get xs k)
there [] k lt = absurd (omega arith)
there (x ∷ xs) zero lt = refl
there (x ∷ xs) (suc k) lt = there xs k (omega (arith, lt))

import_there : (m : Module) (i : Import) → IsOfLibrary m.types i → IsSome (described_type m i.desc)
import_there m i h = by_desc i.desc h.is_func
  where
    by_desc : (d : ImportDesc) → library.imported_type_index d ≡ Some h.type_index → IsSome (described_type m d)
    by_desc (desc.Func t) e =
        let same : t ≡ h.type_index = cc in
        subst (λ o. IsSome o) (sym (ap (slice_get m.types) same ∙ h.typed)) refl
    by_desc (desc.Table l) e = cc
    by_desc (desc.Memory l) e = cc
    by_desc (desc.Global k b) e = cc

-- an import is one function at most
imported_at_most : (is : List Import) → length (imported_funcs is) ≤ length is
imported_at_most [] = omega arith
imported_at_most (i ∷ is) = by_desc i.desc (imported_at_most is)
  where
    by_desc : (d : ImportDesc) → length (imported_funcs is) ≤ length is → length (imported_func d ++ imported_funcs is) ≤ suc (length is)
    by_desc (desc.Func t) h = omega (arith, h)
    by_desc (desc.Table l) h = omega (arith, h)
    by_desc (desc.Memory l) h = omega (arith, h)
    by_desc (desc.Global k b) h = omega (arith, h)

-- each function of a valid module has a type
type_there : (m : Module) (f : ℕ) → IsValid m → f < length (funcs_of m) → IsSome (type_of m f)
type_there m f v lt = by_place (nat_lt f (length m.imports)) refl
  where
    by_import : (o : Option Import) → slice_get m.imports f ≡ o → IsSome o → IsSome (imported_type m o)
    by_import None e h = never_none h
    by_import (Some i) e h = import_there m i (at_all (IsOfLibrary m.types) m.imports f i v.imports e)

    typed : (o : Option FuncType) (P : FuncType → Type 0) → IsSomeAnd o P → IsSome o
    typed None P h = absurd h
    typed (Some t) P h = refl

    by_own : (o : Option Func) → own_func m f ≡ o → IsSome o → IsSome (own_type m o)
    by_own None e h = never_none h
    by_own (Some func) e h = typed (slice_get m.types func.type_index) _ (at_all (IsTypedFunc m) m.funcs (f - length m.imports) func v.typed.funcs e)

    by_place : (b : Bool) → nat_lt f (length m.imports) ≡ b → IsSome (if b then imported_type m (slice_get m.imports f) else own_type m (own_func m f))
    by_place true e = by_import (slice_get m.imports f) refl (there m.imports f (ltb-true f (length m.imports) e))
    by_place false e =
        let le = ltb-false f (length m.imports) e in
        let counted = imported_at_most m.imports in
        let all = length-append (imported_funcs m.imports) (map (λ (g : Func). g.type_index) m.funcs) in
        by_own (own_func m f) refl (there m.funcs (f - length m.imports) (omega (arith, le, lt, counted, all, length-map m.funcs (λ (g : Func). g.type_index))))

-- ---- the globals

is_i32 : (value_type : ValType) → is_same value_type types.I32 ≡ true → value_type ≡ types.I32
is_i32 types.I32 e = refl
is_i32 types.I64 e = cc
is_i32 types.F32 e = cc
is_i32 types.F64 e = cc

is_i64 : (value_type : ValType) → is_same value_type types.I64 ≡ true → value_type ≡ types.I64
is_i64 types.I64 e = refl
is_i64 types.I32 e = cc
is_i64 types.F32 e = cc
is_i64 types.F64 e = cc

type_of_zero : (k : ValType) → is_float k ≡ false → type_of_value (zero_of k) ≡ k
type_of_zero types.I32 e = refl
type_of_zero types.I64 e = refl
type_of_zero types.F32 e = cc
type_of_zero types.F64 e = cc

constant_value_type : (value_type : ValType) (i : Tree) → option_map_or (is_same value_type) (constant_type (Then i End)) false ≡ true → is_float value_type ≡ false → type_of_value (constant i (zero_of value_type)) ≡ value_type
constant_value_type value_type (ConstI32 bits) e nf = sym (is_i32 value_type e)
constant_value_type value_type (ConstI64 bits) e nf = sym (is_i64 value_type e)
constant_value_type value_type _ e nf = type_of_zero value_type nf

initial_value_type : (value_type : ValType) (init : Trees) → option_map_or (is_same value_type) (constant_type init) false ≡ true → is_float value_type ≡ false → type_of_value (initial_in init (zero_of value_type)) ≡ value_type
initial_value_type value_type End e nf = type_of_zero value_type nf
initial_value_type value_type (Then i End) e nf = constant_value_type value_type i e nf
initial_value_type value_type (Then i (Then j rest)) e nf = type_of_zero value_type nf

initial_value_types : (gs : List GlobalDef) → list_all is_initial_value gs ≡ true → list_any has_float_global gs ≡ false → types_of_values (map initial_value gs) ≡ map (λ (d : GlobalDef). d.value_type) gs
initial_value_types [] h nf = refl
initial_value_types (g ∷ gs) h nf =
    let parts = both (is_initial_value g) (list_all is_initial_value gs) h in
    let plain = neither (has_float_global g) (list_any has_float_global gs) nf in
    ap (λ k. k ∷ types_of_values (map initial_value gs)) (initial_value_type g.value_type g.init parts.0 (neither (is_float g.value_type) (have_float g.init) plain.0).0)
    ∙ ap (λ ks. g.value_type ∷ ks) (initial_value_types gs parts.1 plain.1)

fourth : (a b c d e : Bool) → a || (b || (c || (d || e))) ≡ false → d ≡ false
fourth a b c d e h =
    (neither d e (neither c (d || e) (neither b (c || (d || e)) (neither a (b || (c || (d || e))) h).1).1).1).0

-- ---- the whole

module _ (m : Module) (v : IsValid m) where
  suits : list_all (is_elem_inside (initial_globals m) (length (empty_table m))) m.elems ≡ true → SuitsModule (initial_store m)
  suits inside =
      let n = length (funcs_of m) in
      let plain = fourth (list_any has_float_type m.types) (list_any (λ (i : Import). is_float_import i.desc) m.imports) (list_any has_float_func m.funcs) (list_any has_float_global m.globals) (list_any (λ (e : Elem). have_float e.offset) m.elems || list_any (λ (s : Segment). have_float s.offset) m.segments) v.no_float in
      let empty : length (empty_table m) ≡ first_min m.tables = length-replicate (first_min m.tables) None in
      let known = elems_known m (initial_globals m) n m.elems (empty_table m) refl v.typed.shaped.elems (all_empty n (first_min m.tables)) in
      record {
        most = segments_most (initial_globals m) m.segments (memory_before_segments m);
        places = elems_length (initial_globals m) m.elems (empty_table m) (length (empty_table m)) refl inside ∙ empty;
        globals = initial_value_types m.globals v.typed.shaped.globals plain;
        elements = λ k f e. type_there m f v (ltb-true f n (known_at n (put_elems (initial_globals m) m.elems (empty_table m)) k f known e));
      }

  -- what a valid module begins with suits it
  pub initial_suits : (g : Store) → g ≡ initial_store m → segments_fit m ≡ true → SuitsModule g
  initial_suits g same fit = subst (λ (g : Store). SuitsModule g) (sym same) (suits (both _ _ fit).0)
