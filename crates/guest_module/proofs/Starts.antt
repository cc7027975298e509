-- The types of functions, and the functions that run first in a valid module.
use Rattle.std.proofs.Common.{◌≡◌, ℕ, zero, suc, ◌-◌, ◌≤◌, Bool, true, false, List, [], ◌∷◌, ◌++◌, Option, Some, None, length, refl, sym, ap, ◌∙◌, subst, arith, rules, tests}
use Rattle.std.specs.Prelude.{map, slice_get, nat_lt, nat_le, if◌then◌else◌, option_and_then, All, IfNone, IfSome, IsSome, ◌&&◌, ◌||◌, not}
use Rattle.std.specs.List.{list_any}
use Rattle.std.specs.Option.{option_map, option_map_or}
use Rattle.std.proofs.lemmas.Bool.{lt-ltb, le-ltb, ltb-true, ltb-false, leb-true}
use Rattle.std.proofs.lemmas.Option.{slice_get-map}
use Rattle.wasm_types.specs.declared.modules.ImportDesc.{ImportDesc}
use Rattle.wasm_types.specs.declared.modules.ImportDesc.TheVariants as desc
use Rattle.wasm_types.specs.declared.code.ValType.{ValType}
use Rattle.wasm_types.specs.Context.{imported_func, imported_funcs, func_type_of}
use Rattle.guest_module.specs.Library.{IsOfLibrary}
use Rattle.wasm_types.specs.declared.modules.ExportDesc.{ExportDesc}
use Rattle.wasm_types.specs.declared.modules.ExportDesc.TheVariants.{Func as ToFunc, Table as ToTable, Memory as ToMemory, Global as ToGlobal}
use Rattle.wasm_types.specs.Modules.{Module, Import, Export, Func, FuncType}
use Rattle.guest_module.specs.Valid.{IsValid, import_count, is_entry, is_plain, is_start_export}
use Rattle.wasm_types.specs.Functions.{described_type, imported_type, own_type, type_of, own_func}
use Rattle.guest_module.specs.Start.{IsOwnPlain, entry_from, exported_function}

all_rest : {X : Type 0} (P : X → Type 0) (x : X) (xs : List X) → All P (x ∷ xs) → All P xs
all_rest P x xs h = λ k d lt. h (suc k) d (omega (arith, lt))

-- an imported function's type is the one that its description names
described_func : (types : List FuncType) (i : Import) → IsOfLibrary types i → (t : ℕ) × (i.desc ≡ desc.Func t)
described_func types i h = func_in i.desc h.type_index h.is_func
  where
    func_in : (d : ImportDesc) (t : ℕ) → Rattle.guest_module.specs.Library.imported_type_index d ≡ Some t → (t : ℕ) × (d ≡ desc.Func t)
    func_in (desc.Func t') t e = (t', refl)
    func_in (desc.Table l) t e = cc
    func_in (desc.Memory l) t e = cc
    func_in (desc.Global k b) t e = cc

-- each import is a function, so the functions' indices count all imports
pub imports_counted : (types : List FuncType) (is : List Import) → All (IsOfLibrary types) is → length (imported_funcs is) ≡ length is
imports_counted types [] h = refl
imports_counted types (i ∷ is) h =
    let d = described_func types i (h 0 i (omega arith)) in
    ap (λ x. length (imported_func x ++ imported_funcs is)) d.1 ∙ ap suc (imports_counted types is (all_rest (IsOfLibrary types) i is h))

lt_both : (a b : ℕ) → nat_lt (suc a) (suc b) ≡ nat_lt a b
lt_both a b = by_case (nat_lt a b) refl
  where
    by_case : (r : Bool) → nat_lt a b ≡ r → nat_lt (suc a) (suc b) ≡ r
    by_case true e = lt-ltb (suc a) (suc b) (let h = ltb-true a b e in omega arith)
    by_case false e = le-ltb (suc a) (suc b) (let h = ltb-false a b e in omega arith)

module _ (m : Module) where
  abbrev in_range : Bool → List Import → List Func → ℕ → ℕ → Option FuncType
  in_range b is fs f k = if b then imported_type m (slice_get is f) else own_type m (slice_get fs k)

  own_lookup : (fs : List Func) (f : ℕ) → option_and_then (slice_get m.types) (slice_get (map (λ (g : Func). g.type_index) fs) f) ≡ own_type m (slice_get fs f)
  own_lookup fs f =
      ap (option_and_then (slice_get m.types)) (slice_get-map (λ (g : Func). g.type_index) fs f) ∙ by_case (slice_get fs f)
    where
      by_case : (o : Option Func) → option_and_then (slice_get m.types) (option_map (λ (g : Func). g.type_index) o) ≡ own_type m o
      by_case None = refl
      by_case (Some g) = refl

  lookup : (is : List Import) (fs : List Func) (f : ℕ) → All (IsOfLibrary m.types) is → option_and_then (slice_get m.types) (slice_get (imported_funcs is ++ map (λ (g : Func). g.type_index) fs) f) ≡ (if nat_lt f (length is) then imported_type m (slice_get is f) else own_type m (slice_get fs (f - length is)))
  lookup [] fs f h =
      let no : nat_lt f 0 ≡ false = search (rules, tests) in
      let all : f ≡ f - 0 = omega arith in
      own_lookup fs f ∙ ap (λ k. own_type m (slice_get fs k)) all ∙ ap (λ b. in_range b [] fs f (f - 0)) (sym no)
  lookup (i ∷ is) fs zero h =
      let d = described_func m.types i (h 0 i (omega arith)) in
      let tested : nat_lt 0 (suc (length is)) ≡ true = lt-ltb 0 (suc (length is)) (omega arith) in
      ap (λ x. option_and_then (slice_get m.types) (slice_get (imported_func x ++ imported_funcs is ++ map (λ (g : Func). g.type_index) fs) 0)) d.1
      ∙ ap (described_type m) (sym d.1)
      ∙ ap (λ b. in_range b (i ∷ is) fs 0 (0 - suc (length is))) (sym tested)
  lookup (i ∷ is) fs (suc f) h =
      let d = described_func m.types i (h 0 i (omega arith)) in
      let tested : nat_lt (suc f) (suc (length is)) ≡ nat_lt f (length is) = lt_both f (length is) in
      let less : suc f - suc (length is) ≡ f - length is = omega arith in
      ap (λ x. option_and_then (slice_get m.types) (slice_get (imported_func x ++ imported_funcs is ++ map (λ (g : Func). g.type_index) fs) (suc f))) d.1
      ∙ lookup is fs f (all_rest (IsOfLibrary m.types) i is h)
      ∙ ap (λ b. in_range b is fs f (f - length is)) (sym tested)
      ∙ ap (λ k. in_range (nat_lt (suc f) (suc (length is))) (i ∷ is) fs (suc f) k) (sym less)

  -- the type of a function, by the indices that typing has of the functions' types
  pub same_lookup : (f : ℕ) → All (IsOfLibrary m.types) m.imports → func_type_of m f ≡ type_of m f
  same_lookup f h = lookup m.imports m.funcs f h

  -- a function with a type, past the imports, is one of the module's own
  own_there : (f : ℕ) → length m.imports ≤ f → IsSome (type_of m f) → IsSome (own_func m f)
  own_there f le h =
      let past = le-ltb f (length m.imports) le in
      by_case (own_func m f) (subst (λ b. IsSome (in_range b m.imports m.funcs f (f - length m.imports))) past h)
    where
      by_case : (o : Option Func) → IsSome (own_type m o) → IsSome o
      by_case None h = h
      by_case (Some g) h = search rules

  both : (a b : Bool) → a && b ≡ true → (a ≡ true) × (b ≡ true)
  both true true e = (refl, refl)
  both true false e = cc
  both false b e = cc

  neither : (a b : Bool) → a || b ≡ false → (a ≡ false) × (b ≡ false)
  neither false false e = (refl, refl)
  neither false true e = cc
  neither true b e = cc

  plain_there : (o : Option FuncType) → option_map_or is_plain o false ≡ true → IsSome o
  plain_there None e = cc
  plain_there (Some t) e = search rules

  plain_type : (o : Option FuncType) → option_map_or is_plain o false ≡ true → o ≡ Some (record { params = []; results = [] })
  plain_type None e = cc
  plain_type (Some t) e =
      let parts = both (nat_le (length t.params) 0) (nat_le (length t.results) 0) e in
      let params = no_items t.params (leb-true (length t.params) 0 parts.0) in
      let results = no_items t.results (leb-true (length t.results) 0 parts.1) in
      ap (λ (ks : List ValType). Some (record t { params = ks })) params
      ∙ ap (λ (ks : List ValType). Some (record { params = []; results = ks })) results
    where
      no_items : (ks : List ValType) → length ks ≤ 0 → ks ≡ []
      no_items [] h = refl
      no_items (k ∷ ks) h = absurd (omega arith)

  -- it has no parameters and no result
  entry_type : (f : ℕ) → All (IsOfLibrary m.types) m.imports → is_entry m (ToFunc f) ≡ true → (length m.imports ≤ f) × (type_of m f ≡ Some (record { params = []; results = [] }))
  entry_type f h e =
      let parts = both (nat_le (import_count m) f) _ e in
      let counted = imports_counted m.types m.imports h in
      let past : length m.imports ≤ f = omega (arith, counted, leb-true (import_count m) f parts.0) in
      (past, sym (same_lookup f h) ∙ plain_type (func_type_of m f) parts.1)

  named : (es : List Export) (f : ℕ) → entry_from m es ≡ Some f → is_entry m (ToFunc f) ≡ true
  named [] f e = cc
  named (x ∷ es) f e = by_case (is_start_export m x) refl (named es f)
    where
      of_desc : (d : ExportDesc) → is_entry m d ≡ true → exported_function d ≡ Some f → is_entry m (ToFunc f) ≡ true
      of_desc (ToFunc g) h k = let same : g ≡ f = cc in subst (λ g. is_entry m (ToFunc g) ≡ true) same h
      of_desc (ToTable t) h k = cc
      of_desc (ToMemory t) h k = cc
      of_desc (ToGlobal t) h k = cc

      by_case : (b : Bool) → is_start_export m x ≡ b → (entry_from m es ≡ Some f → is_entry m (ToFunc f) ≡ true) → is_entry m (ToFunc f) ≡ true
      by_case true k rest =
          of_desc x.desc (both _ _ k).1 (ap (λ b. if b then exported_function x.desc else entry_from m es) (sym k) ∙ e)
      by_case false k rest = rest (ap (λ b. if b then exported_function x.desc else entry_from m es) (sym k) ∙ e)

  exported_there : (d : ExportDesc) → is_entry m d ≡ true → IsSome (exported_function d)
  exported_there (ToFunc g) h = search rules
  exported_there (ToTable t) h = cc
  exported_there (ToMemory t) h = cc
  exported_there (ToGlobal t) h = cc

  found : (es : List Export) → list_any (is_start_export m) es ≡ true → IsSome (entry_from m es)
  found [] e = cc
  found (x ∷ es) e = by_case (is_start_export m x) refl (found es)
    where
      by_case : (b : Bool) → is_start_export m x ≡ b → (list_any (is_start_export m) es ≡ true → IsSome (entry_from m es)) → IsSome (entry_from m (x ∷ es))
      by_case true k rest =
          subst (λ b. IsSome (if b then exported_function x.desc else entry_from m es)) (sym k) (exported_there x.desc (both _ _ k).1)
      by_case false k rest =
          subst (λ b. IsSome (if b then exported_function x.desc else entry_from m es)) (sym k) (rest (ap (λ b. b || list_any (is_start_export m) es) (sym k) ∙ e))

  any_named : (es : List Export) (f : ℕ) → entry_from m es ≡ Some f → list_any (is_start_export m) es ≡ true
  any_named [] f e = cc
  any_named (x ∷ es) f e = by_case (is_start_export m x) refl (any_named es f)
    where
      by_case : (b : Bool) → is_start_export m x ≡ b → (entry_from m es ≡ Some f → list_any (is_start_export m) es ≡ true) → list_any (is_start_export m) (x ∷ es) ≡ true
      by_case true k rest = ap (λ b. b || list_any (is_start_export m) es) k
      by_case false k rest =
          ap (λ b. b || list_any (is_start_export m) es) k ∙ rest (ap (λ b. if b then exported_function x.desc else entry_from m es) (sym k) ∙ e)

  not_false : (b : Bool) → not b ≡ false → b ≡ true
  not_false true e = refl
  not_false false e = cc

  -- what is exported as a start is found, and nothing else
  pub entry_some : (es : List Export) (o : Option ℕ) → o ≡ entry_from m es → IfSome o (λ _. list_any (is_start_export m) es ≡ true)
  entry_some es None e = tt
  entry_some es (Some f) e = any_named es f (sym e)

  pub entry_none : (es : List Export) (o : Option ℕ) → o ≡ entry_from m es → IfNone o (list_any (is_start_export m) es ≡ false)
  entry_none es (Some f) e = tt
  entry_none es None e = by_case (list_any (is_start_export m) es) refl
    where
      by_case : (b : Bool) → list_any (is_start_export m) es ≡ b → list_any (is_start_export m) es ≡ false
      by_case false k = k
      by_case true k = let impossible : false ≡ true = subst (λ (o : Option ℕ). IsSome o) (sym e) (found es k) in cc

  -- a valid module exports its start
  pub entry_there : IsValid m → IsSome (entry_from m m.exports)
  entry_there v = found m.exports (not_false _ (neither _ _ v.has_start).0)

  plain_there_own : (f : ℕ) → length m.imports ≤ f → type_of m f ≡ Some (record { params = []; results = [] }) → IsOwnPlain m f
  plain_there_own f past typed =
      record { own = past; there = own_there f past (subst (λ (o : Option FuncType). IsSome o) (sym typed) (search rules)); type = typed }

  -- which is a function of its own, with no parameters and no result
  pub entry_is_plain : IsValid m → (f : ℕ) → entry_from m m.exports ≡ Some f → IsOwnPlain m f
  entry_is_plain v f e = let h = entry_type f v.imports (named m.exports f e) in plain_there_own f h.0 h.1

  -- and so is the function that its start section names
  pub start_is_plain : IsValid m → (s : ℕ) → m.start ≡ Some s → IsOwnPlain m s
  start_is_plain v s e =
      let counted = imports_counted m.types m.imports v.imports in
      let not_import : nat_lt s (import_count m) ≡ false = ap (λ o. option_map_or (λ f. nat_lt f (import_count m)) o false) (sym e) ∙ (neither (not (list_any (is_start_export m) m.exports)) (option_map_or (λ f. nat_lt f (import_count m)) m.start false) v.has_start).1 in
      let past : length m.imports ≤ s = omega (arith, counted, ltb-false s (import_count m) not_import) in
      let typed = subst (λ o. IfSome o (λ f. func_type_of m f ≡ Some (record { params = []; results = [] }))) e v.typed.shaped.start in
      plain_there_own s past (sym (same_lookup s v.imports) ∙ typed)

  pub starts_plain : IsValid m → (o : Option ℕ) → m.start ≡ o → IfSome o (λ f. IsOwnPlain m f)
  starts_plain v None e = tt
  starts_plain v (Some f) e = start_is_plain v f e
