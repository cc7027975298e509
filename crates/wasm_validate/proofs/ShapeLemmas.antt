-- The rules of a module but those of its functions' code, by their tests.
use Rattle.std.proofs.Common.{◌≡◌, ◌≢◌, ◌≤◌, ℕ, Bool, true, false, List, [], ◌∷◌, length, map, Option, Some, None, All, AllPairs, IfSome, leb, refl, sym, ap, ◌∙◌, subst, arith}
use Rattle.std.specs.List.{list_all}
use Rattle.std.specs.Option.{option_map_or}
use Rattle.std.proofs.lemmas.Bool.{and_parts, leb-true, le-leb}
use Rattle.std.specs.Cmp.Derive.{both_true}
use Rattle.wasm_types.specs.declared.code.ValType.{ValType}
use Rattle.std.proofs.lemmas.List.Elements.{All-nil, All-cons, All-head, All-tail}
use Rattle.wasm_types.specs.declared.modules.Module.{Module as RustModule}
use Rattle.wasm_types.specs.declared.modules.Import.{Import as RustImport}
use Rattle.wasm_types.specs.declared.modules.Export.{Export as RustExport}
use Rattle.wasm_types.specs.Context.{func_type_of}
use Rattle.wasm_types.specs.Modules.{FuncType, Module, Export, elem, export, global_def, module_of, segment}
use Rattle.wasm_types.specs.Rules.{HasShape, has_type, is_elem, is_initial_value, is_segment, names_something}
use Rattle.guest_module.specs.Valid.{is_plain}
use Rattle.wasm_validate.proofs.ListTests.{list_all_map}
use Rattle.wasm_validate.specs.Shape.{has_plain_start, is_linked, is_within_limits}

nil_from_short : (xs : List ValType) → leb (length xs) 0 ≡ true → xs ≡ []
nil_from_short [] short = refl
nil_from_short (x ∷ xs) short = absurd (omega (arith, leb-true (length (x ∷ xs)) 0 short))

-- a type with no parameters and no result
plain_is : (t : FuncType) → is_plain t ≡ true → t ≡ record { params = []; results = [] }
plain_is t h =
    let parts = and_parts _ _ h in
    ap (λ (ps : List ValType). record { params = ps; results = t.results }) (nil_from_short t.params parts.0)
    ∙ ap (λ (rs : List ValType). record { params = []; results = rs }) (nil_from_short t.results parts.1)

-- the start function's type, by the test
start_from : (o : Option FuncType) → option_map_or is_plain o false ≡ true → o ≡ Some (record { params = []; results = [] })
start_from None h = cc
start_from (Some t) h = ap Some (plain_is t h)

start_by : (start : Option ℕ) (type_of : ℕ → Option FuncType) → option_map_or (λ f. option_map_or is_plain (type_of f) false) start true ≡ true
    → IfSome start (λ f. type_of f ≡ Some (record { params = []; results = [] }))
start_by None type_of h = tt
start_by (Some f) type_of h = start_from (type_of f) h

start_test : (start : Option ℕ) (type_of : ℕ → Option FuncType) → IfSome start (λ f. type_of f ≡ Some (record { params = []; results = [] }))
    → option_map_or (λ f. option_map_or is_plain (type_of f) false) start true ≡ true
start_test None type_of h = refl
start_test (Some f) type_of h = rw h refl

-- few results, by the test
abbrev HasFew : FuncType → Type 0
HasFew t = length t.results ≤ 1

few_from : (ts : List FuncType) → list_all (λ (t : FuncType). leb (length t.results) 1) ts ≡ true → All HasFew ts
few_from [] h = All-nil HasFew
few_from (t ∷ ts) h =
    let parts = and_parts _ _ h in
    All-cons HasFew t ts (leb-true (length t.results) 1 parts.0) (few_from ts parts.1)

few_test : (ts : List FuncType) → All HasFew ts → list_all (λ (t : FuncType). leb (length t.results) 1) ts ≡ true
few_test [] all = refl
few_test (t ∷ ts) all = both_true (le-leb (length t.results) 1 (All-head HasFew t ts all)) (few_test ts (All-tail HasFew t ts all))

-- the names of the exports differ
abbrev pub HasOwnNames : Module → Type 0
HasOwnNames m = AllPairs ◌≢◌ (map (λ (e : Export). e.name) m.exports)

pub shaped_from : (m : Module) → is_within_limits m ≡ true → is_linked m ≡ true → HasOwnNames m → HasShape m
shaped_from m within linked own =
    let a = and_parts _ _ within in
    let b = and_parts _ _ a.1 in
    let c = and_parts _ _ b.1 in
    let d = and_parts _ _ c.1 in
    let e = and_parts _ _ linked in
    let f = and_parts _ _ e.1 in
    let g = and_parts _ _ f.1 in
    let h = and_parts _ _ g.1 in
    let i = and_parts _ _ h.1 in
    record {
      few_results = few_from m.types a.0;
      one_table = leb-true (length m.tables) 1 b.0;
      one_memory = leb-true (length m.mems) 1 c.0;
      tables = d.0;
      mems = d.1;
      imports = e.0;
      globals = f.0;
      exports = g.0;
      names = own;
      start = start_by m.start (func_type_of m) h.0;
      elems = i.0;
      segments = i.1;
    }

pub within_by : (m : Module) → HasShape m → is_within_limits m ≡ true
within_by m s =
    both_true (few_test m.types s.few_results) (both_true (le-leb (length m.tables) 1 s.one_table)
    (both_true (le-leb (length m.mems) 1 s.one_memory) (both_true s.tables s.mems)))

pub linked_by : (m : Module) → HasShape m → is_linked m ≡ true
linked_by m s =
    both_true s.imports (both_true s.globals (both_true s.exports (both_true (start_test m.start (func_type_of m) s.start) (both_true s.elems s.segments))))

-- where only the data segments are left
pub last_is : (m : RustModule) {r : Bool}
    → list_all (λ (i : RustImport). has_type (module_of m) i.desc) m.imports.items ≡ true → list_all (λ g. is_initial_value (global_def g)) m.globals.items ≡ true
    → list_all (λ (e : RustExport). names_something (module_of m) e.desc) m.exports.items ≡ true → has_plain_start (module_of m) ≡ true
    → list_all (λ e. is_elem (module_of m) (elem e)) m.elems.items ≡ true → r ≡ list_all (λ s. is_segment (module_of m) (segment s)) m.segments.items
    → r ≡ is_linked (module_of m)
last_is m imports globals exports start elems r = simp (list_all_map, imports, globals, exports, start, elems) r

names_shown : (es : List RustExport) → map (λ (e : Export). e.name) (map export es) ≡ map (λ (e : RustExport). e.name.items) es
names_shown [] = refl
names_shown (e ∷ es) = ap (λ l. e.name.items ∷ l) (names_shown es)

pub own_names : (m : RustModule) (es : List RustExport) → es ≡ m.exports.items → AllPairs ◌≢◌ (map (λ (e : RustExport). e.name.items) es) → HasOwnNames (module_of m)
own_names m es same own = subst (AllPairs ◌≢◌) (ap (λ (l : List RustExport). map (λ (e : RustExport). e.name.items) l) same ∙ sym (names_shown m.exports.items)) own

pub own_names_shown : (m : RustModule) (es : List RustExport) → es ≡ m.exports.items → HasOwnNames (module_of m) → AllPairs ◌≢◌ (map (λ (e : RustExport). e.name.items) es)
own_names_shown m es same own = subst (AllPairs ◌≢◌) (names_shown m.exports.items ∙ ap (λ (l : List RustExport). map (λ (e : RustExport). e.name.items) l) (sym same)) own
