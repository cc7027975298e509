-- The modules that are kept: which one is found, and one more.
use Rattle.std.proofs.Common.{◌≡◌, ◌||◌, Bool, true, false, List, [], ◌∷◌, ◌++◌, ℕ, Option, Some, None, ap, cond, map, refl, string_bytes, subst, ◌∙◌}
use Rattle.std.proofs.lemmas.List.{map-append}
use Rattle.std.specs.Prelude.{IfNone, IsTrue, bytes_eq, find}
use Rattle.std.specs.List.{AllByRecursion, list_any}
use Rattle.wasm_types.specs.declared.modules.Module.{Module}
use Rattle.command_run.specs.declared.kept.ModuleFile.{ModuleFile}
use Rattle.command_run.specs.declared.kept.ModuleFiles.{ModuleFiles}
use Rattle.command_run.specs.Asked.{kept_names, unless_named}
use Rattle.command_run.specs.Kept.{has_file}
use Rattle.command_run.specs.inside.Taking.{AddsFile}

abbrev value_or : {X : Type 0} → X → Option X → X
value_or default None = default
value_or default (Some x) = x

at_first : {X : Type 0} (P : X → Type 0) (p : X → Bool) (y : X) (ys : List X) (x : X) (b : Bool) → (find p ys ≡ Some x → P x × (p x ≡ true)) → P y → p y ≡ b → cond b (Some y) (find p ys) ≡ Some x → P x × (p x ≡ true)
at_first P p y ys x true later here passes is =
    let same : y ≡ x = ap (value_or y) is in
    (subst P same here, subst (λ z. p z ≡ true) same passes)
at_first P p y ys x false later here fails is = later is

-- what is found passes the test, and what is so of all is so of it
pub found_so : {X : Type 0} (P : X → Type 0) (p : X → Bool) (xs : List X) (x : X) → AllByRecursion P xs → find p xs ≡ Some x → P x × (p x ≡ true)
found_so P p [] x all is = cc
found_so P p (y ∷ ys) x all is = at_first P p y ys x (p y) (found_so P p ys x all.1) all.0 refl is

none_at_first : {X : Type 0} (p : X → Bool) (y : X) (ys : List X) (b : Bool) → (find p ys ≡ None → list_any p ys ≡ false) → p y ≡ b → cond b (Some y) (find p ys) ≡ None → list_any p (y ∷ ys) ≡ false
none_at_first p y ys true later passes is = cc
none_at_first p y ys false later fails is = rw fails (later is)

-- where none is found none passes the test
pub none_passes : {X : Type 0} (p : X → Bool) (xs : List X) → find p xs ≡ None → list_any p xs ≡ false
none_passes p [] is = refl
none_passes p (y ∷ ys) is = none_at_first p y ys (p y) (none_passes p ys) refl is

-- one more
pub all_more : {X : Type 0} (P : X → Type 0) (xs : List X) (x : X) → AllByRecursion P xs → P x → AllByRecursion P (xs ++ x ∷ [])
all_more P [] x all one = (one, tt)
all_more P (y ∷ ys) x all one = (all.0, all_more P ys x all.1 one)

-- the last one passes
pub last_passes : {X : Type 0} (p : X → Bool) (xs : List X) (x : X) → p x ≡ true → IsTrue (list_any p (xs ++ x ∷ []))
last_passes p [] x passes = rw passes refl
last_passes p (y ∷ ys) x passes = rest (p y) (last_passes p ys x passes) where
  rest : (b : Bool) → IsTrue (list_any p (ys ++ x ∷ [])) → IsTrue (b || list_any p (ys ++ x ∷ []))
  rest true later = refl
  rest false later = later

some_at_first : {X : Type 0} (p : X → Bool) (y : X) (ys : List X) (x : X) (b : Bool) → (find p ys ≡ Some x → IsTrue (list_any p ys)) → p y ≡ b → cond b (Some y) (find p ys) ≡ Some x → IsTrue (list_any p (y ∷ ys))
some_at_first p y ys x true later passes is = rw passes refl
some_at_first p y ys x false later fails is = rw fails (later is)

-- where one is found one passes the test
pub one_passes : {X : Type 0} (p : X → Bool) (xs : List X) (x : X) → find p xs ≡ Some x → IsTrue (list_any p xs)
one_passes p [] x is = cc
one_passes p (y ∷ ys) x is = some_at_first p y ys x (p y) (one_passes p ys x) refl is

-- what is said where there is none
pub said_of_none : {X : Type 0} (o : Option X) (P : Type 0) → P → IfNone o P
said_of_none None P p = p
said_of_none (Some x) P p = tt

-- ---- the names of the files

any_mapped : {X Y : Type 0} (f : X → Y) (p : Y → Bool) (xs : List X) → list_any p (map f xs) ≡ list_any (λ x. p (f x)) xs
any_mapped f p [] = refl
any_mapped f p (x ∷ xs) = ap (λ (b : Bool). p (f x) || b) (any_mapped f p xs)

named_by : (files : ModuleFiles) (name : List ℕ) (b : Bool) → has_file files name ≡ b → unless_named (kept_names files) name ≡ cond b [] (name ∷ [])
named_by files name b has =
    ap (λ (named : Bool). cond named [] (name ∷ [])) (any_mapped (λ (file : ModuleFile). string_bytes file.name) (λ other. bytes_eq other name) files.kept.items ∙ has)

pub named_already : (files : ModuleFiles) (name : List ℕ) → IsTrue (has_file files name) → unless_named (kept_names files) name ≡ []
named_already files name has = named_by files name true has

pub named_anew : (files : ModuleFiles) (name : List ℕ) → has_file files name ≡ false → unless_named (kept_names files) name ≡ name ∷ []
named_anew files name new = named_by files name false new

pub names_with_file : (old new : ModuleFiles) (name : List ℕ) (m : Module) → AddsFile old new name m → kept_names new ≡ kept_names old ++ name ∷ []
names_with_file old new name m adds =
    ap (map (λ (file : ModuleFile). string_bytes file.name)) adds.added
    ∙ map-append (λ (file : ModuleFile). string_bytes file.name) old.kept.items (adds.file ∷ [])
    ∙ ap (λ (last : List ℕ). kept_names old ++ last ∷ []) adds.named
