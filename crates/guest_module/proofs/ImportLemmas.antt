-- The kinds of a module's imports, which are found once, and where they stand.
use Rattle.std.proofs.Common.{◌≡◌, ℕ, List, Option, Some, None, map, slice_get, refl, sym, ap, ◌∙◌}
use Rattle.std.specs.Option.{option_flatten, option_map}
use Rattle.std.specs.Prelude.{option_and_then}
use Rattle.std.proofs.lemmas.Option.{slice_get-map}
use Rattle.call_table.specs.declared.kind.Kind.{Kind}
use Rattle.wasm_types.specs.declared.modules.Import.{Import as RustImport}
use Rattle.guest_module.specs.Library.{importable}
use Rattle.wasm_types.specs.Modules.{Import, import_of}

flat : (o : Option RustImport) →
    option_flatten (option_map (λ (i : RustImport). importable i.name.items) o)
    ≡ option_and_then (λ (i : Import). importable i.name) (option_map import_of o)
flat None = refl
flat (Some i) = refl

pub kind_there : (imports : List RustImport) (kinds : List (Option Kind)) (func : ℕ) → kinds ≡ map (λ i. importable i.name.items) imports →
    option_flatten (slice_get kinds func) ≡ option_and_then (λ (i : Import). importable i.name) (slice_get (map import_of imports) func)
kind_there imports kinds func e =
    ap (λ (all : List (Option Kind)). option_flatten (slice_get all func)) e
    ∙ ap option_flatten (slice_get-map (λ (i : RustImport). importable i.name.items) imports func)
    ∙ flat (slice_get imports func)
    ∙ ap (option_and_then (λ (i : Import). importable i.name)) (sym (slice_get-map import_of imports func))
