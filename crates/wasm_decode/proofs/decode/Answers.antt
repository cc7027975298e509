use Rattle.std.proofs.Common.{◌≡◌, ℕ, List, refl, subst}
use Rattle.std.specs.Prelude.{Result, Ok, Err, Some, None, IfOk, IsErrOf, MatchResult}
use Rattle.fri_bytes.specs.Laws.{ExactReaders}
use Rattle.wasm_types.specs.declared.modules.Module.{Module as RustModule}
use Rattle.wasm_types.specs.Modules.{module_of, Module}
use Rattle.wasm_decode.specs.declared.error.DecodeError.{DecodeError}
use Rattle.wasm_decode.specs.declared.error.DecodeError.TheVariants as errors
use Rattle.wasm_decode.specs.inside.Decoding.{DecodesAll}
use Rattle.wasm_decode.specs.Grammar.{SpellsModule}
use Rattle.wasm_decode.specs.Sections.{module_of_bytes}
use Rattle.wasm_decode.proofs.ModuleLemmas.{module_takes, module_again}
use Rattle.wasm_decode.proofs.decode.Goals as goal

is_found : ExactReaders → (bytes : List ℕ) (r : Result RustModule DecodeError) → DecodesAll module_of r (module_of_bytes bytes) → IfOk r (λ m. SpellsModule bytes (module_of m))
is_found readers bytes (Ok m) given = module_takes readers bytes (module_of m) given
is_found readers bytes (Err e) given = tt

is_decoded : ExactReaders → (bytes : List ℕ) (r : Result RustModule DecodeError) → DecodesAll module_of r (module_of_bytes bytes) → (m : Module) → SpellsModule bytes m → MatchResult r (λ found. module_of found ≡ m) (λ e. e ≡ errors.NoMemory)
is_decoded readers bytes (Ok found) given m spelled = let some = module_again readers bytes m spelled in cc
is_decoded readers bytes (Err errors.NoMemory) given m spelled = refl
is_decoded readers bytes (Err errors.Malformed) given m spelled = let some = module_again readers bytes m spelled in absurd cc

no_module : ExactReaders → (bytes : List ℕ) (r : Result RustModule DecodeError) → DecodesAll module_of r (module_of_bytes bytes) → IsErrOf r errors.Malformed → (m : Module) → SpellsModule bytes m → ⊥
no_module readers bytes r given malformed m spelled =
    let some : module_of_bytes bytes ≡ Some m = module_again readers bytes m spelled in
    let none : module_of_bytes bytes ≡ None = subst (λ (r : Result RustModule DecodeError). DecodesAll module_of r (module_of_bytes bytes)) malformed given in
    absurd cc

is_computed : (bytes : List ℕ) (r : Result RustModule DecodeError) → DecodesAll module_of r (module_of_bytes bytes) → MatchResult r (λ m. module_of_bytes bytes ≡ Some (module_of m)) (λ e. e ≡ errors.Malformed → module_of_bytes bytes ≡ None)
is_computed bytes (Ok m) given = given
is_computed bytes (Err errors.Malformed) given = λ malformed. given
is_computed bytes (Err errors.NoMemory) given = λ malformed. absurd cc

pub returns-clause-found : goal.returns-clause-found
returns-clause-found c = is_found c.exact_readers.ensures c.args.bytes.now c.module.result c.module.ensures

pub returns-clause-only : goal.returns-clause-only
returns-clause-only c = is_decoded c.exact_readers.ensures c.args.bytes.now c.module.result c.module.ensures

pub returns-clause-malformed : goal.returns-clause-malformed
returns-clause-malformed c = no_module c.exact_readers.ensures c.args.bytes.now c.module.result c.module.ensures

pub returns-clause-computed : goal.returns-clause-computed
returns-clause-computed c = is_computed c.args.bytes.now c.module.result c.module.ensures
