use Rattle.std.proofs.Common.{map, refl}
use Rattle.wasm_types.specs.Modules.{func_type, import_of}
use Rattle.guest_module.specs.Library.{IsOfLibrary}
use Rattle.wasm_validate.proofs.ListLoops.{All-step, All-done, not_all}
use Rattle.wasm_validate.proofs.imports.are_of_library.Goals as goal

pub returns-then-not-is_of_library : goal.returns-then-not-is_of_library
returns-then-not-is_of_library c = (
  λ no. cc,
  λ all. absurd (not_all (IsOfLibrary (map func_type c.args.types.now)) import_of _ _ _ _ refl c.import-item.is c.loop-import-test.true
      (λ of. let yes = c.is_of_library.ensures.1 of in let no = c.if-not-is_of_library.true in cc) all),
)

pub loop-import-preserved : goal.loop-import-preserved
loop-import-preserved c =
    All-step (IsOfLibrary (map func_type c.args.types.now)) import_of _ _ _ _ refl c.import-item.is c.loop-import-test.true
    c.loop-import.invariant (c.is_of_library.ensures.0 c.if-not-is_of_library.false)

pub returns : goal.returns
returns c =
    (λ _. All-done (IsOfLibrary (map func_type c.args.types.now)) import_of _ _ _ refl c.loop-import-test.false c.loop-import.invariant, λ _. refl)
