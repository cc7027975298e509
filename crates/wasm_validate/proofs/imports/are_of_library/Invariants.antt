use Rattle.std.proofs.Common.{take, map, All}
use Rattle.wasm_types.specs.Modules.{func_type, import_of}
use Rattle.guest_module.specs.Library.{IsOfLibrary}
use Rattle.wasm_validate.proofs.imports.are_of_library.Given as goal

abbrev pub invariant-loop-import : goal.invariant-loop-import
invariant-loop-import l = All (λ i. IsOfLibrary (map func_type l.types) (import_of i)) (take l.import-index l.imports)
