use Rattle.std.proofs.Common.{◌≡◌, take, replicate}
use Rattle.wasm_validate.proofs.imports.are_copies.Given as goal

abbrev pub invariant-loop-found : goal.invariant-loop-found
invariant-loop-found l = take l.found-index l.types ≡ replicate l.found-index l.value_type
