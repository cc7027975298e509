use Rattle.std.proofs.Common.{◌≡◌, ◌≤◌, length, take}
use Rattle.wasm_types.specs.Locals.{zeros}
use Rattle.wasm_types.proofs.declared.count_of.Given as goal

abbrev pub invariant-loop-run : goal.invariant-loop-run
invariant-loop-run l = record { counted : l.count ≡ length (zeros (take l.run-index l.runs)); within : l.count ≤ 16384 }
