use Rattle.std.proofs.Common.{◌≡◌, ◌++◌, take}
use Rattle.wasm_types.specs.Locals.{zeros}
use Rattle.wasm_types.proofs.declared.append_zeros.Given as goal

abbrev pub invariant-loop-run : goal.invariant-loop-run
invariant-loop-run l = l.values.items ≡ l.initial.values.items ++ zeros (take l.run-index l.runs)
