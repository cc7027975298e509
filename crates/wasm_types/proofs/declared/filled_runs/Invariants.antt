use Rattle.std.proofs.Common.{◌≡◌, ◌++◌, drop}
use Rattle.wasm_types.specs.Context.{filled_runs}
use Rattle.wasm_types.proofs.declared.filled_runs.Given as goal

abbrev pub invariant-loop-run : goal.invariant-loop-run
invariant-loop-run l = l.runs.items ++ filled_runs (drop l.run-index l.locals) ≡ filled_runs l.locals
