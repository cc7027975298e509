use Rattle.std.proofs.Common.{◌≡◌}
use Rattle.wasm_stack.specs.Thread.{levels_left}
use Rattle.wasm_step.specs.Burst.{settle}
use Rattle.wasm_step.proofs.run.settle.Given as goal

abbrev pub invariant-ends : goal.invariant-ends
invariant-ends l = settle l.thread ≡ settle l.initial.thread

abbrev pub decreases-ends : goal.decreases-ends
decreases-ends l = levels_left l.thread
