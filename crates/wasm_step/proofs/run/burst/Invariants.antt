use Rattle.std.proofs.Common.{◌≡◌, ◌+◌, ◌*◌}
use Rattle.wasm_types.specs.Code.{trees}
use Rattle.wasm_types.specs.Modules.{module_of}
use Rattle.wasm_step.specs.Burst.{burst}
use Rattle.wasm_stack.specs.Limits.{ThreadWithin}
use Rattle.wasm_stack.specs.Thread.{levels_left}
use Rattle.wasm_step.proofs.run.burst.Given as goal

abbrev pub invariant-steps : goal.invariant-steps
invariant-steps l = record {
  same : burst l.left (record l.thread { todo = trees l.todo }) l.store ≡ burst 10000000 l.fn.thread l.fn.store;
  within : ThreadWithin l.thread;
  same_module : module_of l.«module» ≡ l.store.«module»;
}

abbrev pub decreases-steps : goal.decreases-steps
decreases-steps l = l.left * 17000 + levels_left l.thread
