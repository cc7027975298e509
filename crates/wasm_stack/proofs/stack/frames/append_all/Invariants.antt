use Rattle.std.proofs.Common.{◌≡◌, ◌++◌, take}
use Rattle.wasm_stack.proofs.stack.frames.append_all.Given as goal

abbrev pub invariant-loop-item : goal.invariant-loop-item
invariant-loop-item l = l.items.items ≡ l.initial.items.items ++ take l.item-index l.more
