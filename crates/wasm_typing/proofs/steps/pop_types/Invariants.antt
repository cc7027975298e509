use Rattle.std.proofs.Common.{◌≡◌, reverse}
use Rattle.wasm_types.specs.Stack.{pop_each}
use Rattle.wasm_typing.proofs.steps.pop_types.Given as goal

abbrev pub invariant-loop-t : goal.invariant-loop-t
invariant-loop-t l =
    (pop_each (reverse l.t-iterator.iter.rest.now) l.operands.current ≡ pop_each (reverse l.expected) l.initial.operands.current)
    × (l.operands.outer ≡ l.initial.operands.outer)
