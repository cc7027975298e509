use Rattle.std.proofs.Common.{◌≡◌, reverse, drop}
use Rattle.wasm_types.specs.Code.{trees}
use Rattle.wasm_types.specs.Typing.{typed_instrs}
use Rattle.wasm_typing.proofs.bodies.+check.Given as goal

abbrev pub invariant-check_all-loop-instr : goal.invariant-check_all-loop-instr
invariant-check_all-loop-instr l =
    (typed_instrs l.context (trees (drop l.instr-index l.body)) (reverse l.labels.items) l.operands.current
    ≡ typed_instrs l.context (trees l.body) (reverse l.initial.labels.items) l.initial.operands.current)
    × (l.operands.outer ≡ l.initial.operands.outer)
    × (l.labels.items ≡ l.initial.labels.items)
