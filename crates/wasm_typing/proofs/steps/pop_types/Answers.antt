use Rattle.std.proofs.Common.{reverse, sym, ◌∙◌}
use Rattle.wasm_typing.proofs.UnknownOperands.{pop_each-unknown}
use Rattle.wasm_typing.proofs.steps.pop_types.Goals as goal

pub returns-then-is_unknown : goal.returns-then-is_unknown
returns-then-is_unknown c = (
  sym c.loop-t.invariant.0
      ∙ pop_each-unknown (reverse c.loop-t.t-iterator.iter.rest.now) c.loop-t.operands.current
      (sym c.is_unknown.ensures ∙ c.if-is_unknown.true),
  c.loop-t.invariant.1,
)
