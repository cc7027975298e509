use Rattle.std.proofs.Common.{[], ap, ◌∙◌, arith}
use Rattle.wasm_stack.specs.Thread.{Thread}
use Rattle.wasm_stack.proofs.StackViews.{IsSound-operands, keeps_cleared, cleared_view}
use Rattle.wasm_stack.proofs.stack.Stack.clear.Goals as goal

pub invariant_of-self : goal.invariant_of-self
invariant_of-self c =
    IsSound-operands c.self.inside c.truncate.new.self c.self.invariant (omega (arith, c.truncate.ensures.capacity)) (keeps_cleared c.self.inside _ c.self.invariant c.truncate.ensures.items)

pub returns : goal.returns
returns c =
    cleared_view c.self.inside c.truncate.new.self c.self.invariant c.truncate.ensures.items
    ∙ ap (λ (t : Thread). record t { stack = [] }) c.self.view_is
