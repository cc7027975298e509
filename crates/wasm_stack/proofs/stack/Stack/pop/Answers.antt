use Rattle.std.proofs.Common.{sym, ap, ◌∙◌, arith}
use Rattle.wasm_stack.specs.Thread.{with_operand}
use Rattle.wasm_stack.specs.inside.Stacks.{thread_of}
use Rattle.wasm_stack.proofs.StackViews.{IsSound-operands, keeps_popped, popped_view}
use Rattle.wasm_stack.proofs.stack.Stack.pop.Goals as goal

pub invariant_of-self : goal.invariant_of-self
invariant_of-self c =
    IsSound-operands c.self.inside c.take_last-v.new.self c.self.invariant (omega (arith, c.take_last-v.ensures.capacity)) (keeps_popped c.self.inside _ c.take_last-v.result (omega (arith, c.self.inside.operands.ok.0)) c.take_last-v.ensures.items)

pub returns-clause-some : goal.returns-clause-some
returns-clause-some c =
    sym c.self.view_is
    ∙ popped_view c.self.inside c.take_last-v.new.self c.take_last-v.result c.self.invariant (omega (arith, c.self.inside.operands.ok.0)) c.take_last-v.ensures.items
    ∙ ap (λ v. with_operand (thread_of (record c.self.inside { operands = c.take_last-v.new.self })) v) (sym c.value.ensures)
