use Rattle.std.proofs.Common.{ap, ◌∙◌}
use Rattle.wasm_stack.specs.Thread.{with_operand}
use Rattle.wasm_stack.proofs.StackViews.{IsSound-operands, keeps_pushed, pushed_view}
use Rattle.wasm_stack.proofs.stack.Stack.push.Goals as goal

pub invariant_of-self-2 : goal.invariant_of-self-2
invariant_of-self-2 c =
    IsSound-operands c.self.inside c.push_operand.new.operands c.self.invariant c.push_operand.ensures.capacity (keeps_pushed c.self.inside _ c.of.result c.self.invariant c.in_ok-push_operand.ensures.ok)

pub returns : goal.returns
returns c =
    pushed_view c.self.inside c.push_operand.new.operands c.of.result c.self.invariant c.in_ok-push_operand.ensures.ok
    ∙ ap (λ t. with_operand t c.of.result) c.self.view_is
    ∙ ap (λ v. with_operand c.args.self.now v) c.of.ensures
