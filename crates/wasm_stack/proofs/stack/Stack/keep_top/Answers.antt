use Rattle.std.proofs.Common.{◌-◌, ap, sym, ◌∙◌, take, arith}
use Rattle.wasm_stack.specs.Thread.{Thread, with_operand}
use Rattle.wasm_stack.specs.inside.Stacks.{IsStack, thread_of}
use Rattle.wasm_stack.proofs.StackViews.{IsSound-operands, keeps_cleared, keeps_pushed, cleared_view, pushed_view, stack_top}
use Rattle.wasm_stack.proofs.stack.Stack.keep_top.Goals as goal

module _ (c : goal.After-push_reserved) where
  none_sound : IsStack (record c.self.inside { operands = c.truncate.new.self })
  none_sound =
      IsSound-operands c.self.inside c.truncate.new.self c.self.invariant (omega (arith, c.truncate.ensures.capacity)) (keeps_cleared c.self.inside _ c.self.invariant c.truncate.ensures.items)

pub invariant_of-self : goal.invariant_of-self
invariant_of-self c =
    IsSound-operands (record c.self.inside { operands = c.truncate.new.self }) c.push_reserved.new.self (none_sound c) (omega (arith, c.push_reserved.ensures.capacity)) (keeps_pushed (record c.self.inside { operands = c.truncate.new.self }) _ c.index-v.result.now (none_sound c) c.push_reserved.ensures.items)

pub returns-clause-kept : goal.returns-clause-kept
returns-clause-kept c = λ _.
    let s = c.self.inside in
    let v = c.index-v.result.now in
    let height = c.len-height.ensures ∙ s.operands.ok.0 in
    let top = stack_top s (c.len-height.result - 1) v (omega arith) (omega arith) c.index-v.ensures in
    pushed_view (record s { operands = c.truncate.new.self }) c.push_reserved.new.self v (none_sound c) c.push_reserved.ensures.items
    ∙ ap (λ t. with_operand t v) (cleared_view s c.truncate.new.self c.self.invariant c.truncate.ensures.items)
    ∙ ap (λ o. record (thread_of s) { stack = take 1 o }) (sym top)
    ∙ ap (λ (t : Thread). record t { stack = take 1 t.stack }) c.self.view_is
