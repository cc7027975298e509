use Rattle.std.proofs.Common.{◌≡◌, ◌<◌, sym, ap, ◌∙◌, subst, arith}
use Rattle.wasm_stack.specs.Limits.{ThreadWithin}
use Rattle.wasm_stack.specs.Thread.{Thread, size_of_thread, with_operand}
use Rattle.wasm_stack.specs.inside.Stacks.{thread_of}
use Rattle.wasm_stack.proofs.WithinLimits.{within_pushed}
use Rattle.wasm_stack.proofs.StackViews.{IsSound-operands, keeps_pushed, pushed_view, size_view}
use Rattle.wasm_stack.proofs.stack.Stack.push_within.Goals as goal

pub invariant_of-self : goal.invariant_of-self
invariant_of-self c =
    IsSound-operands c.self.inside c.push_reserved.new.self c.self.invariant (omega (arith, c.push_reserved.ensures.capacity)) (keeps_pushed c.self.inside _ c.args.v c.self.invariant c.push_reserved.ensures.items)

module _ (c : goal.After-push_reserved) where
  view : thread_of (record c.self.inside { operands = c.push_reserved.new.self }) ≡ with_operand c.args.self.now c.args.v
  view =
      pushed_view c.self.inside c.push_reserved.new.self c.args.v c.self.invariant c.push_reserved.ensures.items
      ∙ ap (λ t. with_operand t c.args.v) c.self.view_is

pub returns-clause-pushed : goal.returns-clause-pushed
returns-clause-pushed c = λ _. view c

pub returns-clause-within : goal.returns-clause-within
returns-clause-within c =
    let s = c.self.inside in
    let whole = ap size_of_thread (sym c.self.view_is) ∙ size_view s c.self.invariant in
    let fewer : size_of_thread c.args.self.now < 16384 = omega (arith, whole, s.operands.ok.0, c.self.invariant.room.limit) in
    subst (λ (t : Thread). ThreadWithin t) (sym (view c)) (within_pushed c.args.self.now c.args.v c.requires fewer)
