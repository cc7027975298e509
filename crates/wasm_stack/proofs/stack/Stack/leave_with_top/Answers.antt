use Rattle.std.proofs.Common.{◌-◌, Some, sym, ap, ◌∙◌, arith}
use Rattle.wasm_stack.specs.After.{Goes, on_top}
use Rattle.wasm_stack.specs.Control.{resumed_caller}
use Rattle.wasm_stack.specs.Thread.{Thread, left_frame}
use Rattle.wasm_stack.specs.inside.Stacks.{IsStack, thread_of}
use Rattle.wasm_stack.specs.declared.stack.Stack.TheInside.{Inside}
use Rattle.wasm_stack.proofs.StackViews.{IsLeft, IsSound-operands, floor_low, keeps_pushed, left_sound, left_view, pushed_view, some_operand, stack_top}
use Rattle.wasm_stack.proofs.stack.Stack.leave_with_top.Goals as goal
use Rattle.wasm_stack.proofs.stack.Stack.leave_with_top.Goals.{Start}

pub push_reserved-requires : goal.push_reserved-requires
push_reserved-requires c =
    let s = c.self.inside in
    omega (arith, some_operand s c.args.self.now c.self.view_is c.requires, floor_low s c.self.invariant, s.operands.ok.0, s.operands.ok.1, c.truncate.ensures.len, c.truncate.ensures.capacity)

module _ (c : goal.After-truncate-in-Some-2) where
  abbrev below : Inside
  below = record c.self.inside { here = c.in-Some.held; operands = c.truncate.new.self; labels = c.truncate-in-Some.new.self; locals = c.truncate-in-Some-2.new.self; callers = c.pop.new.self }

  is_left : IsLeft c.self.inside c.truncate.new.self.items c.truncate-in-Some.new.self.items c.truncate-in-Some-2.new.self.items c.pop.new.self.items c.in-Some.held
  is_left = record { caller = c.in-Some.ensures.items; ops_is = c.truncate.ensures.items; labels_is = c.truncate-in-Some.ensures.items; locals_is = c.truncate-in-Some-2.ensures.items }

  below_sound : IsStack below
  below_sound = left_sound c.self.inside c.truncate.new.self c.truncate-in-Some.new.self c.truncate-in-Some-2.new.self c.pop.new.self c.in-Some.held c.self.invariant is_left (omega (arith, c.truncate.ensures.capacity)) (omega (arith, c.pop.ensures.capacity))

pub invariant_of-self : goal.invariant_of-self
invariant_of-self c =
    IsSound-operands (below c) c.push_reserved.new.self (below_sound c) (omega (arith, c.push_reserved.ensures.capacity)) (keeps_pushed (below c) _ c.index-v.result.now (below_sound c) c.push_reserved.ensures.items)

pub returns-in-Some-clause-left : goal.returns-in-Some-clause-left
returns-in-Some-clause-left c =
    let s = c.self.inside in
    let v = c.index-v.result.now in
    let many = some_operand s c.args.self.now c.self.view_is c.requires in
    let height = c.len.ensures ∙ s.operands.ok.0 in
    let top = stack_top s (c.len.result - 1) v (omega arith) (omega arith) c.index-v.ensures in
    let view = pushed_view (below c) c.push_reserved.new.self v (below_sound c) c.push_reserved.ensures.items in
    let leaves = left_view s c.truncate.new.self c.truncate-in-Some.new.self c.truncate-in-Some-2.new.self c.pop.new.self c.in-Some.held c.self.invariant (is_left c) in
    ap (λ (t : Thread). on_top t.stack t (λ v t. resumed_caller (left_frame t) (Some v))) (sym c.self.view_is)
    ∙ ap (λ o. on_top o (thread_of s) (λ v t. resumed_caller (left_frame t) (Some v))) top
    ∙ ap (λ o. resumed_caller o (Some v)) leaves
    ∙ ap Goes (sym view)
