use Rattle.std.proofs.Common.{◌≡◌, ◌≤◌, ◌-◌, ◌∙◌, length, take, drop, ap, arith, length-drop}
use Rattle.std.proofs.lemmas.List.{length-reverse}
use Rattle.wasm_stack.specs.Thread.{Thread, without_operands}
use Rattle.wasm_stack.proofs.StackViews.{IsSound-operands, keeps_without, without_view}
use Rattle.wasm_stack.proofs.stack.Stack.drop_last.Goals as goal

pub overflow_sub-height : goal.overflow_sub-height
overflow_sub-height c =
    let s = c.self.inside in
    let stack = ap (λ (t : Thread). length t.stack) c.self.view_is in
    omega (arith, stack, length-reverse (drop s.here.floor s.operands.items), length-drop s.here.floor s.operands.items, c.len-height.ensures, s.operands.ok.0, c.requires)

module _ (c : goal.After-truncate) where
  height : c.len-height.result ≡ length c.self.inside.operands.items
  height = c.len-height.ensures ∙ c.self.inside.operands.ok.0

  enough : c.args.n ≤ length c.self.inside.operands.items - c.self.inside.here.floor
  enough =
      let s = c.self.inside in
      let stack = ap (λ (t : Thread). length t.stack) c.self.view_is in
      omega (arith, stack, length-reverse (drop s.here.floor s.operands.items), length-drop s.here.floor s.operands.items, c.requires)

  kept : c.truncate.new.self.items ≡ take (length c.self.inside.operands.items - c.args.n) c.self.inside.operands.items
  kept = c.truncate.ensures.items ∙ ap (λ k. take (k - c.args.n) c.self.inside.operands.items) height

pub invariant_of-self : goal.invariant_of-self
invariant_of-self c =
    let s = c.self.inside in
    IsSound-operands s c.truncate.new.self c.self.invariant (omega (arith, c.truncate.ensures.capacity)) (keeps_without s c.args.n c.self.invariant (enough c) c.truncate.new.self.items (kept c))

pub returns : goal.returns
returns c =
    without_view c.self.inside c.args.n c.self.invariant (enough c) c.truncate.new.self (kept c) ∙ ap (without_operands c.args.n) c.self.view_is
