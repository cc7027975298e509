use Rattle.std.proofs.Common.{◌≡◌, ◌<◌, ◌≤◌, ◌-◌, ◌∙◌, length, take, drop, refl, sym, ap, subst, arith, length-drop}
use Rattle.std.proofs.lemmas.List.{length-reverse, length-take-le}
use Rattle.wasm_types.specs.Code.{tree, trees}
use Rattle.wasm_stack.specs.declared.stack.StackFrame.{StackFrame}
use Rattle.wasm_stack.specs.declared.stack.Stack.TheInside.{Inside}
use Rattle.wasm_stack.specs.Limits.{ThreadWithin}
use Rattle.wasm_stack.specs.View.{entered_by, opened_by}
use Rattle.wasm_stack.specs.inside.Stacks.{IsStack, thread_of}
use Rattle.wasm_stack.specs.Thread.{Thread, size_of_thread, with_todo, without_operands}
use Rattle.wasm_stack.proofs.WithinLimits.{within_without, within_elsewhere, within_opened}
use Rattle.wasm_stack.proofs.StackViews.{IsSound-operands, below_last, keeps_without, opened_sound, opened_view, without_view}
use Rattle.wasm_stack.proofs.stack.Stack.open_without_top.Goals as goal

module _ (c : goal.After-self-2-1) where
  enough : 1 ≤ length c.self.inside.operands.items - c.self.inside.here.floor
  enough =
      let s = c.self.inside in
      let stack = ap (λ (t : Thread). length t.stack) c.self.view_is in
      omega (arith, stack, length-reverse (drop s.here.floor s.operands.items), length-drop s.here.floor s.operands.items, c.requires.some)

  height : c.len-height.result ≡ length c.self.inside.operands.items
  height = c.len-height.ensures ∙ c.self.inside.operands.ok.0

  kept : c.take_last-top.new.self.items ≡ take (length c.self.inside.operands.items - 1) c.self.inside.operands.items
  kept = below_last c.self.inside.operands.items c.take_last-top.new.self.items c.take_last-top.result c.take_last-top.ensures.items

  -- without the operand
  less : Inside
  less = record c.self.inside { operands = c.take_last-top.new.self }

  less_sound : IsStack less
  unfolding less
  less_sound =
      let s = c.self.inside in
      IsSound-operands s c.take_last-top.new.self c.self.invariant (omega (arith, c.take_last-top.ensures.capacity)) (keeps_without s 1 c.self.invariant enough c.take_last-top.new.self.items kept)

  less_view : thread_of less ≡ without_operands 1 c.args.self.now
  unfolding less
  less_view = without_view c.self.inside 1 c.self.invariant enough c.take_last-top.new.self kept ∙ ap (without_operands 1) c.self.view_is

  now : StackFrame
  now = record c.self.inside.here { floor = c.len-height.result - 1 }

  top : now.floor ≡ length less.operands.items
  unfolding now less
  top = omega (arith, height, ap length kept, length-take-le (length c.self.inside.operands.items - 1) c.self.inside.operands.items (omega arith))

  view : thread_of (record less { here = record less.here { todo = now.todo; floor = now.floor }; labels = c.push_reserved.new.self; room = c.self.inside.room - 1 })
      ≡ entered_by (tree c.args.opener.now) (trees c.self.inside.here.todo.now) (without_operands 1 (record c.args.self.now { todo = trees c.args.todo.now }))
  unfolding now less
  view =
      opened_view less now c.push_reserved.new.self (record { opener = c.args.opener; todo = c.args.todo; floor = c.self.inside.here.floor }) less_sound top refl c.push_reserved.ensures.items (c.self.inside.room - 1)
      ∙ ap (λ (t : Thread). entered_by (tree c.args.opener.now) (trees c.self.inside.here.todo.now) (record t { todo = trees c.args.todo.now })) less_view

pub invariant_of-self : goal.invariant_of-self
unfolding now less
invariant_of-self c =
    opened_sound (less c) (now c) c.push_reserved.new.self (record { opener = c.args.opener; todo = c.args.todo; floor = c.self.inside.here.floor }) (less_sound c) (top c) refl c.push_reserved.ensures.items (c.self.inside.room - 1) (omega arith)

pub returns-clause-opened : goal.returns-clause-opened
unfolding now less
returns-clause-opened c = λ _ body. ap (λ t. with_todo t body) (view c)

pub returns-clause-within : goal.returns-clause-within
unfolding now less
returns-clause-within c =
    let rest = trees c.args.todo.now in
    let t = record (without_operands 1 c.args.self.now) { todo = rest } in
    let o = opened_by (tree c.args.opener.now) rest in
    let fewer : size_of_thread t < 16384 = omega (arith, c.requires.within.size, c.requires.some, length-drop 1 c.args.self.now.stack) in
    subst (λ (t : Thread). ThreadWithin t) (sym (view c)) (within_opened t o.gives (trees c.self.inside.here.todo.now) o.target o.carries o.loops (within_elsewhere (without_operands 1 c.args.self.now) rest (within_without 1 c.args.self.now c.requires.within)) fewer)
