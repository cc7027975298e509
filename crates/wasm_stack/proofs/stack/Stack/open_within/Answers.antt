use Rattle.std.proofs.Common.{◌-◌, ◌<◌, refl, sym, ap, ◌∙◌, subst, arith}
use Rattle.wasm_types.specs.Code.{tree, trees}
use Rattle.wasm_stack.specs.declared.stack.StackFrame.{StackFrame}
use Rattle.wasm_stack.specs.declared.stack.StackLevel.{StackLevel}
use Rattle.wasm_stack.specs.Limits.{ThreadWithin}
use Rattle.wasm_stack.specs.View.{entered_by, opened_by}
use Rattle.wasm_stack.specs.Thread.{Thread, size_of_thread}
use Rattle.wasm_stack.proofs.WithinLimits.{within_elsewhere, within_opened}
use Rattle.wasm_stack.proofs.StackViews.{opened_view, size_view}
use Rattle.wasm_stack.proofs.stack.Stack.open_within.Goals as goal

pub returns-clause-within : goal.returns-clause-within
returns-clause-within c =
    let s = c.self.inside in
    let t = c.args.self.now in
    let rest = trees c.args.todo.now in
    let body = trees s.here.todo.now in
    let o = opened_by (tree c.args.opener.now) rest in
    let whole = ap size_of_thread (sym c.self.view_is) ∙ size_view s c.self.invariant in
    let fewer : size_of_thread t < 16384 = omega (arith, whole, c.len.ensures, s.operands.ok.0, c.self.invariant.room.limit) in
    let now : StackFrame = record s.here { floor = c.len-self-inside.result } in
    let label : StackLevel = record { opener = c.args.opener; todo = c.args.todo; floor = s.here.floor } in
    let view = opened_view s now c.push_reserved.new.self label c.self.invariant (c.len-self-inside.ensures ∙ s.operands.ok.0) refl c.push_reserved.ensures.items (s.room - 1) in
    subst (λ (t : Thread). ThreadWithin t) (sym (view ∙ ap (λ (t : Thread). entered_by (tree c.args.opener.now) body (record t { todo = rest })) c.self.view_is))
    (within_opened (record t { todo = rest }) o.gives body o.target o.carries o.loops (within_elsewhere t rest c.requires) fewer)
