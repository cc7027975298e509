use Rattle.std.proofs.Common.{◌≡◌, ◌-◌, Some, length, refl, sym, ap, ◌∙◌, arith}
use Rattle.wasm_stack.specs.Thread.{Thread, arguments, called_with}
use Rattle.wasm_stack.specs.declared.stack.StackFrame.{StackFrame}
use Rattle.wasm_stack.proofs.EnteredFrames.{IsEntered, entered_sound, entered_view}
use Rattle.wasm_stack.proofs.stack.Stack.enter.Goals as goal
use Rattle.wasm_stack.proofs.stack.Stack.enter.Goals.{After-len-self-inside}

module _ (c : After-len-self-inside) where
  abbrev here : StackFrame
  here = record {
    todo = c.body-self-inside.result;
    floor = c.len-height.result - c.args.n;
    labels_from = c.len-self-inside.result;
    locals_from = c.len-locals_from.result;
    bottom = c.len-height.result - c.args.n;
    func = c.args.index;
    gives = c.args.gives;
  }

  frame : IsEntered c.self.inside c.args.callee 0 c.args.n (c.len-height.result - c.args.n) here c.truncate.new.self c.append.new.values c.push_to.new.items
  frame =
      let s = c.self.inside in
      let first = c.len-height.result - c.args.n in
      let height : c.len-height.result ≡ length s.operands.items = c.len-height.ensures ∙ s.operands.ok.0 in
      let read = c.deref.ensures.value in
      let many : length s.operands.items - first ≡ c.args.n = omega (arith, height, c.if-height-self.false) in
      let passed = c.in_ok-append_all.ensures.ok in
      let declared = c.declared.ensures in
      record {
        split = omega (arith, height, c.if-height-self.false);
        enough = omega (arith, height, c.if-height-self.false, c.self.invariant.part.top);
        operands_are = c.truncate.ensures.items;
        capacity = omega (arith, c.truncate.ensures.capacity);
        body = c.body-self-inside.ensures;
        floor = refl;
        bottom = refl;
        labels_from = c.len-self-inside.ensures ∙ s.labels.ok.0;
        locals_from = c.len-locals_from.ensures ∙ s.locals.ok.0;
        locals_are = let appended = c.in_ok-append.ensures.ok in cc;
        callers_are = c.in_ok-push_to.ensures.ok;
      }

pub invariant_of-self-2 : goal.invariant_of-self-2
invariant_of-self-2 c =
    let c' = (goal.at.invariant_of-self-2 c).After-len-self-inside in
    entered_sound _ _ _ _ _ _ _ _ _ 0 _ c'.self.invariant (frame c') (omega arith) (omega arith) (omega (arith, c'.self.invariant.room.frames_place, c'.in_ok-push_to.ensures.capacity)) c'.self.invariant.room.frames_limit

pub returns : goal.returns
returns c =
    let c' = (goal.at.returns c).After-len-self-inside in
    ap (λ (t : Thread). called_with (arguments c.args.n t) c.args.n t c.args.index c.args.callee c.args.gives) (sym c.self.view_is)
    ∙ entered_view _ _ _ _ _ _ _ _ _ 0 0 c'.self.invariant (frame c')
    ∙ ap Some (sym c.find_room.ensures)
