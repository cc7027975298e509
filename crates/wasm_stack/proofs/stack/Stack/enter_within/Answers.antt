use Rattle.std.proofs.Common.{◌≡◌, ℕ, ◌+◌, ◌-◌, ◌≤◌, length, drop, refl, sym, ap, ◌∙◌, arith, length-drop}
use Rattle.std.proofs.lemmas.List.{length-reverse}
use Rattle.wasm_types.specs.Locals.{zeros}
use Rattle.wasm_stack.specs.Thread.{Thread, arguments, called_with, without_operands}
use Rattle.wasm_stack.specs.declared.stack.Stack.TheInside.{Inside}
use Rattle.wasm_stack.specs.declared.stack.StackFrame.{StackFrame}
use Rattle.wasm_stack.specs.inside.Stacks.{thread_of}
use Rattle.wasm_stack.proofs.EnteredFrames.{IsEntered, grown, height as height_of, entered_sound, entered_view, size_within, within_of}
use Rattle.wasm_stack.proofs.stack.Stack.enter_within.Goals as goal
use Rattle.wasm_stack.proofs.stack.Stack.enter_within.Goals.{After-truncate}

-- the arguments and what goes lie above the level's floor
enough_in : (s : Inside) (t : Thread) (above n : ℕ) → thread_of s ≡ t → above + n ≤ length t.stack → above + n ≤ length s.operands.items - s.here.floor
enough_in s t above n view h = omega (arith, ap (λ (t : Thread). length t.stack) view, length-reverse (drop s.here.floor s.operands.items), length-drop s.here.floor s.operands.items, h)

module _ (c : After-truncate) where
  abbrev first : ℕ
  first = c.len.result - c.args.above - c.args.called.takes

  abbrev here : StackFrame
  here = record {
    todo = c.body-self-inside.result;
    floor = first;
    labels_from = c.len-self-inside.result;
    locals_from = c.len-locals_from.result;
    bottom = first;
    func = c.args.index;
    gives = c.args.called.gives;
  }

  height : c.len.result ≡ length c.self.inside.operands.items
  height = c.len.ensures ∙ c.self.inside.operands.ok.0

  enough : c.args.above + c.args.called.takes ≤ length c.self.inside.operands.items - c.self.inside.here.floor
  enough =
      enough_in c.self.inside c.args.self.now c.args.above c.args.called.takes c.self.view_is c.requires.enough

  split : first + c.args.called.takes + c.args.above ≡ c.len.result
  split = omega (arith, height, enough, c.self.invariant.part.top)

  frame : IsEntered c.self.inside c.args.called.callee c.args.above c.args.called.takes first here c.truncate.new.self c.append_reserved-2.new.items c.push_reserved.new.self
  frame =
      let s = c.self.inside in
      let passed = c.append_reserved.ensures.items in
      let appended = c.append_reserved-2.ensures.items in
      let starts = c.in-Some.ensures ∙ c.declared.ensures in
      let read = c.deref.ensures.value in
      let many : c.len.result - c.args.above - first ≡ c.args.called.takes = omega (arith, split) in
      record {
        split = split ∙ height;
        enough = omega (arith, height, enough, c.self.invariant.part.top);
        operands_are = c.truncate.ensures.items;
        capacity = omega (arith, c.truncate.ensures.capacity);
        body = c.body-self-inside.ensures;
        floor = refl;
        bottom = refl;
        labels_from = c.len-self-inside.ensures ∙ s.labels.ok.0;
        locals_from = c.len-locals_from.ensures ∙ s.locals.ok.0;
        locals_are = cc;
        callers_are = c.push_reserved.ensures.items;
      }

  starts : length c.in-Some.starts.now ≡ length (zeros c.args.called.callee.locals)
  starts = ap length (c.in-Some.ensures ∙ c.declared.ensures)

  grown_now : length c.append_reserved-2.new.items.items ≡ length c.self.inside.locals.items + c.args.called.takes + length (zeros c.args.called.callee.locals)
  grown_now = grown _ _ _ _ _ _ _ _ _ 0 0 c.self.invariant frame

  size : length c.truncate.new.self.items + length c.self.inside.labels.items + length c.append_reserved-2.new.items.items ≤ 16384
  size =
      omega (arith, height_of _ _ _ _ _ _ _ _ _ 0 0 c.self.invariant frame, grown_now, starts, size_within c.self.inside c.args.self.now c.self.invariant c.self.view_is c.requires.within, c.room_before-most.ensures.limit, c.len-2.ensures, c.self.inside.labels.ok.0, c.len-locals_from.ensures, c.self.inside.locals.ok.0, c.if-most-height.false, split)

pub invariant_of-self : goal.invariant_of-self
invariant_of-self c =
    entered_sound _ _ _ _ _ _ _ _ _ _ _ c.self.invariant (frame c)
    (omega (arith, c.room_after-self-inside.ensures.place, c.capacity-2.ensures, c.truncate.ensures.capacity))
    (omega (arith, c.room_after-self-inside.ensures.limit, c.room_before-most.ensures.limit, c.len-2.ensures, c.self.inside.labels.ok.0, c.len-locals_from.ensures, c.self.inside.locals.ok.0, grown_now c, starts c))
    (omega (arith, c.self.invariant.room.frames_place, c.push_reserved.ensures.capacity))
    c.self.invariant.room.frames_limit

pub returns-clause-entered : goal.returns-clause-entered
returns-clause-entered c = λ _.
    ap (λ (t : Thread). called_with (arguments c.args.called.takes (without_operands c.args.above t)) c.args.called.takes (without_operands c.args.above t) c.args.index c.args.called.callee c.args.called.gives) (sym c.self.view_is)
    ∙ entered_view _ _ _ _ _ _ _ _ _ 0 0 c.self.invariant (frame c)

pub returns-clause-within : goal.returns-clause-within
returns-clause-within c =
    within_of _ (invariant_of-self c)
    (omega (arith, c.push_reserved.ensures.len, c.push_reserved.new.self.ok.0, c.self.invariant.room.frames_limit, c.len-else-capacity-locals_from.ensures, c.if-len-self.false))
    (size c)
