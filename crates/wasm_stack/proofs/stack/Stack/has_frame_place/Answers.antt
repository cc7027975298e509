use Rattle.std.proofs.Common.{◌≡◌, ◌+◌, ◌-◌, ◌<◌, ◌≤◌, true, length, sym, ap, ◌∙◌, rules, tests, arith}
use Rattle.std.specs.Prelude.{nat_lt, nat_le, ◌&&◌}
use Rattle.std.proofs.lemmas.Bool.{ltb-true}
use Rattle.wasm_stack.specs.Thread.{has_frame_room}
use Rattle.wasm_stack.proofs.StackViews.{frame_room_view}
use Rattle.wasm_stack.proofs.stack.Stack.has_frame_place.Goals as goal
use Rattle.wasm_stack.proofs.stack.Stack.has_frame_place.Goals.{then-more-self, else-more-self}

pub returns-then-len-self : goal.returns-then-len-self
returns-then-len-self c = λ h.
    let s = c.self.inside in
    let is = c.if-len-self.true in
    let many : length s.operands.items + c.args.more < s.room =
    elim c.if-more-self.branch [
      | then-more-self w ↦ omega (arith, ltb-true w.len.result (s.room - c.args.more) (sym w.value-is ∙ is), w.len.ensures, s.operands.ok.0)
      | else-more-self w ↦ omega (arith, ltb-true c.args.more s.room (sym w.value-is ∙ is))
    ] in
    let frames : length s.callers.items + 1 < 512 = omega (arith, ltb-true (c.len-then-len-self.result + 1) 512 h, c.len-then-len-self.ensures, s.callers.ok.0) in
    let size : length s.operands.items + length s.labels.items + length s.locals.items + c.args.more ≤ 16384 = omega (arith, many, c.self.invariant.room.limit) in
    let both : (nat_lt (length s.callers.items + 1) 512 && nat_le (length s.operands.items + length s.labels.items + length s.locals.items + c.args.more) 16384) ≡ true = search (rules, tests) in
    sym (frame_room_view c.args.more s c.self.invariant ∙ ap (has_frame_room c.args.more) c.self.view_is) ∙ both
