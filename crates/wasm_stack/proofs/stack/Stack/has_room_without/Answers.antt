use Rattle.std.proofs.Common.{◌≡◌, ◌+◌, ◌-◌, ◌≤◌, length, ap, sym, ◌∙◌, subst}
use Rattle.std.specs.Prelude.{nat_lt, nat_le, ◌&&◌}
use Rattle.wasm_stack.specs.Thread.{Thread, has_room, without_operands}
use Rattle.wasm_stack.proofs.StackViews.{room_without_view}
use Rattle.wasm_stack.proofs.stack.Stack.has_room_without.Goals as goal

pub returns : goal.returns
returns c =
    let s = c.self.inside in
    let frames = c.len.ensures ∙ s.callers.ok.0 in
    let operands = c.len-2.ensures ∙ s.operands.ok.0 in
    let labels = c.len-3.ensures ∙ s.labels.ok.0 in
    let locals = c.len-4.ensures ∙ s.locals.ok.0 in
    let n = c.args.n in
    let all : c.len-2.result - n + c.len-3.result + c.len-4.result ≡ length s.operands.items - n + length s.labels.items + length s.locals.items = cc in
    let enough = subst (λ (t : Thread). n ≤ length t.stack) (sym c.self.view_is) c.requires in
    c.keeps_limits.ensures
    ∙ ap (λ k. nat_lt k 512 && nat_le (c.len-2.result - n + c.len-3.result + c.len-4.result + c.args.more) 16384) frames
    ∙ ap (λ k. nat_lt (length s.callers.items) 512 && nat_le (k + c.args.more) 16384) all
    ∙ room_without_view n c.args.more s c.self.invariant enough
    ∙ ap (λ (t : Thread). has_room c.args.more (without_operands n t)) c.self.view_is
