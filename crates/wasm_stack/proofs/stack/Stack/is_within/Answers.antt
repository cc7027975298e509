use Rattle.std.proofs.Common.{sym, ap, ◌∙◌, arith, take}
use Rattle.std.proofs.lemmas.List.{length-reverse}
use Rattle.std.specs.Prelude.{reverse}
use Rattle.wasm_stack.specs.Thread.{fits_limits}
use Rattle.wasm_stack.specs.inside.Stacks.{thread_of}
use Rattle.wasm_stack.proofs.WithinLimits.{within_is}
use Rattle.wasm_stack.proofs.StackViews.{length_of_frames, size_view}
use Rattle.wasm_stack.proofs.stack.Stack.is_within.Goals as goal

pub returns-then-len-lt-MOST_FRAMES : goal.returns-then-len-lt-MOST_FRAMES
returns-then-len-lt-MOST_FRAMES c =
    let s = c.self.inside in
    let frames = length_of_frames (reverse s.callers.items) (take s.here.labels_from s.labels.items) (take s.here.locals_from s.locals.items) (take s.here.bottom s.operands.items) ∙ length-reverse s.callers.items in
    sym (
    ap fits_limits (sym c.self.view_is)
    ∙ within_is (thread_of s) (record { frames = omega (arith, frames, s.callers.ok.0); size = omega (arith, size_view s c.self.invariant, s.operands.ok.0, c.self.invariant.room.limit) }))
