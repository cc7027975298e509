use Rattle.std.proofs.Common.{arith, sym}
use Rattle.std.proofs.lemmas.List.{length-take-le, take_all}
use Rattle.group_text.specs.Texts.{most_told_frames}
use Rattle.group_text.proofs.frames.told.Goals as goal

pub slice_bounds-result-end : goal.slice_bounds-result-end
slice_bounds-result-end c = sym (length-take-le most_told_frames c.args.frames.now (omega (arith, c.if-frames-le-MOST_TOLD_FRAMES.false)))

pub returns-then-frames-le-MOST_TOLD_FRAMES : goal.returns-then-frames-le-MOST_TOLD_FRAMES
returns-then-frames-le-MOST_TOLD_FRAMES c = sym (take_all most_told_frames c.args.frames.now c.if-frames-le-MOST_TOLD_FRAMES.true)
