use Rattle.std.proofs.Common.{◌≡◌, [], vec_len}
use Rattle.expression_text.specs.Expression.{expression_of}
use Rattle.expression_text.specs.Machine.{settle_operators}
use Rattle.expression_text.specs.inside.Frames.{pile_operators}
use Rattle.expression_text.proofs.stack.settled.Given as goal

abbrev pub invariant-loop-frame : goal.invariant-loop-frame
invariant-loop-frame l = settle_operators l.least (pile_operators [] l.frames.items) (expression_of l.x) ≡ settle_operators l.least (pile_operators [] l.fn.frames.items) (expression_of l.fn.operand)

abbrev pub decreases-loop-frame : goal.decreases-loop-frame
decreases-loop-frame l = vec_len l.frames
