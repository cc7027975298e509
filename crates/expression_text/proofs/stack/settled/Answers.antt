use Rattle.std.proofs.Common.{arith, ◌≤◌}
use Rattle.expression_text.specs.Grammar.{operator_level}
use Rattle.expression_text.proofs.StackPiles.{front_step, left_step, left_stops, inside_stops}
use Rattle.expression_text.proofs.stack.settled.Goals as goal

pub loop-frame-preserved : goal.loop-frame-preserved
loop-frame-preserved c =
    front_step c.args.least c.loop-frame.frames.items c.pop.new.self.items c.in-Some.frame c.in-Front.op c.loop-frame.x c.in_ok-new-in-Front.field-0.value _ c.in-Some.ensures.items c.in-Front.is c.in_ok-new-in-Front.ensures.ok c.loop-frame.invariant

pub loop-frame-preserved-in-Left : goal.loop-frame-preserved-in-Left
loop-frame-preserved-in-Left c =
    let le : c.args.least ≤ operator_level c.in-Left.op = omega (arith, c.level_of.ensures, c.if-level_of-least.false) in
    left_step c.args.least c.loop-frame.frames.items c.pop.new.self.items c.in-Some.frame c.in-Left.op c.loop-frame.x c.in_ok-new-in-Left-2.field-0.value c.in-Left.y c.in_ok-new-in-Left.field-0.value _ c.in-Some.ensures.items c.in-Left.is c.in_ok-new-in-Left.ensures.ok c.in_ok-new-in-Left-2.ensures.ok le c.loop-frame.invariant

pub returns-then-level_of-least : goal.returns-then-level_of-least
returns-then-level_of-least c =
    left_stops c.args.least c.loop-frame.frames.items c.pop.new.self.items c.push.new.self.items c.in-Some.frame c.in-Left.op c.loop-frame.x c.in-Left.y _ c.in-Some.ensures.items c.in-Left.is c.in_ok-push-in-Left.ensures.items (omega (arith, c.level_of.ensures, c.if-level_of-least.true)) c.loop-frame.invariant

pub returns-in-Inside : goal.returns-in-Inside
returns-in-Inside c =
    inside_stops c.args.least c.loop-frame.frames.items c.pop.new.self.items c.push-in-Inside.new.self.items c.in-Some.frame c.in-Inside.opening c.loop-frame.x _ c.in-Some.ensures.items c.in-Inside.is c.in_ok-push-in-Inside.ensures.items c.loop-frame.invariant
