use Rattle.std.proofs.Common.{List, [], ◌∷◌, ap, ◌∙◌, refl}
use Rattle.expression_text.specs.Expression.{expression_of}
use Rattle.expression_text.specs.Machine.{PendingOperator, Left, Front}
use Rattle.expression_text.specs.inside.Frames.{pile_operators}
use Rattle.expression_text.specs.declared.stack.Frame.TheVariants as frame
use Rattle.expression_text.proofs.StackPiles.{close_refused, closed_step, popped}
use Rattle.expression_text.proofs.parser.close.Goals as goal

pub returns-in_ok-closed-in-Some-Inside : goal.returns-in_ok-closed-in-Some-Inside
returns-in_ok-closed-in-Some-Inside c =
    let top = popped c.settled.new.frames.items c.pop.new.self.items c.in-Some-Inside.field-0 (frame.Inside c.in-Some-Inside.opening) c.in-Some-Inside.ensures.items c.in-Some-Inside.field-0-is in
    closed_step c.args.text.now (pile_operators [] c.args.frames.now.items) (pile_operators [] c.pop.new.self.items) (pile_operators [] c.settled.new.frames.items) (expression_of c.args.x) (expression_of c.in_ok-inner.inner) c.in-Some-Inside.opening c.closed.new.frames.items c.in_ok-closed-in-Some-Inside.field-0 c.in_ok-inner.ensures top c.in_ok-closed-in-Some-Inside.ensures

pub returns-in_ok-push-in-Some-Left : goal.returns-in_ok-push-in-Some-Left
returns-in_ok-push-in-Some-Left c =
    let f = frame.Left c.in-Some-Left.op c.in-Some-Left.y in
    let top = popped c.settled.new.frames.items c.pop.new.self.items c.in-Some-Left.field-0 f c.in-Some-Left.ensures.items c.in-Some-Left.field-0-is in
    let back = popped c.push.new.self.items c.pop.new.self.items f f c.in_ok-push-in-Some-Left.ensures.items refl in
    close_refused c.args.text.now (pile_operators [] c.args.frames.now.items) (Left c.in-Some-Left.op (expression_of c.in-Some-Left.y) ∷ pile_operators [] c.pop.new.self.items) (pile_operators [] c.push.new.self.items) (expression_of c.args.x) (expression_of c.in_ok-inner.inner)
    (c.in_ok-inner.ensures ∙ ap (λ (s : List PendingOperator). (s, expression_of c.in_ok-inner.inner)) top) refl back

pub returns-in_ok-push-in-Some-Front : goal.returns-in_ok-push-in-Some-Front
returns-in_ok-push-in-Some-Front c =
    let f = frame.Front c.in-Some-Front.op in
    let top = popped c.settled.new.frames.items c.pop.new.self.items c.in-Some-Front.field-0 f c.in-Some-Front.ensures.items c.in-Some-Front.field-0-is in
    let back = popped c.push-in-Some-Front.new.self.items c.pop.new.self.items f f c.in_ok-push-in-Some-Front.ensures.items refl in
    close_refused c.args.text.now (pile_operators [] c.args.frames.now.items) (Front c.in-Some-Front.op ∷ pile_operators [] c.pop.new.self.items) (pile_operators [] c.push-in-Some-Front.new.self.items) (expression_of c.args.x) (expression_of c.in_ok-inner.inner)
    (c.in_ok-inner.ensures ∙ ap (λ (s : List PendingOperator). (s, expression_of c.in_ok-inner.inner)) top) refl back
