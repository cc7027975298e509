use Rattle.std.proofs.Common.{◌∙◌, ◌++◌, List, ℕ, append_assoc, ap, codes}
use Rattle.group_text.specs.Texts.{argument_text, arguments_text, signed_text}
use Rattle.group_text.proofs.TextPieces.{arguments_more}
use Rattle.group_text.proofs.event.push_arguments.Goals as goal

pub loop-argument-preserved : goal.loop-argument-preserved
loop-argument-preserved c =
    let s = c.args.signature in
    let text = c.loop-argument.text in
    let number = signed_text s.wide_param c.in-Some.argument.now in
    let steps = c.in-Some.ensures.steps in
    let is = c.in_ok-push_signed.ensures ∙ ap (λ (t : List ℕ). t ++ number) c.in_ok-push_str.ensures.ok ∙ append_assoc text (codes " ") number in
    arguments_more (argument_text s) text c.push_signed.new.text (c.args.text.now ++ arguments_text s c.args.call.now)
    c.loop-argument.argument-iterator.n c.next.new.self.n c.loop-argument.argument-iterator.iter.rest.now c.next.new.self.iter.rest.now c.in-Some.argument.now
    steps.0 steps.1 is c.loop-argument.invariant
