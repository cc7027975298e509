use Rattle.std.proofs.Common.{◌≡◌, ◌-◌, List, length, slice_get, Option, Some, sym, ap, ◌∙◌, refl}
use Rattle.expression_text.specs.declared.stack.Frame.{Frame}
use Rattle.expression_text.specs.Grammar.{operator_level}
use Rattle.expression_text.proofs.StackPiles.{compares_last}
use Rattle.expression_text.proofs.stack.chains.Goals as goal

pub returns-then-level_of-eq2 : goal.returns-then-level_of-eq2
returns-then-level_of-eq2 c =
    let last : ◌≡◌ {A = Option Frame} (Some c.in-Some.frame.now) (slice_get c.args.frames.now.items (length c.args.frames.now.items - 1)) =
    c.in-Some.ensures.value ∙ ap (λ (fs : List Frame). slice_get fs (length fs - 1)) c.deref.ensures.value in
    let two : operator_level c.args.op ≡ 2 = sym c.level_of.ensures ∙ c.if-level_of-eq2.true in
    c.is_comparison.ensures ∙ compares_last c.args.frames.now.items c.in-Some.frame.now last ∙ rw two refl
