use Rattle.std.proofs.Common.{sym, ap, ◌∙◌}
use Rattle.expression_text.specs.Expression.{expression_of}
use Rattle.expression_text.specs.declared.stack.Mode.{Mode}
use Rattle.expression_text.specs.Machine.{whole_expression, whole}
use Rattle.expression_text.specs.inside.Frames.{machine_state}
use Rattle.expression_text.proofs.StackPiles.{alone_none, not_empty}
use Rattle.expression_text.proofs.parser.finish.Goals as goal

pub returns : goal.returns
returns c =
    let none = alone_none c.settled.new.frames.items (expression_of c.in_ok-all-in-Have.all) (not_empty c.settled.new.frames (sym c.is_empty.ensures ∙ c.if-is_empty.false)) in
    (ap (λ (m : Mode). whole (machine_state c.args.frames.items m)) c.in-Have.is ∙ ap whole_expression c.in_ok-all-in-Have.ensures ∙ none, c.column-in-Have.ensures)
