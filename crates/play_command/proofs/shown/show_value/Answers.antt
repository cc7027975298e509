use Rattle.std.proofs.Common.{◌∙◌, ◌++◌, List, ℕ, ap}
use Rattle.std.specs.Prelude.{codes}
use Rattle.point_programs.specs.Running.{value_word}
use Rattle.expression_text.specs.Expression.{expression_of}
use Rattle.play_command.proofs.ShownTexts.{value_answer}
use Rattle.play_command.proofs.shown.show_value.Goals as goal

pub returns : goal.returns
returns c =
    value_answer c.live_groups.ensures.states c.args.names.now c.args.live.now (expression_of c.args.expression.now) c.eval-value.result c.push_str.new.self c.eval-value.ensures
    (c.in_ok-push_str.ensures.ok
    ∙ ap (λ (t : List ℕ). t ++ codes "\n") c.in_ok-push_value.ensures.ok
    ∙ ap (λ (t : List ℕ). (t ++ value_word c.eval-value.result) ++ codes "\n") c.new-text.ensures)
