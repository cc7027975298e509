use Rattle.std.proofs.Common.{◌∙◌, ◌++◌, List, ℕ, ap, sym}
use Rattle.std.specs.Prelude.{codes}
use Rattle.fri_text.specs.Hex.{hex_word}
use Rattle.play_command.proofs.ShownTexts.{printed_answer}
use Rattle.play_command.proofs.shown.show_printed.Goals as goal

pub returns : goal.returns
returns c =
    printed_answer c.args.names.now c.args.live.now c.args.node c.in-Some.p c.args.from c.printed.result.now c.push_str.new.self (sym c.in-Some.ensures) c.printed.ensures
    (c.in_ok-push_str.ensures.ok
    ∙ ap (λ (t : List ℕ). t ++ codes "\n") c.in_ok-push_hex.ensures.ok
    ∙ ap (λ (t : List ℕ). (t ++ hex_word c.bytes_from.result.now) ++ codes "\n") c.new-text.ensures
    ∙ ap (λ (bytes : List ℕ). hex_word bytes ++ codes "\n") c.bytes_from.ensures)
