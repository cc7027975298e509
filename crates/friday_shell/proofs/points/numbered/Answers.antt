use Rattle.std.proofs.Common.{◌∙◌, ◌++◌, List, ℕ, append_assoc, ap, codes, decimal}
use Rattle.friday_shell.proofs.points.numbered.Goals as goal

pub returns : goal.returns
returns c =
    let words = c.in_ok-push_str.ensures.ok ∙ ap (λ (t : List ℕ). t ++ c.args.words.now) c.new-text.ensures in
    let number = c.in_ok-push_u64.ensures.ok ∙ ap (λ (t : List ℕ). t ++ decimal c.args.number) words in
    c.in_ok-push_str-2.ensures.ok ∙ ap (λ (t : List ℕ). t ++ codes "\n") number ∙ append_assoc c.args.words.now (decimal c.args.number) (codes "\n")
