use Rattle.std.proofs.Common.{rules, sym, ap, take, add-one, ◌∙◌, ℕ}
use Rattle.shell_lines.proofs.OuterBlanks.{end_at, end_none}
use Rattle.shell_lines.proofs.line.without_end_blanks.Goals as goal

pub returns-in-Some : goal.returns-in-Some
returns-in-Some c =
    let found = end_at c.args.bytes.now c.in-Some.last (search rules) (search rules) (search rules) in
    ap (λ (m : ℕ). take m c.args.bytes.now) (add-one c.in-Some.last) ∙ sym found

pub returns-in-None : goal.returns-in-None
returns-in-None c = sym (end_none c.args.bytes.now (search rules))
