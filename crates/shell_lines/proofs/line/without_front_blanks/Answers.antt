use Rattle.std.proofs.Common.{rules, sym}
use Rattle.std.proofs.lemmas.List.{take_rest}
use Rattle.shell_lines.proofs.OuterBlanks.{front_at, front_none}
use Rattle.shell_lines.proofs.line.without_front_blanks.Goals as goal

pub returns-in-Some : goal.returns-in-Some
returns-in-Some c =
    rw (front_at c.args.bytes.now c.in-Some.first (search rules) (search rules) (search rules), take_rest)

pub returns-in-None : goal.returns-in-None
returns-in-None c = sym (front_none c.args.bytes.now (search rules))
