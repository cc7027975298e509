use Rattle.shell_lines.proofs.SilentLines.{silent_blank, silent_where}
use Rattle.shell_lines.proofs.line.is_silent.Goals as goal

pub returns-in-Some : goal.returns-in-Some
returns-in-Some c = silent_where c.args.bytes.now c.in-Some.first c.in-Some.ensures

pub returns-in-None : goal.returns-in-None
returns-in-None c = silent_blank c.args.bytes.now c.in-None.ensures
