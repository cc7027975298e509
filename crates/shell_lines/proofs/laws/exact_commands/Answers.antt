use Rattle.shell_lines.proofs.Commands.{exact}
use Rattle.shell_lines.proofs.laws.exact_commands.Goals as goal

pub returns : goal.returns
returns c = exact c.exact_reading.ensures c.exact_programs.ensures c.read_back.ensures.names
