use Rattle.shell_lines.proofs.ViableTokens.{front_as}
use Rattle.shell_lines.proofs.read.read_front_expression.Goals as goal

pub returns : goal.returns
returns c = front_as c.exact_reading.ensures c.args.names.now c.args.tokens.now c.args.from c.parse.result c.parse.ensures
