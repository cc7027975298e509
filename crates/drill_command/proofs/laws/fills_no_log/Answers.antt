use Rattle.drill_command.proofs.RunFits.{fills_no_log}
use Rattle.drill_command.proofs.laws.fills_no_log.Goals as goal

pub returns : goal.returns
returns c = fills_no_log
