use Rattle.watch_expr.proofs.UnseenVariables.{variables_unseen}
use Rattle.watch_expr.proofs.laws.variables_unseen.Goals as goal

pub returns : goal.returns
returns c = variables_unseen
