use Rattle.watch_expr.proofs.PartValues.{parts_make_up}
use Rattle.watch_expr.proofs.laws.parts_make_up.Goals as goal

pub returns : goal.returns
returns c = parts_make_up
