use Rattle.watch_expr.proofs.ReadLemmas.{reads_tell}
use Rattle.watch_expr.proofs.laws.reads_tell.Goals as goal

pub returns : goal.returns
returns c = reads_tell
