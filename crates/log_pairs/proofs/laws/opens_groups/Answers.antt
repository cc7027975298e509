use Rattle.log_pairs.proofs.GroupBegins.{groups_open}
use Rattle.log_pairs.proofs.laws.opens_groups.Goals as goal

pub returns : goal.returns
returns c = groups_open c.reads_modules.ensures c.finds_logs.ensures
