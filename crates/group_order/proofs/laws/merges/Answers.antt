use Rattle.group_order.proofs.MergedOrder.{merged}
use Rattle.group_order.proofs.laws.merges.Goals as goal

pub returns : goal.returns
returns g c = merged
