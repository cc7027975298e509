use Rattle.group_order.proofs.SendReceivers.{finds_one_more}
use Rattle.group_order.proofs.laws.finds_one_more.Goals as goal

pub returns : goal.returns
returns c = finds_one_more
