use Rattle.group_record.proofs.IdleItems
use Rattle.group_record.proofs.laws.idle_left_out.Goals as goal

pub returns : goal.returns
returns c = IdleItems.idle_left_out
