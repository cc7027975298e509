use Rattle.std.proofs.Common.{refl}
use Rattle.group_state.proofs.GroupCopies.{first_stand}
use Rattle.group_state.proofs.stand.Stand.first.Goals as goal

pub returns-clause-stand : goal.returns-clause-stand
returns-clause-stand c = first_stand _ _ c.in_ok-copy_replayers.ensures.items refl refl c.in_ok-copy_replayers.ensures.sound
