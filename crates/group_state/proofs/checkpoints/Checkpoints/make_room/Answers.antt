use Rattle.std.proofs.Common.{subst, sym}
use Rattle.group_state.specs.inside.Stands.{AreStands}
use Rattle.group_state.proofs.GroupCopies.{picked_stand}
use Rattle.group_state.proofs.checkpoints.Checkpoints.make_room.Goals as goal

pub returns : goal.returns
returns c = λ start all. subst (AreStands start) (sym c.retain.ensures.filtered.4) (picked_stand start c.retain.ensures.filtered.0 _ all)
