use Rattle.std.proofs.Common.{◌≡◌, take}
use Rattle.group_state.specs.Place.{ReplaysFit}
use Rattle.group_state.specs.inside.Stands.{AreSoundMemories}
use Rattle.group_state.proofs.stand.copy_replayers.Given as goal

abbrev pub invariant-loop-replayer : goal.invariant-loop-replayer
invariant-loop-replayer l = record {
  copied : l.copies.items ≡ take l.replayer-index l.replayers;
  fits : ReplaysFit (take l.replayer-index l.replayers);
  sound : AreSoundMemories (take l.replayer-index l.replayers);
}
