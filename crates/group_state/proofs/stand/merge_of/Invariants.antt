use Rattle.std.proofs.Common.{◌≡◌, length, map, take}
use Rattle.group_state.specs.inside.Turns.{head_of_replay}
use Rattle.group_state.proofs.stand.merge_of.Given as goal

abbrev pub invariant-loop-node : goal.invariant-loop-node
invariant-loop-node l = record {
  size : length l.merge ≡ length l.replayers;
  heads : take l.node l.merge ≡ map head_of_replay (take l.node l.replayers);
}
