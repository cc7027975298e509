use Rattle.std.proofs.Common.{length}
use Rattle.group_state.proofs.ReplayTurns.{Prints, Tallies}
use Rattle.group_state.proofs.one_replay.replay_log.Given as goal

abbrev pub invariant-turns : goal.invariant-turns
invariant-turns l = Tallies l.process l.initial.tally l.tally l.initial.replayer l.replayer × Prints l.images l.initial.out l.out l.initial.replayer l.replayer

abbrev pub decreases-turns : goal.decreases-turns
decreases-turns l = length l.replayer.left.bytes
