use Rattle.log_pairs.proofs.PairPlaces.{NoneBefore}
use Rattle.log_pairs.proofs.finding.pair_of_process.Given as goal

abbrev pub invariant-loop-index : goal.invariant-loop-index
invariant-loop-index l = NoneBefore l.all l.process l.index
