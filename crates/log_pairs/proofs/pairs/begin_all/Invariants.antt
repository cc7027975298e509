use Rattle.std.proofs.Common.{drop}
use Rattle.log_pairs.proofs.BegunReplays.{AreBegun}
use Rattle.log_pairs.proofs.pairs.begin_all.Given as goal

abbrev pub invariant-loop-loaded : goal.invariant-loop-loaded
invariant-loop-loaded l = AreBegun l.all (drop l.loaded-index l.all) l.sorted.items
