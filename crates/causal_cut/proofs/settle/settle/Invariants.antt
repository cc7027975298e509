use Rattle.std.proofs.Common.{◌≡◌, length}
use Rattle.causal_cut.specs.inside.Asks.{AreOfNodes, settled_family}
use Rattle.causal_cut.proofs.settle.settle.Given as goal

abbrev pub invariant-loop-ask : goal.invariant-loop-ask
invariant-loop-ask l =
    (settled_family l.ask-iterator.iter.rest.now l.lengths ≡ settled_family l.asks l.initial.lengths) × AreOfNodes (length l.lengths) l.ask-iterator.iter.rest.now
