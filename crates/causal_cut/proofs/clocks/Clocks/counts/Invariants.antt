use Rattle.std.proofs.Common.{◌≡◌, length, map, take}
use Rattle.causal_cut.proofs.clocks.Clocks.counts.Given as goal

abbrev pub invariant-loop-own : goal.invariant-loop-own
invariant-loop-own l = l.counts.items ≡ map length (take l.own-index l.self)
