use Rattle.std.proofs.Common.{◌≡◌, [], map}
use Rattle.std.specs.Prelude.{replicate}
use Rattle.causal_cut.proofs.clocks.Clocks.none.Given as goal

abbrev pub invariant-loop : goal.invariant-loop
invariant-loop l = map (λ own. own.items) l.of.items ≡ replicate l.counter []
