use Rattle.std.proofs.Common.{◌≡◌, [], map}
use Rattle.std.specs.Prelude.{replicate}
use Rattle.group_order.proofs.motions.Motions.none.Given as goal

abbrev pub invariant-loop : goal.invariant-loop
invariant-loop l = map (λ positions. positions.items) l.of.items ≡ replicate l.counter []
