-- The sum so far and the counts that are left make the whole sum.
use Rattle.std.proofs.Common.{◌≡◌, ◌+◌, ◌<◌, ◌^◌, drop}
use Rattle.std.specs.Prelude.{sum_by}
use Rattle.wasm_decode.proofs.functions.are_few_locals.Given as goal

abbrev pub invariant-loop-count : goal.invariant-loop-count
invariant-loop-count l = record { sum : l.total + sum_by (λ x. x.0) (drop l.count-index l.locals) ≡ sum_by (λ x. x.0) l.locals; fits : l.total < 2 ^ 32 }
