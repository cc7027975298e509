use Rattle.std.proofs.Common.{◌≡◌, drop, length}
use Rattle.wasm_types.specs.Functions.{same_types}
use Rattle.wasm_types.proofs.functions.same_types.Given as goal

abbrev pub invariant-loop-i : goal.invariant-loop-i
invariant-loop-i l = record { same : same_types l.a l.b ≡ same_types (drop l.i l.a) (drop l.i l.b); long : length l.a ≡ length l.b }
