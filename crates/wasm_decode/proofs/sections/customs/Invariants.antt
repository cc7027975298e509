-- What is left, passed over with room for all of it, gives what the whole gives.
use Rattle.std.proofs.Common.{◌≡◌, ℕ, ◌≤◌, length}
use Rattle.wasm_decode.specs.Sections.{skip_customs_at, customs_at}
use Rattle.wasm_decode.proofs.sections.customs.Given as goal

abbrev pub invariant-loop-cursor : goal.invariant-loop-cursor
invariant-loop-cursor l = (count : ℕ) × (length l.cursor.left ≤ count) × (skip_customs_at count l.cursor.left ≡ customs_at l.fn.cursor.left)

abbrev pub decreases-loop-cursor : goal.decreases-loop-cursor
decreases-loop-cursor l = length l.cursor.left
