use Rattle.wasm_validate.specs.inside.Neighbors.{HasNoEqualNeighborsBelow}
use Rattle.wasm_validate.proofs.exports.has_equal_neighbors.Given as goal

abbrev pub invariant-loop-i : goal.invariant-loop-i
invariant-loop-i l = HasNoEqualNeighborsBelow (λ n. n.now) l.names l.i
