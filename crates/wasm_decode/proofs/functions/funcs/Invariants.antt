-- What was found, with what is still read in front of it, is all that is read.
use Rattle.std.proofs.Common.{◌≡◌, map, drop}
use Rattle.wasm_types.specs.Modules.{func}
use Rattle.wasm_decode.specs.Entries.{funcs_at}
use Rattle.wasm_decode.proofs.ValueLoops.{with_front}
use Rattle.wasm_decode.proofs.functions.funcs.Given as goal

abbrev pub invariant-loop-index : goal.invariant-loop-index
invariant-loop-index l = with_front (map func l.found.items) (funcs_at (drop l.index-index l.indices) l.cursor.left) ≡ funcs_at l.indices l.fn.cursor.left
