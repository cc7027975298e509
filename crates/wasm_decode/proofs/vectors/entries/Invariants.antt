-- What was found, with what is still read in front of it, is all that is read.
use Rattle.std.proofs.Common.{◌≡◌, ◌-◌, map}
use Rattle.wasm_decode.specs.Values.{each_at}
use Rattle.wasm_decode.proofs.ValueLoops.{with_front}
use Rattle.wasm_decode.proofs.vectors.entries.Given as goal

abbrev pub invariant-loop : goal.invariant-loop
invariant-loop g l = with_front (map g.E.Entry.view l.found.items) (each_at g.E.Entry.read_at (l.count - l.counter) l.cursor.left) ≡ each_at g.E.Entry.read_at l.count l.fn.cursor.left
