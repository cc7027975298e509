use Rattle.std.proofs.Common.{◌≡◌, ◌++◌, ◌∷◌, [], map}
use Rattle.std.proofs.lemmas.Result.{err_from_is_err_and}
use Rattle.std.proofs.lemmas.List.{map_push}
use Rattle.wasm_decode.proofs.ValueLoops.{goes_on, fails, is_done}
use Rattle.wasm_decode.proofs.vectors.entries.Goals as goal

pub returns-in_err-read : goal.returns-in_err-read
returns-in_err-read g c =
    let p = err_from_is_err_and c.from_residual.result c.from_residual.ensures.1 in
    rw (p.1, p.2) (fails c.in_err-read.field-0.0 g.E.Entry.read_at (map g.E.Entry.view c.loop.found.items) c.args.count c.loop.counter c.loop.cursor.left _ c.loop-test.true c.in_err-read.ensures c.loop.invariant)

pub loop-preserved : goal.loop-preserved
loop-preserved g c =
    let view = g.E.Entry.view in
    let e : map view c.push.new.self.items ≡ map view c.loop.found.items ++ view c.in_ok-read.field-0 ∷ [] = rw c.in_ok-push.ensures.items (map_push view c.loop.found.items c.in_ok-read.field-0) in
    rw e (goes_on g.E.Entry.read_at (map view c.loop.found.items) c.args.count c.loop.counter c.loop.cursor.left (view c.in_ok-read.field-0) c.read.new.cursor.left _ c.loop-test.true c.in_ok-read.ensures c.loop.invariant)

pub returns : goal.returns
returns g c = is_done g.E.Entry.read_at (map g.E.Entry.view c.loop.found.items) c.args.count c.loop.counter c.loop.cursor.left _ c.loop-test.false c.loop.invariant
