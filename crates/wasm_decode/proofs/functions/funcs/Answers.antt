use Rattle.std.proofs.Common.{◌≡◌, ◌++◌, ◌∷◌, [], map, get_or, drop, add-one, suc, drop-cons}
use Rattle.std.proofs.lemmas.List.{map_push}
use Rattle.std.proofs.lemmas.Result.{err_from_is_err_and}
use Rattle.std.proofs.Math.ListN.{drop_of_length-le}
use Rattle.wasm_types.specs.Modules.{func}
use Rattle.wasm_decode.proofs.ValueLoops.{func_goes_on, func_fails, funcs_done}
use Rattle.wasm_decode.proofs.functions.funcs.Goals as goal

pub returns-in_err-sized_func : goal.returns-in_err-sized_func
returns-in_err-sized_func c =
    let p = err_from_is_err_and c.from_residual.result c.from_residual.ensures.1 in
    let i = c.loop-index.index-index in let xs = c.args.indices.now in
    let e : drop i xs ≡ get_or xs i 0 ∷ drop (suc i) xs = drop-cons xs i 0 c.loop-index-test.true in
    rw (p.1, p.2) (func_fails c.in_err-sized_func.field-0.0 (map func c.loop-index.found.items) (get_or xs i 0) (drop (suc i) xs) c.loop-index.cursor.left _ c.in_err-sized_func.ensures (rw e at c.loop-index.invariant))

pub loop-index-preserved : goal.loop-index-preserved
loop-index-preserved c =
    let i = c.loop-index.index-index in let xs = c.args.indices.now in
    let f = c.in_ok-sized_func.field-0 in
    let e : drop i xs ≡ get_or xs i 0 ∷ drop (suc i) xs = drop-cons xs i 0 c.loop-index-test.true in
    let pushed : map func c.push.new.self.items ≡ map func c.loop-index.found.items ++ func f ∷ [] = rw c.in_ok-push.ensures.items (map_push _ c.loop-index.found.items f) in
    rw (pushed, add-one) (func_goes_on (map func c.loop-index.found.items) (get_or xs i 0) (drop (suc i) xs) c.loop-index.cursor.left (func f) c.sized_func.new.cursor.left _ c.in_ok-sized_func.ensures (rw e at c.loop-index.invariant))

pub returns : goal.returns
returns c = funcs_done (map func c.loop-index.found.items) (drop c.loop-index.index-index c.args.indices.now) c.loop-index.cursor.left _ (drop_of_length-le c.args.indices.now c.loop-index-test.false) c.loop-index.invariant
