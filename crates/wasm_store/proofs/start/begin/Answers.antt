use Rattle.std.proofs.Common.{◌∙◌, ap, arith}
use Rattle.std.proofs.lemmas.Grind.{common_steps}
use Rattle.wasm_store.specs.inside.Globals.{stamps_of_globals, values_of_globals}
use Rattle.wasm_store.proofs.GlobalViews.{first_stamps_are, first_values_are}
use Rattle.wasm_store.proofs.start.begin.Goals as goal

pub returns : goal.returns
returns c =
    let defs = c.deref.result.now in
    let values = ap values_of_globals c.in_ok-globals.ensures ∙ first_values_are defs in
    let stamps = ap stamps_of_globals c.in_ok-globals.ensures ∙ first_stamps_are defs in
    rw (values, stamps) (grind (arith, common_steps))
