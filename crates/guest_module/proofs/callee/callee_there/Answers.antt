use Rattle.std.proofs.Common.{◌≡◌, Some, slice_get, ap, ◌∙◌, arith}
use Rattle.std.proofs.lemmas.Grind.{common_steps}
use Rattle.std.proofs.lemmas.Option.{gets, slice_get-map}
use Rattle.std.specs.Option.{option_map}
use Rattle.wasm_types.specs.Modules.{func, module_of}
use Rattle.guest_module.proofs.LocalLemmas.{row_zeros}
use Rattle.guest_module.proofs.callee.callee_there.Goals as goal

module _ (c : goal.After-row) where
  own : slice_get (module_of c.args.«module».now).funcs c.args.place ≡ Some (func c.index-func.result.now)
  own =
      let items = c.args.«module».now.funcs.items in
      let held : slice_get items c.args.place ≡ Some c.index-func.result.now = grind (arith, common_steps, gets) in
      slice_get-map func items c.args.place ∙ ap (option_map func) held

pub invariant_of-result : goal.invariant_of-result
invariant_of-result c =
    let m = module_of c.args.«module».now in
    row_zeros m (slice_get m.funcs c.args.place) (func c.index-func.result.now) c.row.result.now (own c) c.row.ensures

pub returns : goal.returns
returns c = own c
