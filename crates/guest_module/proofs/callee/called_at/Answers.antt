use Rattle.std.proofs.Common.{slice_get, subst}
use Rattle.guest_module.specs.Valid.{IsValid}
use Rattle.wasm_types.specs.Modules.{module_of}
use Rattle.guest_module.proofs.LocalLemmas.{row_few, row_typed}
use Rattle.guest_module.proofs.callee.called_at.Goals as goal

pub returns-clause-typed : goal.returns-clause-typed
returns-clause-typed c =
    let m = module_of c.args.«module».now in
    let valid = subst (λ m. IsValid (module_of m)) c.module.ensures.same c.module.ensures.valid in
    row_typed m (slice_get m.funcs c.args.place) c.callee_there-callee.result c.row-row.result.now c.callee_there-callee.ensures c.row-row.ensures c.args.place valid c.callee_there-callee.ensures

pub returns-clause-few : goal.returns-clause-few
returns-clause-few c =
    let m = module_of c.args.«module».now in
    row_few m (slice_get m.funcs c.args.place) c.callee_there-callee.result c.row-row.result.now c.callee_there-callee.ensures c.row-row.ensures
