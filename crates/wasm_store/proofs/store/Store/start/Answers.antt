use Rattle.std.proofs.Common.{sym, ap, subst, ◌∙◌}
use Rattle.wasm_types.specs.Modules.{module_of}
use Rattle.guest_module.specs.Valid.{IsValid}
use Rattle.wasm_store.specs.Start.{segments_fit}
use Rattle.wasm_store.proofs.StoreSuits.{initial_suits}
use Rattle.wasm_store.proofs.store.Store.start.Goals as goal

pub returns-in-Ok-clause-suits : goal.returns-in-Ok-clause-suits
returns-in-Ok-clause-suits c =
    let same = ap module_of c.module.ensures.same in
    initial_suits (module_of c.args.«module».now) (subst IsValid same c.module.ensures.valid) _ c.in-Ok.ensures
    (ap segments_fit (sym same) ∙ sym c.segments_fit.ensures ∙ c.if-not-segments_fit.false)
