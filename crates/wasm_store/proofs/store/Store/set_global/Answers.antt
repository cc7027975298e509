use Rattle.wasm_types.specs.Modules.{module_of}
use Rattle.wasm_store.proofs.GlobalViews.{set_seen}
use Rattle.wasm_store.proofs.store.Store.set_global.Goals as goal

pub returns-clause-new : goal.returns-clause-new
returns-clause-new c =
    let s = c.self.inside in
    rw (← c.self.view_is) (set_seen (module_of s.«module».now) s.memory s.globals.items s.table.items s.size_stamp c.args.n c.number.result c.args.v c.number.ensures)
