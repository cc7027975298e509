use Rattle.wasm_types.specs.Modules.{module_of}
use Rattle.guest_module.proofs.Starts.{entry_is_plain}
use Rattle.guest_module.proofs.valid.ValidModule.entry.Goals as goal

pub returns-clause-plain : goal.returns-clause-plain
returns-clause-plain c =
    let inside = c.self.inside in
    rw (← c.self.view_is) (entry_is_plain (module_of inside.valid) c.self.invariant.0 inside.entry c.self.invariant.3)
