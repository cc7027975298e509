use Rattle.std.proofs.Common.{refl}
use Rattle.wasm_types.specs.Modules.{module_of}
use Rattle.guest_module.proofs.Starts.{starts_plain}
use Rattle.guest_module.proofs.valid.ValidModule.start.Goals as goal

pub returns-clause-plain : goal.returns-clause-plain
returns-clause-plain c =
    let inside = c.self.inside in
    rw (← c.self.view_is) (starts_plain (module_of inside.valid) c.self.invariant.0 inside.valid.start refl)
