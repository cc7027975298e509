use Rattle.std.proofs.Common.{◌≡◌, drop}
use Rattle.std.specs.Prelude.{map}
use Rattle.wasm_types.specs.Modules.{export, module_of}
use Rattle.guest_module.specs.Start.{entry_from}
use Rattle.guest_module.proofs.start.entry_from.Given as goal

abbrev pub invariant-loop-export : goal.invariant-loop-export
invariant-loop-export l =
    entry_from (module_of l.«module») (map export l.«module».exports.items) ≡ entry_from (module_of l.«module») (map export (drop l.export-index l.«module».exports.items))
