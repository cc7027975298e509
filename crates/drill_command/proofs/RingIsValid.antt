-- The module `ring` is valid.
use Rattle.std.proofs.Common.{◌≡◌, None, refl, subst, sym}
use Rattle.call_table.specs.Table.{kind_named}
use Rattle.wasm_types.specs.declared.modules.Module.{Module as RustModule}
use Rattle.guest_module.specs.Library.{importable}
use Rattle.wasm_types.specs.Modules.{module_of}
use Rattle.guest_module.specs.Valid.{IsValid}
use Rattle.wasm_validate.specs.Fault.{ExactFault, fault}
use Rattle.drill_command.specs.Ring.{ring_module}

ring_without_fault : fault ring_module ≡ None
unfolding fault importable kind_named
ring_without_fault = refl

pub ring_is_valid : ExactFault → IsValid ring_module
ring_is_valid law = (law.none ring_module).0 ring_without_fault

pub is_valid : ExactFault → (m : RustModule) → module_of m ≡ ring_module → IsValid (module_of m)
is_valid law m is = subst IsValid (sym is) (ring_is_valid law)
