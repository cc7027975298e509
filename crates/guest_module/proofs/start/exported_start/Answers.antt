use Rattle.wasm_types.specs.Modules.{module_of}
use Rattle.guest_module.proofs.Starts.{entry_some, entry_none}
use Rattle.guest_module.proofs.start.exported_start.Goals as goal

pub returns-clause-some : goal.returns-clause-some
returns-clause-some c = let m = module_of c.args.«module».now in entry_some m m.exports c.entry_from.result c.entry_from.ensures

pub returns-clause-none : goal.returns-clause-none
returns-clause-none c = let m = module_of c.args.«module».now in entry_none m m.exports c.entry_from.result c.entry_from.ensures
