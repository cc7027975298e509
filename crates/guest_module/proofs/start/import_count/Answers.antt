use Rattle.std.proofs.Common.{arith}
use Rattle.std.proofs.lemmas.List.{length-map}
use Rattle.wasm_types.specs.Modules.{import_of, module_of}
use Rattle.guest_module.proofs.Starts.{imports_counted}
use Rattle.guest_module.proofs.start.import_count.Goals as goal

pub returns : goal.returns
returns c =
    let m = module_of c.args.«module».now in
    let items = c.args.«module».now.imports.items in
    omega (arith, imports_counted m.types m.imports c.requires, length-map items import_of, c.len.ensures, c.args.«module».now.imports.ok.0)
