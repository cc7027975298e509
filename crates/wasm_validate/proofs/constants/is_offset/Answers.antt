use Rattle.std.proofs.Common.{map}
use Rattle.wasm_types.specs.Modules.{global_def}
use Rattle.wasm_validate.proofs.ConstantLemmas.{no_offset}
use Rattle.wasm_validate.proofs.constants.is_offset.Goals as goal

pub returns-in-None : goal.returns-in-None
returns-in-None c = no_offset (map global_def c.args.globals.now) c.args.instrs.now c.in-None.ensures
