use Rattle.wasm_validate.proofs.ConstantLemmas.{no_constant}
use Rattle.wasm_validate.proofs.constants.constant_type.Goals as goal

pub returns-in-None : goal.returns-in-None
returns-in-None c = no_constant c.args.instrs.now c.in-None.ensures
