use Rattle.wasm_decode.proofs.ModuleLemmas.{module_takes, module_again}
use Rattle.wasm_decode.proofs.laws.module_is_spelled.Goals as goal

pub returns : goal.returns
returns c = λ bytes m. (module_takes c.exact_readers.ensures bytes m, module_again c.exact_readers.ensures bytes m)
