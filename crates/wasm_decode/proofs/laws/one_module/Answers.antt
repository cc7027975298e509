use Rattle.std.proofs.Common.{sym, ◌∙◌}
use Rattle.wasm_decode.proofs.ReaderSteps.{some_is}
use Rattle.wasm_decode.proofs.ModuleLemmas.{module_again}
use Rattle.wasm_decode.proofs.laws.one_module.Goals as goal

pub returns : goal.returns
returns c = λ bytes a b first second. some_is a b (sym (module_again c.exact_readers.ensures bytes a first) ∙ module_again c.exact_readers.ensures bytes b second)
