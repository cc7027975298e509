use Rattle.wasm_validate.proofs.FaultLemmas.{no_fault, is_valid, found_first, first_found}
use Rattle.wasm_validate.proofs.laws.exact_fault.Goals as goal

pub returns : goal.returns
returns c = record {
  none = λ m. (is_valid m, no_fault m);
  first = λ m why caused. (found_first m why, first_found m why caused);
}
