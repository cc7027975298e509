use Rattle.guest_process.proofs.LegalNumbers.{legal_numbers}
use Rattle.guest_process.proofs.laws.legal_numbers.Goals as goal

pub returns : goal.returns
returns c = legal_numbers
