use Rattle.guest_process.proofs.Traffic.{legal_traffic}
use Rattle.guest_process.proofs.laws.legal_traffic.Goals as goal

pub returns : goal.returns
returns c = legal_traffic
