use Rattle.proc_replay.proofs.AcceptedSizes.{accepted_no_longer}
use Rattle.proc_replay.proofs.laws.accepted_no_longer.Goals as goal

pub returns : goal.returns
returns c = accepted_no_longer c.no_longer.ensures c.legal_numbers.ensures c.rises.ensures c.states_fit.ensures.ranges
