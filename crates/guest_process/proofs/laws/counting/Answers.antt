use Rattle.guest_process.proofs.EventCounts.{begins, counts}
use Rattle.guest_process.proofs.laws.counting.Goals as goal

pub returns-clause-begun : goal.returns-clause-begun
returns-clause-begun c = begins

pub returns-clause-counted : goal.returns-clause-counted
returns-clause-counted c = counts
