use Rattle.guest_memory.proofs.StampsNoLater.{begins, grown, written}
use Rattle.guest_memory.proofs.laws.stamps_no_later.Goals as goal

pub returns-clause-written : goal.returns-clause-written
returns-clause-written c = written

pub returns-clause-grown : goal.returns-clause-grown
returns-clause-grown c = grown

pub returns-clause-fresh : goal.returns-clause-fresh
returns-clause-fresh c = begins
