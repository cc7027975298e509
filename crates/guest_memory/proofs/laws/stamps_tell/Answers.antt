use Rattle.guest_memory.proofs.StampsTell.{grown, keeps, written}
use Rattle.guest_memory.proofs.laws.stamps_tell.Goals as goal

pub returns-clause-written : goal.returns-clause-written
returns-clause-written c = written

pub returns-clause-grown : goal.returns-clause-grown
returns-clause-grown c = grown

pub returns-clause-pages : goal.returns-clause-pages
returns-clause-pages c = keeps
