use Rattle.lamport_tag.proofs.BackLemmas.{found_sendable, found_again}
use Rattle.lamport_tag.proofs.laws.tags_read_back.Goals as goal

pub returns-clause-sent : goal.returns-clause-sent
returns-clause-sent c = found_sendable

pub returns-clause-again : goal.returns-clause-again
returns-clause-again c = found_again
