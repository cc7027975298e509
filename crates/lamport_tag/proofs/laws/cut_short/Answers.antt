use Rattle.lamport_tag.proofs.CutLemmas.{cut_untagged, cut_found}
use Rattle.lamport_tag.proofs.laws.cut_short.Goals as goal

pub returns-clause-untagged : goal.returns-clause-untagged
returns-clause-untagged c = cut_untagged

pub returns-clause-found : goal.returns-clause-found
returns-clause-found c = cut_found
