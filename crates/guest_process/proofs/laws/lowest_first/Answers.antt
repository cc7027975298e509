use Rattle.guest_process.proofs.OneEvent.{lowest_first}
use Rattle.guest_process.proofs.laws.lowest_first.Goals as goal

pub returns : goal.returns
returns c = lowest_first c.cut_short.ensures.found c.tags_read_back.ensures.sent
