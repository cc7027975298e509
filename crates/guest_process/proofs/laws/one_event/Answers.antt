use Rattle.guest_process.proofs.OneEvent.{one_event}
use Rattle.guest_process.proofs.laws.one_event.Goals as goal

pub returns : goal.returns
returns c = one_event c.cut_short.ensures.found c.tags_read_back.ensures.sent
