use Rattle.guest_process.proofs.PossibleWorlds.{possible, world_is_there}
use Rattle.guest_process.proofs.laws.possible.Goals as goal

pub returns-clause-event : goal.returns-clause-event
returns-clause-event c = possible c.tags_read_back.ensures.again

pub returns-clause-world : goal.returns-clause-world
returns-clause-world c = world_is_there
