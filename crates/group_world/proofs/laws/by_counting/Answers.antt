use Rattle.group_world.proofs.CountedWorld.{counting}
use Rattle.group_world.proofs.DatagramOrigins.{has_origin}
use Rattle.group_world.proofs.DatagramTurns.{in_turn}
use Rattle.group_world.proofs.laws.by_counting.Goals as goal

pub returns-clause-counted : goal.returns-clause-counted
returns-clause-counted c = counting

pub returns-clause-origin : goal.returns-clause-origin
returns-clause-origin c = has_origin

pub returns-clause-turn : goal.returns-clause-turn
returns-clause-turn c = in_turn
