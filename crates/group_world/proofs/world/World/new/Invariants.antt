use Rattle.std.proofs.Common.{◌≡◌, replicate}
use Rattle.group_world.specs.World.{no_surroundings}
use Rattle.group_world.proofs.world.World.new.Given as goal

abbrev pub invariant-loop : goal.invariant-loop
invariant-loop l = l.surroundings.items ≡ replicate l.counter no_surroundings
