use Rattle.std.proofs.Common.{◌≡◌, take}
use Rattle.coop_threads.proofs.crew.Crew.copy.Given as goal

abbrev pub invariant-loop-slot : goal.invariant-loop-slot
invariant-loop-slot g l = l.threads.items ≡ take l.slot-index l.self-inside.threads.items
