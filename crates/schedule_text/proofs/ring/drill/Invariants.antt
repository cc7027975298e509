use Rattle.std.proofs.Common.{◌≡◌, ◌++◌, flat_map}
use Rattle.std.specs.List.{range_with_len}
use Rattle.schedule_text.specs.Drill.{drill_round, drill_start}
use Rattle.schedule_text.proofs.ring.drill.Given as goal

abbrev pub invariant-loop-done : goal.invariant-loop-done
invariant-loop-done l = l.items.items ≡ drill_start ++ flat_map drill_round (range_with_len 1 l.done)
