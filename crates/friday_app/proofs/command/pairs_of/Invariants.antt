use Rattle.std.proofs.Common.{◌≡◌, ◌++◌, map, option_map, length}
use Rattle.friday_app.specs.Command.{pairs_of}
use Rattle.log_pairs.specs.Meanings.{pair_of}
use Rattle.friday_app.proofs.command.pairs_of.Given as goal

abbrev pub invariant-pairs : goal.invariant-pairs
invariant-pairs l =
    option_map (λ later. map pair_of l.pairs.items ++ later) (pairs_of (map (λ name. name.now) l.left)) ≡ pairs_of (map (λ name. name.now) l.names)

abbrev pub decreases-pairs : goal.decreases-pairs
decreases-pairs l = length l.left
