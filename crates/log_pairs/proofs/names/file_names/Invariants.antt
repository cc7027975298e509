use Rattle.std.proofs.Common.{◌≡◌, map, take}
use Rattle.log_pairs.specs.Pairs.{names_of_pairs}
use Rattle.log_pairs.specs.Meanings.{pair_of}
use Rattle.log_pairs.proofs.names.file_names.Given as goal

abbrev pub invariant-loop-pair : goal.invariant-loop-pair
invariant-loop-pair l = map (λ name. name.now) l.names.items ≡ names_of_pairs (map pair_of (take l.pair-index l.pairs))
