use Rattle.std.proofs.Common.{◌≡◌, map, take}
use Rattle.proc_replay.specs.Replaying.{Replaying}
use Rattle.causal_cut.proofs.asks.process_numbers.Given as goal

abbrev pub invariant-loop-replayer : goal.invariant-loop-replayer
invariant-loop-replayer l = l.numbers.items ≡ map (λ (r : Replaying). r.head.process) (take l.replayer-index l.replayers)
