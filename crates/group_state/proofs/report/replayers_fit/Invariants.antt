use Rattle.std.proofs.Common.{take}
use Rattle.group_state.specs.Place.{ReplaysFit}
use Rattle.group_state.proofs.report.replayers_fit.Given as goal

abbrev pub invariant-loop-replayer : goal.invariant-loop-replayer
invariant-loop-replayer l = ReplaysFit (take l.replayer-index l.replayers)
