use Rattle.schedule_back.proofs.FirstVerdict.{WholeUpTo}
use Rattle.schedule_back.proofs.back.first_not_whole.Given as goal

abbrev pub invariant-loop-node : goal.invariant-loop-node
invariant-loop-node l = WholeUpTo l.group.start l.node
