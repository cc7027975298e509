use Rattle.group_state.proofs.NextPosition.{none_made, one_step}
use Rattle.group_state.proofs.laws.stepwise.Goals as goal

pub returns : goal.returns
returns c = record {
  begins = none_made 0;
  steps = one_step c.merges.ensures c.rises.ensures c.states_fit.ensures.ranges c.replays.ensures.turn c.replays.ensures.course c.exact_logs.ensures.entries;
}
