use Rattle.group_state.proofs.UnmetReads.{unmet_stays}
use Rattle.group_state.proofs.laws.unmet_stays.Goals as goal

pub returns : goal.returns
returns c = unmet_stays c.stepwise.ensures.steps c.rises.ensures c.states_fit.ensures.ranges c.unmarked_stays.ensures c.reads_tell.ensures
