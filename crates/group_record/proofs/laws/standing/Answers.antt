use Rattle.group_record.proofs.RunStands.{stands}
use Rattle.group_record.proofs.laws.standing.Goals as goal

pub returns : goal.returns
returns c = stands (record {
  one = c.one_event.ensures;
  started = c.states_fit.ensures.started;
  kept = c.states_fit.ensures.ranges;
  rises = c.rises.ensures;
  fresh = c.counting.ensures.begun;
})
