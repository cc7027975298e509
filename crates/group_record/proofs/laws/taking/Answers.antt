use Rattle.group_record.proofs.EventTakes.{draws, takes_waiting}
use Rattle.group_record.proofs.laws.taking.Goals as goal

pub returns-clause-datagrams : goal.returns-clause-datagrams
returns-clause-datagrams c = takes_waiting (record {
  one = c.one_event.ensures;
  started = c.states_fit.ensures.started;
  kept = c.states_fit.ensures.ranges;
  rises = c.rises.ensures;
  fresh = c.counting.ensures.begun;
})

pub returns-clause-bytes : goal.returns-clause-bytes
returns-clause-bytes c = draws (record {
  one = c.one_event.ensures;
  started = c.states_fit.ensures.started;
  kept = c.states_fit.ensures.ranges;
  rises = c.rises.ensures;
  fresh = c.counting.ensures.begun;
})
