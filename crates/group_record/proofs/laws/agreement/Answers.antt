use Rattle.group_record.proofs.LogsAgree.{agrees, agrees_cut}
use Rattle.group_record.proofs.laws.agreement.Goals as goal

pub returns-clause-whole : goal.returns-clause-whole
returns-clause-whole c = agrees c.exact_logs.ensures (record {
  one = c.one_event.ensures;
  started = c.states_fit.ensures.started;
  kept = c.states_fit.ensures.ranges;
  rises = c.rises.ensures;
  fresh = c.counting.ensures.begun;
})

pub returns-clause-cut : goal.returns-clause-cut
returns-clause-cut c = agrees_cut c.exact_logs.ensures (record {
  one = c.one_event.ensures;
  started = c.states_fit.ensures.started;
  kept = c.states_fit.ensures.ranges;
  rises = c.rises.ensures;
  fresh = c.counting.ensures.begun;
})
