use Rattle.group_record.proofs.DeliveredDatagrams.{delivers}
use Rattle.group_record.proofs.laws.delivery.Goals as goal

pub returns : goal.returns
returns c = delivers (record {
  origin = c.by_counting.ensures.origin;
  turn = c.by_counting.ensures.turn;
  named = c.by_counting.ensures.named;
}) (record {
  one = c.one_event.ensures;
  started = c.states_fit.ensures.started;
  kept = c.states_fit.ensures.ranges;
  rises = c.rises.ensures;
  fresh = c.counting.ensures.begun;
})
