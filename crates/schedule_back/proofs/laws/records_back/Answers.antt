use Rattle.schedule_back.proofs.ScheduleRecords.{converse}
use Rattle.schedule_back.proofs.laws.records_back.Goals as goal

pub returns : goal.returns
returns c =
    converse c.exact_logs.ensures c.ordered.ensures.order c.stepwise.ensures c.possible.ensures.event c.legal_numbers.ensures c.states_fit.ensures.ranges c.accepted_no_longer.ensures
