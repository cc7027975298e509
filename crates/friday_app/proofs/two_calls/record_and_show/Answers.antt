use Rattle.friday_app.proofs.SecondCall.{shows_recorded}
use Rattle.friday_app.proofs.two_calls.record_and_show.Goals as goal

pub returns-in-Done-clause-shown : goal.returns-in-Done-clause-shown
returns-in-Done-clause-shown g c =
    shows_recorded c.exact_outcome.ensures.schedules _ _ _ _ _ _ _ c.friday.ensures.run c.in-Done.is c.friday-in-Done.ensures.run

pub returns-in-Done-clause-stopped : goal.returns-in-Done-clause-stopped
returns-in-Done-clause-stopped g c = tt

pub returns-in_default-clause-shown : goal.returns-in_default-clause-shown
returns-in_default-clause-shown g c = tt

pub returns-in_default-clause-stopped : goal.returns-in_default-clause-stopped
returns-in_default-clause-stopped g c = c.in_default.not-Done
