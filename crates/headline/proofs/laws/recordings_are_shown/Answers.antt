use Rattle.headline.proofs.RecordingIsShown.{headline}
use Rattle.headline.proofs.laws.recordings_are_shown.Goals as goal

pub returns : goal.returns
returns c =
    headline c.reads_modules.ensures c.exact_outcome.ensures.schedules c.beginning.ensures c.standing.ensures c.recordings_agree.ensures c.ordered.ensures.order c.ordered.ensures.sends c.exact_firing.ensures c.variables_unseen.ensures c.sessions_of_one_group.ensures
