use Rattle.headline.proofs.LeftIsShown.{left_is_shown_so}
use Rattle.headline.proofs.laws.left_is_shown.Goals as goal

pub returns : goal.returns
returns c = left_is_shown_so c.recordings_are_shown.ensures c.recordings_leave_logs.ensures c.recordings_stand.ensures
