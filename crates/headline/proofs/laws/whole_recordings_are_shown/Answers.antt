use Rattle.headline.proofs.WholeRecordings.{whole_recordings}
use Rattle.headline.proofs.laws.whole_recordings_are_shown.Goals as goal

pub returns : goal.returns
returns c = whole_recordings c.recordings_are_shown.ensures
