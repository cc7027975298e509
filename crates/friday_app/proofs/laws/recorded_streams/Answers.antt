use Rattle.friday_app.proofs.RecordedStreams.{recorded_streams}
use Rattle.friday_app.proofs.laws.recorded_streams.Goals as goal

pub returns : goal.returns
returns c = recorded_streams c.fronts_count.ensures.strange
