use Rattle.play_command.proofs.PlayedIsRecorded.{recorded_as_played}
use Rattle.play_command.proofs.laws.played_is_recorded.Goals as goal

pub returns : goal.returns
returns c = recorded_as_played c.exact_outcome.ensures.schedules c.exact_item_lines.ensures.exact c.exact_item_lines.ensures.follows c.exact_item_lines.ensures.counts
