use Rattle.group_record.proofs.LiveGroups.{live_line, live_states_are}
use Rattle.group_record.proofs.laws.live_groups.Goals as goal

pub returns-clause-states : goal.returns-clause-states
returns-clause-states c = λ group steps live lives. (lives.count, live_states_are group steps live lives)

pub returns-clause-summary : goal.returns-clause-summary
returns-clause-summary c = live_line
