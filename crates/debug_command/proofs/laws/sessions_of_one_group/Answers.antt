use Rattle.debug_command.proofs.SameSessions.{same_outcomes}
use Rattle.debug_command.proofs.laws.sessions_of_one_group.Goals as goal

pub returns : goal.returns
returns c = same_outcomes c.same_group_same_session.ensures
