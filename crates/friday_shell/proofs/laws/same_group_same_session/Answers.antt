use Rattle.friday_shell.proofs.SameAnswers.{same_sessions}
use Rattle.friday_shell.proofs.laws.same_group_same_session.Goals as goal

pub returns : goal.returns
returns c = same_sessions
