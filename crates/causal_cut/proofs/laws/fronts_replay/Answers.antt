use Rattle.causal_cut.proofs.CutLogs.{fronts}
use Rattle.causal_cut.proofs.laws.fronts_replay.Goals as goal

pub returns : goal.returns
returns c = fronts c.exact_logs.ensures c.rewritten_is_read.ensures c.accepted_no_longer.ensures
