use Rattle.std.proofs.Common.{rules}
use Rattle.schedule_back.proofs.draft.are_bytes.Goals as goal

pub returns : goal.returns
returns c = λ i. search rules
