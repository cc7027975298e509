use Rattle.expression_text.proofs.CutLemmas.{tokens, bad}
use Rattle.expression_text.proofs.laws.exact_cut.Goals as goal

pub returns : goal.returns
returns c = record { tokens = tokens; bad = bad }
