use Rattle.expression_text.proofs.ApartLemmas.{none_in}
use Rattle.expression_text.proofs.laws.none_apart.Goals as goal

pub returns : goal.returns
returns c = none_in
