use Rattle.expression_text.proofs.ReadingLemmas.{expressions, begins_is, dotted_is, viable_is, word_ends}
use Rattle.expression_text.proofs.laws.exact_reading.Goals as goal

pub returns : goal.returns
returns c = record { expressions = expressions; begins = begins_is; viable = viable_is; dotted = dotted_is; ended = word_ends }
