use Rattle.schedule_text.proofs.TextLemmas.{text_spells, text_read}
use Rattle.schedule_text.proofs.laws.written_is_read.Goals as goal

pub returns-clause-spells : goal.returns-clause-spells
returns-clause-spells c = text_spells c.words_read_back.ensures c.exact_hex.ensures

pub returns-clause-read : goal.returns-clause-read
returns-clause-read c = text_read c.words_read_back.ensures c.exact_hex.ensures
