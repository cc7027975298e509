use Rattle.fri_text.proofs.HexLemmas.{hex_some, hex_none}
use Rattle.fri_text.proofs.laws.exact_hex.Goals as goal

pub returns : goal.returns
returns c = record { some = hex_some; none = hex_none }
