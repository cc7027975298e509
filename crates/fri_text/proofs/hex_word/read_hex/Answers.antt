use Rattle.std.proofs.Common.{rules}
use Rattle.fri_text.proofs.HexLemmas.{has_bytes}
use Rattle.fri_text.proofs.hex_word.read_hex.Goals as goal

pub returns-in-Err : goal.returns-in-Err
returns-in-Err c = has_bytes c.args.word.now (search rules) (search rules)
