use Rattle.byte_streams.proofs.ReadBytes.{unsent_free}
use Rattle.byte_streams.proofs.laws.unsent_is_free.Goals as goal

pub returns : goal.returns
returns c = unsent_free
