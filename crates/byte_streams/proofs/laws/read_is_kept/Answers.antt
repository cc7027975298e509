use Rattle.byte_streams.proofs.ReadBytes.{read_kept}
use Rattle.byte_streams.proofs.laws.read_is_kept.Goals as goal

pub returns : goal.returns
returns c = read_kept
