use Rattle.call_log.proofs.VersionSizes.{no_longer}
use Rattle.call_log.proofs.laws.no_longer.Goals as goal

pub returns : goal.returns
returns c = no_longer
