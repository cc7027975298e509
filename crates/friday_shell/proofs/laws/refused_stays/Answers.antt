use Rattle.friday_shell.proofs.RefusalStays.{stays}
use Rattle.friday_shell.proofs.laws.refused_stays.Goals as goal

pub returns : goal.returns
returns c = stays
