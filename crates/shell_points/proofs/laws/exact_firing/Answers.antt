use Rattle.shell_points.proofs.ExactFiring.{exact}
use Rattle.shell_points.proofs.laws.exact_firing.Goals as goal

pub returns : goal.returns
returns c = exact
