use Rattle.guest_module.proofs.Starts.{same_lookup}
use Rattle.guest_module.proofs.laws.types_agree.Goals as goal

pub returns : goal.returns
returns c = λ m f imports. same_lookup m f imports
