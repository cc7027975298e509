use Rattle.std.proofs.Common.{◌≡◌, length}
use Rattle.std.specs.Prelude.{⊤, Ok}
use Rattle.command_run.specs.Call.{CountsFaults}
use Rattle.replay_command.proofs.ReplayImages.{AreMade}
use Rattle.replay_command.proofs.replaying.write_images.Given as goal

abbrev pub invariant-images : goal.invariant-images
invariant-images g l =
    AreMade l.initial.reporter (g.F.Files.told l.initial.files) l.reporter (g.F.Files.told l.files)
    × CountsFaults {T = ⊤} (g.F.Files.counts l.initial.files) (g.F.Files.counts l.files) (Ok tt)
    × ((g.F.Files.counts l.files).asked ≡ (g.F.Files.counts l.initial.files).asked)

abbrev pub decreases-images : goal.decreases-images
decreases-images g l = length l.reporter.left
