use Rattle.std.proofs.Common.{ap, sym}
use Rattle.friday_app.proofs.StoppedCall.{left_on_files}
use Rattle.friday_app.proofs.stopped_call.friday_stopped.Goals as goal

pub returns : goal.returns
returns g c = record {
  left = left_on_files _ _ _ _ _ _ (ap g.F.Files.told (sym c.new-stopped.ensures.files)) (ap g.F.Files.told c.into_files.ensures) c.friday-status.ensures.run;
}
