use Rattle.std.proofs.Common.{◌≡◌, map}
use Rattle.group_record.specs.inside.Recorded.{KeepsUpWithRun}
use Rattle.group_record.specs.Run.{GroupStart, RunProgress}
use Rattle.group_record.proofs.ImageFiles.{ImagesTo}
use Rattle.group_record.proofs.images.write_images.Given as goal

abbrev pub invariant-loop-p : goal.invariant-loop-p
invariant-loop-p g l = record {
  made : (group : GroupStart) (done : RunProgress) → KeepsUpWithRun group done l.recorder → group.names ≡ map (λ line. line.name) l.processes
      → ImagesTo group done.steps l.p (g.F.Files.told l.initial.files) (g.F.Files.told l.files);
  quiet : g.F.Files.counts l.files ≡ g.F.Files.counts l.initial.files;
}
