use Rattle.std.proofs.Common.{◌≡◌}
use Rattle.fri_outside.specs.Several.{with_files}
use Rattle.group_record.specs.Run.{GroupStart}
use Rattle.group_record.specs.inside.Begun.{HaveHeads}
use Rattle.group_record.proofs.LogHeads.{made_files}
use Rattle.group_record.proofs.logs.create_logs.Given as goal

abbrev pub invariant-loop-member : goal.invariant-loop-member
invariant-loop-member g l = record {
  made : (group : GroupStart) → HaveHeads group l.members → g.F.Files.told l.files ≡ with_files (made_files group l.member-index) (g.F.Files.told l.initial.files);
  quiet : g.F.Files.counts l.files ≡ g.F.Files.counts l.initial.files;
}
