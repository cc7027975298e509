use Rattle.std.proofs.Common.{◌≡◌, Option}
use Rattle.fri_outside.specs.Outside.{Folder}
use Rattle.fri_outside.specs.Several.{with_files}
use Rattle.group_record.specs.Run.{GroupStart}
use Rattle.group_record.specs.Logs.{files_of}
use Rattle.group_record.specs.inside.Begun.{HaveHeads, no_bytes}
use Rattle.group_record.proofs.LogHeads.{heads_to}
use Rattle.group_record.proofs.logs.write_heads.Given as goal

abbrev pub invariant-loop-member : goal.invariant-loop-member
invariant-loop-member g l = record {
  written : (group : GroupStart) (before : Option Folder) → HaveHeads group l.members → g.F.Files.told l.initial.files ≡ with_files (files_of group no_bytes) before
      → g.F.Files.told l.files ≡ with_files (files_of group (heads_to group l.member-index)) before;
  quiet : g.F.Files.counts l.files ≡ g.F.Files.counts l.initial.files;
}
