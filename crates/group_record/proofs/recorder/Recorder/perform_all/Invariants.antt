use Rattle.std.proofs.Common.{◌≡◌, ◌+◌, length, drop, Option}
use Rattle.std.specs.Prelude.{sum_by}
use Rattle.fri_outside.specs.Outside.{Folder}
use Rattle.group_record.specs.Run.{GroupStart, RunProgress, after_items}
use Rattle.group_record.specs.inside.Recorded.{FilesOf, HasCountsFor, KeepsUpWithRun, RecordingUnderWay, counted_tries_of}
use Rattle.group_record.proofs.RecorderLoops.{ComesTo}
use Rattle.group_record.proofs.recorder.Recorder.perform_all.Given as goal

abbrev pub invariant-loop-item : goal.invariant-loop-item
invariant-loop-item g l = record {
  number : l.number ≡ l.item-index;
  under : RecordingUnderWay l.self (g.F.Files.told l.files);
  count : length l.self.members.items ≡ length l.initial.self.members.items;
  few : HasCountsFor (sum_by counted_tries_of (drop l.item-index l.items)) l.self;
  prints : length l.self.prints ≡ length l.initial.self.prints;
  comes : (group : GroupStart) (done : RunProgress) (before : Option Folder) → KeepsUpWithRun group done l.initial.self → FilesOf group done before (g.F.Files.told l.initial.files)
      → ComesTo group l.self before (g.F.Files.told l.files) (after_items group (l.number + 1) (drop l.item-index l.items)) (after_items group 1 l.items done);
  quiet : g.F.Files.counts l.files ≡ g.F.Files.counts l.initial.files;
}
