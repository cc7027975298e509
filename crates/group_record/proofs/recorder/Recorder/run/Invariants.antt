use Rattle.std.proofs.Common.{◌≡◌, ◌+◌, ◌-◌, length, Option}
use Rattle.fri_outside.specs.Outside.{Folder}
use Rattle.group_record.specs.Run.{GroupStart, RunProgress, run_attempts}
use Rattle.group_record.specs.inside.Recorded.{FilesOf, KeepsUpWithRun, RecordingUnderWay, total_counted_tries}
use Rattle.group_record.proofs.RecorderLoops.{ComesTo}
use Rattle.group_record.proofs.recorder.Recorder.run.Given as goal

abbrev pub invariant-loop : goal.invariant-loop
invariant-loop g l = record {
  under : RecordingUnderWay l.self (g.F.Files.told l.files);
  count : length l.self.members.items ≡ length l.initial.self.members.items;
  counted : total_counted_tries l.self ≡ total_counted_tries l.initial.self + l.counter;
  prints : length l.self.prints ≡ length l.initial.self.prints;
  comes : (group : GroupStart) (done : RunProgress) (before : Option Folder) → KeepsUpWithRun group done l.initial.self → FilesOf group done before (g.F.Files.told l.initial.files)
      → ComesTo group l.self before (g.F.Files.told l.files) (run_attempts group l.number l.p l.thread (l.times - l.counter)) (run_attempts group l.number l.p l.thread l.times done);
  quiet : g.F.Files.counts l.files ≡ g.F.Files.counts l.initial.files;
}
