use Rattle.std.proofs.Common.{◌≡◌, ◌++◌, drop, map}
use Rattle.group_record.specs.Answer.{summary_lines}
use Rattle.group_record.specs.inside.Recorded.{KeepsUpWithRun}
use Rattle.group_record.specs.Run.{GroupStart, RunProgress}
use Rattle.group_record.proofs.summary.summary_of.Given as goal

abbrev pub invariant-loop-p : goal.invariant-loop-p
invariant-loop-p l = (group : GroupStart) (done : RunProgress) → KeepsUpWithRun group done l.recorder → group.names ≡ map (λ line. line.name) l.processes
    → summary_lines group done.steps 0 group.names ≡ l.lines.items ++ summary_lines group done.steps l.p (drop l.p group.names)
