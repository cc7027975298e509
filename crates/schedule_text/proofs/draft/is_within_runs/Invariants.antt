use Rattle.std.proofs.Common.{◌≡◌, ◌+◌, take}
use Rattle.schedule_text.specs.Schedule.{run_count}
use Rattle.schedule_text.specs.Limits.{most_runs}
use Rattle.schedule_text.proofs.draft.is_within_runs.Given as goal

abbrev pub invariant-loop-item : goal.invariant-loop-item
invariant-loop-item l = l.left + run_count (take l.item-index l.items) ≡ most_runs
