use Rattle.std.proofs.Common.{◌≡◌, ◌++◌, flat_map, take}
use Rattle.schedule_text.specs.Text.{process_text}
use Rattle.schedule_text.proofs.write.push_processes.Given as goal

abbrev pub invariant-loop-line : goal.invariant-loop-line
invariant-loop-line l = l.text ≡ l.initial.text ++ flat_map process_text (take l.line-index l.processes)
