use Rattle.std.proofs.Common.{◌≡◌, ◌++◌, drop}
use Rattle.std.specs.List.{flat_map}
use Rattle.record_command.specs.Record.{process_line}
use Rattle.record_command.proofs.summary.print_summary.Given as goal

abbrev pub invariant-loop-line : goal.invariant-loop-line
invariant-loop-line l = l.text ++ flat_map process_line (drop l.line-index l.line-items) ≡ flat_map process_line l.line-items
