use Rattle.std.proofs.Common.{◌≡◌, ◌++◌, drop}
use Rattle.std.specs.List.{flat_map}
use Rattle.replay_command.specs.Texts.{report_line_text}
use Rattle.replay_command.proofs.report.print_report.Given as goal

abbrev pub invariant-loop-line : goal.invariant-loop-line
invariant-loop-line l = l.text ++ flat_map report_line_text (drop l.line-index l.line-items) ≡ flat_map report_line_text l.line-items
