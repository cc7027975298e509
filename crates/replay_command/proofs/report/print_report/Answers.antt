use Rattle.std.proofs.Common.{◌∙◌, ◌++◌, ◌+◌, List, ℕ, ap, drop}
use Rattle.std.specs.List.{flat_map}
use Rattle.replay_command.specs.Texts.{report_line_text}
use Rattle.command_run.specs.LineLaws.{next_line_joins}
use Rattle.replay_command.proofs.report.print_report.Goals as goal

pub loop-line-preserved : goal.loop-line-preserved
loop-line-preserved c =
    ap (λ (t : List ℕ). t ++ flat_map report_line_text (drop (c.loop-line.line-index + 1) c.deref-line-items.result.now)) c.in_ok-push_line.ensures
    ∙ next_line_joins report_line_text c.loop-line.text (flat_map report_line_text c.deref-line-items.result.now) c.deref-line-items.result.now c.loop-line.line-index c.line-item.result _ c.loop-line-test.true c.line-item.is c.loop-line.invariant
