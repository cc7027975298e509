use Rattle.std.proofs.Common.{◌∙◌, ◌++◌, ◌+◌, List, ℕ, ap, drop}
use Rattle.std.specs.List.{flat_map}
use Rattle.group_record.specs.declared.summary.SummaryLine.{SummaryLine}
use Rattle.record_command.specs.Record.{items_line, process_line}
use Rattle.command_run.specs.LineLaws.{all_lines, next_line_joins}
use Rattle.record_command.proofs.summary.print_summary.Goals as goal

pub loop-line-init : goal.loop-line-init
loop-line-init c = ap (λ (t : List ℕ). t ++ flat_map process_line c.deref-line-items.result.now) c.new-text.ensures

pub loop-line-preserved : goal.loop-line-preserved
loop-line-preserved c =
    ap (λ (t : List ℕ). t ++ flat_map process_line (drop (c.loop-line.line-index + 1) c.deref-line-items.result.now)) c.in_ok-push_process_line.ensures
    ∙ next_line_joins process_line c.loop-line.text (flat_map process_line c.deref-line-items.result.now) c.deref-line-items.result.now c.loop-line.line-index c.line-item.result _ c.loop-line-test.true c.line-item.is c.loop-line.invariant

pub returns : goal.returns
returns c =
    c.in_ok-push_items_line.ensures
    ∙ ap (λ (t : List ℕ). t ++ items_line c.args.summary.now.acted c.args.summary.now.idle)
    (all_lines process_line c.loop-line.text (flat_map process_line c.deref-line-items.result.now) c.deref-line-items.result.now c.loop-line.line-index c.loop-line-test.false c.loop-line.invariant
    ∙ ap (λ (lines : List SummaryLine). flat_map process_line lines) c.deref-line-items.ensures.value)
