use Rattle.std.proofs.Common.{◌≡◌, ◌<◌, ◌+◌, ◌++◌, ◌∙◌, ℕ, List, [], length, drop, slice_index_or, ap, sym, subst, arith}
use Rattle.std.proofs.lemmas.List.{length-map}
use Rattle.schedule_text.specs.declared.process.ProcessLine.{ProcessLine}
use Rattle.group_record.specs.Answer.{summary_lines}
use Rattle.group_record.specs.Run.{processes_in_group}
use Rattle.group_record.specs.declared.summary.SummaryLine.{SummaryLine}
use Rattle.group_record.proofs.SharedLemmas.{at_place}
use Rattle.group_record.proofs.FirstProcesses.{name_at}
use Rattle.group_record.proofs.SummaryLines.{line_is, lines_next}
use Rattle.group_record.proofs.summary.summary_of.Goals as goal

pub loop-p-preserved : goal.loop-p-preserved
loop-p-preserved c = λ group done keeps named.
    let p = c.loop-p.p in
    let lines = c.args.processes.now in
    let count : length group.names ≡ length lines = ap length named ∙ length-map lines (λ (line : ProcessLine). line.name) in
    let within : p < processes_in_group group = omega (arith, c.loop-p-test.true, count) in
    let at = at_place c.args.recorder.now.members.items p c.index.result.now (omega (arith, c.loop-p-test.true, c.requires.members)) c.index.ensures in
    let name : c.as_slice-name.result.now ≡ slice_index_or group.names p [] =
    c.as_slice-name.ensures ∙ sym (ap (λ (line : ProcessLine). line.name) c.index-processes-p.is) ∙ sym (name_at lines p c.index-processes-p.result [] (at_place lines p c.index-processes-p.result c.loop-p-test.true c.index-processes-p.is))
    ∙ ap (λ (ns : List (List ℕ)). slice_index_or ns p []) (sym named) in
    let line = line_is c.by_counting.ensures.counted group done c.args.recorder.now p c.index.result.now c.as_slice-name.result.now c.is_killed-killed.result c.in_ok-line.field-0 keeps within at c.is_killed-killed.ensures c.in_ok-line.ensures in
    subst (λ (ls : List SummaryLine). summary_lines group done.steps 0 group.names ≡ ls ++ summary_lines group done.steps (p + 1) (drop (p + 1) group.names)) (sym c.in_ok-push.ensures.items)
    (lines_next group done.steps group.names p c.loop-p.lines.items c.in_ok-line.field-0 c.as_slice-name.result.now within name line (c.loop-p.invariant group done keeps named))
