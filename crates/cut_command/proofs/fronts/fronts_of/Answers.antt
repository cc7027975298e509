use Rattle.std.proofs.Common.{◌∙◌, Some, ap, sym}
use Rattle.std.proofs.lemmas.Option.{slice_get-get_or}
use Rattle.cut_command.proofs.KeptLengths.{one_more}
use Rattle.cut_command.proofs.fronts.fronts_of.Goals as goal

pub loop-node-preserved : goal.loop-node-preserved
loop-node-preserved c =
    let s = c.in-Some-Some in
    let cut = c.args.cut.now in
    let log_at = slice_get-get_or c.args.logs.now c.loop-node.node _ c.loop-node-test.true ∙ ap Some (sym (c.copy-log.ensures ∙ c.index-logs-node.is)) in
    c.in_ok-push.ensures.items ∙ one_more c.args.logs.now cut.kept cut.accepted c.loop-node.node c.copy-log.result s.kept s.accepted log_at (sym s.ensures) (sym s.ensures') _ c.loop-node.invariant
