use Rattle.std.proofs.Common.{◌≡◌, ◌∙◌, ap, length, sym}
use Rattle.std.proofs.lemmas.List.{length-map}
use Rattle.cut_command.specs.inside.Meanings.{log_of_replay}
use Rattle.cut_command.proofs.KeptLengths.{fit_logs}
use Rattle.cut_command.proofs.past.least_fronts.Goals as goal

pub fronts_of-requires-clause-kept : goal.fronts_of-requires-clause-kept
fronts_of-requires-clause-kept c =
    let logs : length c.deref-2.result.now ≡ length c.args.replayers.items =
    ap length (c.deref-2.ensures.value ∙ c.in_ok-logs.ensures) ∙ length-map c.deref.result.now log_of_replay ∙ ap length c.deref.ensures.value in
    (fit_logs c.args.replayers.items c.args.node c.args.event c.in_ok-cut.cut c.in_ok-cut.ensures.answer c.in_ok-cut.ensures.least).kept ∙ sym logs
