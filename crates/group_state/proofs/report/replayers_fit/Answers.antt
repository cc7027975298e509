use Rattle.std.proofs.Common.{◌<◌, length, subst, ap, arith, rules}
use Rattle.std.proofs.lemmas.List.Elements.{All-more}
use Rattle.guest_process.specs.Fits.{StateFits}
use Rattle.proc_replay.specs.Replaying.{Replaying}
use Rattle.group_state.proofs.report.replayers_fit.Goals as goal

pub loop-replayer-preserved : goal.loop-replayer-preserved
loop-replayer-preserved c =
    let at = c.loop-replayer.replayer-index in
    let within : at < length c.args.replayers.now = omega arith in
    let same = ap (λ (r : Replaying). r.state) c.replayer-item.is in
    All-more (λ (r : Replaying). StateFits r.state) c.args.replayers.now at c.replayer-item.result within c.loop-replayer.invariant (subst StateFits same (search rules))
