use Rattle.std.proofs.Common.{◌<◌, length, subst, ap, arith, rules}
use Rattle.std.proofs.lemmas.List.Elements.{All-more}
use Rattle.std.proofs.lemmas.Grind.{common_steps}
use Rattle.guest_memory.specs.Memory.{IsMemory}
use Rattle.guest_process.specs.Fits.{StateFits}
use Rattle.guest_process.specs.State.{State}
use Rattle.proc_replay.specs.Replaying.{Replaying}
use Rattle.group_state.proofs.stand.copy_replayers.Goals as goal

pub loop-replayer-preserved : goal.loop-replayer-preserved
loop-replayer-preserved c =
    let at = c.loop-replayer.replayer-index in
    let within : at < length c.args.replayers.now = omega arith in
    let same = ap (λ (r : Replaying). r.state) c.replayer-item.is in
    record {
      copied = grind (arith, common_steps);
      fits = All-more (λ (r : Replaying). StateFits r.state) c.args.replayers.now at c.replayer-item.result within c.loop-replayer.invariant.fits (subst StateFits same (search rules));
      sound = All-more (λ (r : Replaying). IsMemory r.state.store.memory) c.args.replayers.now at c.replayer-item.result within c.loop-replayer.invariant.sound (subst (λ (S : State). IsMemory S.store.memory) same (search rules));
    }
