use Rattle.std.proofs.Common.{◌∙◌, List, length, map, ap, arith, subst, sym}
use Rattle.std.proofs.lemmas.List.Elements.{All-nil}
use Rattle.proc_replay.specs.Replaying.{Replaying}
use Rattle.group_order.specs.Motions.{no_motions}
use Rattle.group_state.specs.Place.{ReplaysFit}
use Rattle.group_state.specs.inside.Turns.{head_of_replay}
use Rattle.group_state.specs.inside.Stands.{AreStands, IsStand}
use Rattle.group_state.proofs.GroupCopies.{few_replayers}
use Rattle.group_state.proofs.AheadInOrder.{few_events}
use Rattle.group_state.proofs.NodeMoves.{first_motions}
use Rattle.group_state.proofs.group.Group.begin.Goals as goal

pub merge_of-requires : goal.merge_of-requires
merge_of-requires c =
    let few = few_replayers c.deref.result.now c.in_ok-here.here c.in_ok-here.ensures.stand (omega (arith, c.requires.few, ap length c.deref.ensures.value)) in
    omega (arith, few, ap length c.deref-2.ensures.value)

pub invariant_of-result : goal.invariant_of-result
invariant_of-result c =
    let replayers = c.args.replayers.items in
    record {
      replayers = c.requires;
      fits = subst ReplaysFit c.deref.ensures.value c.in_ok-here.ensures.fits;
      few = few_events c.replays.ensures.turn replayers c.requires.within c.requires.few;
      here = subst (λ (start : List Replaying). IsStand start c.in_ok-here.here) c.deref.ensures.value c.in_ok-here.ensures.stand;
      heads = c.in_ok-merge.ensures ∙ ap (map head_of_replay) c.deref-2.ensures.value;
      kept = subst (AreStands replayers) (sym c.new.ensures) (All-nil (IsStand replayers));
      moved = first_motions replayers c.in_ok-motions.motions (c.in_ok-motions.ensures ∙ ap no_motions (c.len.ensures ∙ c.args.replayers.ok.0));
      been = omega (arith, c.in_ok-here.ensures.at);
    }
