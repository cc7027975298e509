use Rattle.std.proofs.Common.{◌∙◌, List, length, map, ap, subst, arith}
use Rattle.std.specs.Prelude.{IfSome}
use Rattle.proc_replay.specs.Replaying.{Replaying}
use Rattle.group_state.specs.inside.Turns.{head_of_replay}
use Rattle.group_state.specs.inside.Stands.{IsStand}
use Rattle.group_state.proofs.GroupCopies.{few_replayers, kept_checkpoint}
use Rattle.group_state.proofs.group.Course.go_near.Goals as goal

pub merge_of-requires : goal.merge_of-requires
merge_of-requires c =
    let g = c.args.self.now in
    let i = c.requires in
    let kept = kept_checkpoint g.start.items g.checkpoints.stands.items c.nearest-nearest.result c.nearest-nearest.ensures.among i.kept in
    let is : IsStand g.start.items c.in_ok-stand.stand =
    subst (λ (start : List Replaying). IfSome c.nearest-nearest.result (λ s. IsStand start s.now) → IsStand start c.in_ok-stand.stand) c.deref.ensures.value c.in_ok-stand.ensures.stand kept in
    omega (arith, few_replayers g.start.items c.in_ok-stand.stand is i.replayers.few, ap length c.deref-2.ensures.value)

pub returns-clause-sound : goal.returns-clause-sound
returns-clause-sound c =
    let g = c.args.self.now in
    let i = c.requires in
    let kept = kept_checkpoint g.start.items g.checkpoints.stands.items c.nearest-nearest.result c.nearest-nearest.ensures.among i.kept in
    let is : IsStand g.start.items c.in_ok-stand.stand =
    subst (λ (start : List Replaying). IfSome c.nearest-nearest.result (λ s. IsStand start s.now) → IsStand start c.in_ok-stand.stand) c.deref.ensures.value c.in_ok-stand.ensures.stand kept in
    let low = c.in_ok-stand.ensures.at c.min.result c.nearest-nearest.ensures.at in
    record {
      replayers = i.replayers;
      fits = i.fits;
      few = i.few;
      here = is;
      heads = c.in_ok-merge.ensures ∙ ap (map head_of_replay) c.deref-2.ensures.value;
      kept = i.kept;
      moved = i.moved;
      been = omega (arith, low, c.min.ensures, c.reached.ensures);
    }

pub returns-clause-at : goal.returns-clause-at
returns-clause-at c = let low = c.in_ok-stand.ensures.at c.min.result c.nearest-nearest.ensures.at in omega (arith, low, c.min.ensures)
