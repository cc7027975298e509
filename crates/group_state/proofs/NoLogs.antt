-- A group of no logs.
use Rattle.std.proofs.Common.{◌≡◌, ◌∙◌, ◌<◌, ◌^◌, [], None, length, map, take, ap, subst, sym, arith}
use Rattle.std.specs.Prelude.{option_map}
use Rattle.std.proofs.lemmas.List.Elements.{All-nil}
use Rattle.group_order.specs.Motions.{no_motions}
use Rattle.group_state.specs.declared.group.Course.{Course}
use Rattle.group_state.specs.inside.At.{IsSoundCourse}
use Rattle.group_state.specs.inside.Stands.{AreSoundMemories, AreStands, IsStand, replayers_from}
use Rattle.group_state.specs.inside.Turns.{head_of_replay}
use Rattle.group_state.specs.Moves.{event_before, event_of}
use Rattle.group_state.specs.Place.{AreGroupReplays, ReplaysFit, events_of_replays}
use Rattle.group_state.proofs.NodeMoves.{first_motions}

-- nothing is held
pub record HoldsNothing (g : Course) : Type 0 where
  pub start : g.start.items ≡ []
  pub stands : g.checkpoints.stands.items ≡ []
  pub here : g.here.replayers.items ≡ []
  pub at : g.here.at ≡ 0
  pub last : g.here.last ≡ None
  pub heads : g.merge ≡ []
  pub motions : g.motions ≡ no_motions 0

pub sound_without_logs : (g : Course) → HoldsNothing g → IsSoundCourse g
sound_without_logs g none = record {
  replayers = subst AreGroupReplays (sym none.start) (record { few = omega arith; fresh = All-nil _; one = All-nil _; ascends = tt; within = All-nil _ });
  fits = subst ReplaysFit (sym none.start) (All-nil _);
  few = subst (λ rs. length (events_of_replays rs) < 2 ^ 64) (sym none.start) (omega arith);
  here = record {
    replayers = none.here ∙ sym (ap (λ rs. replayers_from 0 rs (take g.here.at (events_of_replays rs))) none.start);
    within = omega (arith, none.at);
    last = ap (option_map event_of) none.last ∙ sym (ap (event_before (events_of_replays g.start.items)) none.at);
    sound = subst AreSoundMemories (sym none.here) (All-nil _);
  };
  heads = none.heads ∙ sym (ap (map head_of_replay) none.here);
  kept = subst (AreStands g.start.items) (sym none.stands) (All-nil (IsStand g.start.items));
  moved = first_motions g.start.items g.motions (none.motions ∙ ap no_motions (sym (ap length none.start)));
  been = omega (arith, none.at);
}
