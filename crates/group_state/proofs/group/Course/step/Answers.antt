use Rattle.std.proofs.Common.{◌∙◌, ◌+◌, length, map, take, subst, sym, ap, refl, arith, slice_set}
use Rattle.group_order.specs.Heads.{AreNoHeads}
use Rattle.guest_memory.specs.Memory.{IsMemory}
use Rattle.guest_process.specs.State.{State}
use Rattle.group_state.specs.Place.{events_of_replays}
use Rattle.group_state.specs.inside.Turns.{head_of_replay}
use Rattle.group_state.proofs.GroupCopies.{length_replayers}
use Rattle.group_state.proofs.AheadInOrder.{ends}
use Rattle.group_state.proofs.GroupSteps.{forwarded, given, is_event, stands_on}
use Rattle.group_state.proofs.NodeMoves.{length_motions, moved_on}
use Rattle.group_order.specs.Order.{node_event}
use Rattle.group_state.proofs.group.Course.step.Goals as goal

pub returns-in_default-clause-sound : goal.returns-in_default-clause-sound
returns-in_default-clause-sound c = c.requires

pub returns-in_default-clause-moves : goal.returns-in_default-clause-moves
returns-in_default-clause-moves c =
    let g = c.args.self.now in
    let i = c.requires in
    record {
      gives = sym (ends c.merges.ensures c.rises.ensures c.states_fit.ensures.ranges c.replays.ensures.turn g.start.items i.fits g.here.at
          (subst AreNoHeads (i.heads ∙ ap (map head_of_replay) i.here.replayers) c.in_default.ensures.next));
      place = refl;
    }

pub index-replayer-requires : goal.index-replayer-requires
index-replayer-requires c =
    let g = c.args.self.now in
    let i = c.requires in
    let f = forwarded c.merges.ensures c.rises.ensures c.states_fit.ensures.ranges c.replays.ensures.turn g.start.items _ _ _ g.here.at _ _ c.index.result.now
    i.fits i.here.replayers i.heads c.in-Some.ensures.next c.index.ensures c.peek-turn.ensures c.in_ok-take_turn.ensures in
    omega (arith, f.fits)

pub unreachable-requires : goal.unreachable-requires
unreachable-requires c =
    let g = c.args.self.now in
    let i = c.requires in
    let f = forwarded c.merges.ensures c.rises.ensures c.states_fit.ensures.ranges c.replays.ensures.turn g.start.items _ _ _ g.here.at _ _ c.index.result.now
    i.fits i.here.replayers i.heads c.in-Some.ensures.next c.index.ensures c.peek-turn.ensures c.in_ok-take_turn.ensures in
    is_event c.peek-turn.result f.entry f.told c.in_default-turn.not-Event

pub overflow_add-self : goal.overflow_add-self
overflow_add-self c =
    let g = c.args.self.now in
    let i = c.requires in
    let f = forwarded c.merges.ensures c.rises.ensures c.states_fit.ensures.ranges c.replays.ensures.turn g.start.items _ _ _ g.here.at _ _ c.index.result.now
    i.fits i.here.replayers i.heads c.in-Some.ensures.next c.index.ensures c.peek-turn.ensures c.in_ok-take_turn.ensures in
    omega (arith, f.within, i.few)

pub add-requires : goal.add-requires
add-requires c =
    let g = c.args.self.now in
    let i = c.requires in
    let f = forwarded c.merges.ensures c.rises.ensures c.states_fit.ensures.ranges c.replays.ensures.turn g.start.items _ _ _ g.here.at _ _ c.index.result.now
    i.fits i.here.replayers i.heads c.in-Some.ensures.next c.index.ensures c.peek-turn.ensures c.in_ok-take_turn.ensures in
    omega (
      arith,
      f.fits,
      ap length f.stand,
      length_replayers 0 g.start.items (take (g.here.at + 1) (events_of_replays g.start.items)),
      ap length i.moved.lists,
      length_motions 0 g.start.items (take g.motions.reached (events_of_replays g.start.items)),
    )

pub returns-clause-sound : goal.returns-clause-sound
returns-clause-sound c =
    let g = c.args.self.now in
    let i = c.requires in
    let f = forwarded c.merges.ensures c.rises.ensures c.states_fit.ensures.ranges c.replays.ensures.turn g.start.items _ _ _ g.here.at _ _ c.index.result.now
    i.fits i.here.replayers i.heads c.in-Some.ensures.next c.index.ensures c.peek-turn.ensures c.in_ok-take_turn.ensures in
    let sound = f.sound i.here.sound c.index-replayer.result.now c.index-replayer.ensures (subst IsMemory (c.memory.ensures ∙ ap (λ (S : State). S.store.memory) c.process.ensures) c.size.ensures.sound) in
    let moved = moved_on g.start.items g.motions c.add.new.self g.here.at (node_event c.in-Some.node f.entry) i.moved i.been f.next f.within
    (omega (arith, f.fits, ap length f.stand, length_replayers 0 g.start.items (take (g.here.at + 1) (events_of_replays g.start.items)))) c.in_ok-add.ensures in
    record {
      replayers = i.replayers;
      fits = i.fits;
      few = i.few;
      here = stands_on _ _ _ _ _ _ _ _ _ f c.in-Event.is refl refl refl sound;
      heads = c.set_head.ensures ∙ ap (λ h. slice_set g.merge c.in-Some.node h) c.head_of-head.ensures ∙ f.merged c.index-replayer.result.now c.index-replayer.ensures;
      moved = moved.are;
      been = moved.been;
      kept = c.keep.ensures g.start.items i.kept (stands_on _ _ _ _ _ _ _ _ _ f c.in-Event.is refl refl refl sound);
    }

pub returns-clause-moves : goal.returns-clause-moves
returns-clause-moves c =
    let g = c.args.self.now in
    let i = c.requires in
    let f = forwarded c.merges.ensures c.rises.ensures c.states_fit.ensures.ranges c.replays.ensures.turn g.start.items _ _ _ g.here.at _ _ c.index.result.now
    i.fits i.here.replayers i.heads c.in-Some.ensures.next c.index.ensures c.peek-turn.ensures c.in_ok-take_turn.ensures in
    (record { gives = given _ _ _ _ _ _ _ c.in-Event.entry f c.in-Event.is; place = refl })
