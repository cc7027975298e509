-- From a position to the next: the event there is legal, and its node alone goes on.
use Rattle.std.proofs.Common.{◌≡◌, ℕ, zero, suc, List, [], ◌∷◌, map, take, drop, set, Option, Some, None, refl, sym, ap, subst, ◌∙◌, arith}
use Rattle.std.specs.Prelude.{option_map, slice_get}
use Rattle.std.proofs.lemmas.List.{map-set}
use Rattle.std.proofs.lemmas.Option.{slice_get-map}
use Rattle.lib_calls.specs.declared.entry.Entry.{Entry}
use Rattle.call_log.specs.Laws.{FindsEntries}
use Rattle.call_log.specs.Log.{Unread, entry_at}
use Rattle.guest_process.specs.declared.divergence.Divergence.{Divergence}
use Rattle.guest_process.specs.Legal.{reason}
use Rattle.guest_process.specs.Next.{next}
use Rattle.guest_process.specs.OneEvent.{IsKeptByEvents, Rises as AreRising}
use Rattle.guest_process.specs.State.{State}
use Rattle.group_order.specs.Order.{AreMergedOrders, NodeEvent, of_node}
use Rattle.proc_replay.specs.Course.{AreReplays, AreTurns}
use Rattle.proc_replay.specs.Replaying.{Makes, Replaying, after_replay_turn, after_at, move_by, moved, turn, turn_at}
use Rattle.group_state.specs.inside.Stands.{replayers_from}
use Rattle.group_state.specs.Laws.{IsStepOfGroup}
use Rattle.group_state.specs.Place.{AreGroupReplays, ReplaysFit, events_of_replays, states_of_nodes, states_from}
use Rattle.group_state.proofs.TurnsAhead.{made_first}
use Rattle.group_state.proofs.AheadInOrder.{front, own_left, states_at}
use Rattle.group_state.proofs.NodeEvents.{own_first}
use Rattle.group_state.proofs.ReplaysAfter.{both, found, replayers_more}

-- the replay's next entry is legal, and its event is made
record IsMade (r : Replaying) (e : Entry) : Type 0 where
  pub behind : Unread
  pub found : entry_at r.left ≡ Some (e, behind)
  pub legal : reason r.state e ≡ None
  pub goes : (after_replay_turn r).state ≡ next r.state e

-- a turn that makes an event
made : (r : Replaying) (e : Entry) → turn r ≡ Makes e → IsMade r e
made r e makes = by_entry (entry_at r.left) refl
  where
    by_reason : (f : Entry) (behind : Unread) → entry_at r.left ≡ Some (f, behind) → (o : Option Divergence) → reason r.state f ≡ o → IsMade r e
    by_reason f behind is None legal =
        let told : Makes f ≡ Makes e = sym (ap (turn_at r.state) is ∙ ap (move_by r.state f) legal) ∙ makes in
        let same : f ≡ e = cc in
        subst (IsMade r) same (record { behind = behind; found = is; legal = legal; goes = ap (λ (q : Replaying). q.state) (ap (after_at r) is ∙ ap (moved r f behind) legal) })
    by_reason f behind is (Some why) differs =
        let told : move_by r.state f (Some why) ≡ Makes e = sym (ap (turn_at r.state) is ∙ ap (move_by r.state f) differs) ∙ makes in absurd (cc)

    by_entry : (o : Option (Entry × Unread)) → entry_at r.left ≡ o → IsMade r e
    by_entry None none = let told : turn_at r.state None ≡ Makes e = sym (ap (turn_at r.state) none) ∙ makes in absurd (cc)
    by_entry (Some x) is = by_reason x.0 x.1 is (reason r.state x.0) refl

-- what is after a position begins with the event there
at_front : {X : Type 0} (xs : List X) (k : ℕ) (x : X) → slice_get xs k ≡ Some x → drop k xs ≡ x ∷ drop (suc k) xs
at_front [] k x is = absurd (cc)
at_front (y ∷ xs) zero x is = let same : y ≡ x = cc in ap (λ z. z ∷ xs) same
at_front (y ∷ xs) (suc k) x is = at_front xs k x is

-- before the first event each process is as it was
pub none_made : (i : ℕ) (rs : List Replaying) → states_from i rs [] ≡ map (λ (r : Replaying). r.state) rs
none_made i [] = refl
none_made i (r ∷ rs) = both _ _ _ _ refl (none_made (suc i) rs)

module _ (merging : AreMergedOrders Entry) (rising : AreRising) (kept : IsKeptByEvents) (course : AreTurns) (replays : AreReplays) (finds : FindsEntries) where
  pub one_step : (start : List Replaying) → AreGroupReplays start → ReplaysFit start → (k : ℕ) (e : NodeEvent Entry) → slice_get (events_of_replays start) k ≡ Some e → IsStepOfGroup start k e
  one_step start replayers fits k e is =
      let es = take k (events_of_replays start) in
      let left : drop k (events_of_replays start) ≡ e ∷ drop (suc k) (events_of_replays start) = at_front (events_of_replays start) k e is in
      let own = sym (own_left merging rising kept course start fits k e.node) ∙ ap (of_node e.node) left ∙ own_first e.node e (drop (suc k) (events_of_replays start)) refl in
      let f = found (replayers_from 0 start es) e.node e.entry (of_node e.node (drop (suc k) (events_of_replays start))) own in
      let m = made f.replayer e.entry (made_first course f.replayer e.entry (of_node e.node (drop (suc k) (events_of_replays start))) f.ahead_is) in
      let here = states_at merging rising kept course start fits k replays replayers.fresh in
      let there = states_at merging rising kept course start fits (suc k) replays replayers.fresh in
      let more : replayers_from 0 start (take (suc k) (events_of_replays start)) ≡ set (replayers_from 0 start es) e.node (after_replay_turn f.replayer) =
      ap (replayers_from 0 start) (front (events_of_replays start) k e (drop (suc k) (events_of_replays start)) left).more ∙ replayers_more 0 start es e e.node f.replayer (omega arith) f.here in
      record {
        state = f.replayer.state;
        stands = sym (ap (λ states. slice_get states e.node) here) ∙ slice_get-map (λ (r : Replaying). r.state) (replayers_from 0 start es) e.node ∙ ap (option_map (λ (r : Replaying). r.state)) f.here;
        shaped = ((finds f.replayer.left e.entry m.behind).0 m.found).0;
        legal = m.legal;
        after = sym there ∙ ap (map (λ (r : Replaying). r.state)) more ∙ map-set (λ (r : Replaying). r.state) (replayers_from 0 start es) e.node (after_replay_turn f.replayer)
            ∙ ap (λ (states : List State). set states e.node (after_replay_turn f.replayer).state) here ∙ ap (set (states_of_nodes start k) e.node) m.goes;
      }
