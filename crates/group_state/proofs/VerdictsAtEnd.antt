-- At the end of a group each replay tells the verdict on its log.
use Rattle.std.proofs.Common.{◌≡◌, ℕ, zero, suc, ◌+◌, ◌≤◌, ◌<◌, List, [], ◌∷◌, length, length-take, map, get_or, take, Option, Some, None, refl, sym, ap, subst, ◌∙◌, arith}
use Rattle.std.specs.Prelude.{option_map, slice_get}
use Rattle.std.proofs.lemmas.List.{take_all}
use Rattle.std.proofs.lemmas.Option.{get_or_from_slice_get, same_Some, slice_get-get_or, slice_get-map, slice_get_past, slice_get_read}
use Rattle.lib_calls.specs.declared.entry.Entry.{Entry}
use Rattle.call_log.specs.Log.{entries_of}
use Rattle.guest_process.specs.declared.divergence.Divergence.{Divergence}
use Rattle.guest_process.specs.Legal.{reason}
use Rattle.guest_process.specs.Next.{next}
use Rattle.guest_process.specs.OneEvent.{IsKeptByEvents, Rises as AreRising}
use Rattle.guest_process.specs.declared.verdict.Verdict.{Verdict}
use Rattle.guest_process.specs.Replay.{ReplayReach, accepted, reach_of_entries, reach_with_entry}
use Rattle.guest_process.specs.State.{State}
use Rattle.group_order.specs.Order.{AreMergedOrders, NodeEvent}
use Rattle.proc_replay.specs.Course.{AreReplays, TellsVerdict, entries_ahead, after_turns}
use Rattle.proc_replay.specs.Replaying.{Replaying, turn}
use Rattle.group_state.specs.Place.{AreGroupReplays, ReplaysFit, events_of_replays, node_event_count}
use Rattle.group_state.specs.Report.{verdict_on}
use Rattle.group_state.specs.inside.Stands.{replayers_from}
use Rattle.group_state.proofs.GroupCopies.{length_replayers}
use Rattle.group_state.proofs.AheadInOrder.{start_merged}

-- ---- no more entries are accepted than there are

then_within : (why : Option Divergence) (rest : ReplayReach) (n : ℕ) → rest.accepted ≤ n → (reach_with_entry why rest).accepted ≤ suc n
then_within None rest n few = omega (arith, few)
then_within (Some why) rest n few = omega arith

accepted_within : (S : State) (es : List Entry) → accepted S es ≤ length es
accepted_within S [] = omega arith
accepted_within S (e ∷ es) = then_within (reason S e) (reach_of_entries (next S e) es) (length es) (accepted_within (next S e) es)

-- so all of them are among those ahead
accepted_ahead : (r : Replaying) → accepted r.state (entries_of r.left) ≤ length (entries_ahead r)
accepted_ahead r =
    let most = accepted r.state (entries_of r.left) in
    omega (arith, length-take most (entries_of r.left), accepted_within r.state (entries_of r.left))

-- ---- the replay of one node

part_at : (i : ℕ) (rs : List Replaying) (es : List (NodeEvent Entry)) (k : ℕ) (r : Replaying) → slice_get rs k ≡ Some r
    → slice_get (replayers_from i rs es) k ≡ Some (after_turns r (node_event_count (i + k) es))
part_at i [] es k r is = absurd (cc)
part_at i (q ∷ rs) es zero r is =
    let same : i ≡ i + 0 = omega arith in
    ap (λ (f : Replaying). Some (after_turns f (node_event_count i es))) (same_Some q r is) ∙ ap (λ n. Some (after_turns r (node_event_count n es))) same
part_at i (q ∷ rs) es (suc k) r is =
    let same : suc i + k ≡ i + suc k = omega arith in
    part_at (suc i) rs es k r is ∙ ap (λ n. Some (after_turns r (node_event_count n es))) same

-- of a node that is there: its replay at position 0, and that the next turn tells the verdict on its log
pub record Told (start : List Replaying) (node : ℕ) (replayer : Replaying) : Type 0 where
  pub first : Replaying
  pub here : slice_get start node ≡ Some first
  pub tells : TellsVerdict (turn replayer) replayer.left.bytes (verdict_on first)

module _ (merging : AreMergedOrders Entry) (rising : AreRising) (kept : IsKeptByEvents) (start : List Replaying) (fits : ReplaysFit start) where
  -- among all events a node has as many as are ahead of its first replay
  own_count : (node : ℕ) (r : Replaying) → slice_get start node ≡ Some r → node_event_count node (events_of_replays start) ≡ length (entries_ahead r)
  own_count node r here =
      let found : slice_get (map entries_ahead start) node ≡ Some (entries_ahead r) = slice_get-map entries_ahead start node ∙ ap (option_map entries_ahead) here in
      ap length ((start_merged merging rising kept start fits).is.own node ∙ get_or_from_slice_get (map entries_ahead start) node (entries_ahead r) [] found)

  -- at the end each replay has had a turn for each of them
  pub told : AreReplays → AreGroupReplays start → (at : ℕ) (replayers : List Replaying) (node : ℕ) (replayer : Replaying) → at ≡ length (events_of_replays start)
      → replayers ≡ replayers_from 0 start (take at (events_of_replays start)) → node < length replayers → replayer ≡ get_or replayers node replayer → Told start node replayer
  told replays begun at replayers node replayer ended are within read =
      let es = take at (events_of_replays start) in
      let among : node < length start = omega (arith, within, ap length are, length_replayers 0 start es) in
      let first = get_or start node replayer in
      let here : slice_get start node ≡ Some first = slice_get-get_or start node replayer among in
      let found : slice_get replayers node ≡ Some replayer = slice_get_read replayers (length replayers) node replayer refl within read in
      let all : es ≡ events_of_replays start = take_all at (events_of_replays start) (omega (arith, ended)) in
      let same : 0 + node ≡ node = omega arith in
      let count : node_event_count (0 + node) es ≡ length (entries_ahead first) =
      ap (λ n. node_event_count n es) same ∙ ap (node_event_count node) all ∙ own_count node first here in
      let turned : replayer ≡ after_turns first (length (entries_ahead first)) =
      same_Some replayer _ (sym found ∙ ap (λ (rs : List Replaying). slice_get rs node) are ∙ part_at 0 start es node first here) ∙ ap (after_turns first) count in
      let tells = (replays first (begun.fresh node replayer among)).verdict (length (entries_ahead first)) (accepted_ahead first) in
      record {
        first = first;
        here = here;
        tells = subst (λ (p : Replaying). TellsVerdict (turn p) p.left.bytes (verdict_on first)) (sym turned) tells;
      }

-- ---- what is said of it

pub said_at : (start : List Replaying) (node : ℕ) (replayer : Replaying) (said : Verdict) → Told start node replayer
    → ((v : Verdict) → TellsVerdict (turn replayer) replayer.left.bytes v → said ≡ v) → Some said ≡ slice_get (map verdict_on start) node
said_at start node replayer said t says =
    ap Some (says (verdict_on t.first) t.tells) ∙ ap (option_map verdict_on) (sym t.here) ∙ sym (slice_get-map verdict_on start node)

pub none_said : (start replayers : List Replaying) (es : List (NodeEvent Entry)) (node : ℕ) → replayers ≡ replayers_from 0 start es → length replayers ≤ node → None ≡ slice_get (map verdict_on start) node
none_said start replayers es node are past =
    let none : length start ≤ node = omega (arith, past, ap length are, length_replayers 0 start es) in
    sym (slice_get-map verdict_on start node ∙ ap (option_map verdict_on) (slice_get_past start node none))
