-- The replays at a position have the events ahead that the order has after it.
use Rattle.std.proofs.Common.{◌≡◌, ℕ, zero, suc, ◌+◌, ◌*◌, ◌≤◌, ◌<◌, ◌^◌, true, false, nat_le, inl, inr, List, [], ◌∷◌, ◌++◌, map, length, length-append, take, drop, get_or, set, Some, None, refl, sym, ap, subst, ◌∙◌, add-one, arith, mul-le-mul_right}
use Rattle.std.specs.Prelude.{All, option_map, slice_get}
use Rattle.std.specs.List.{AllByRecursion}
use Rattle.std.proofs.lemmas.Bool.Decides.{leb_tells}
use Rattle.std.proofs.lemmas.List.{length-map}
use Rattle.std.proofs.lemmas.List.Elements.{recursion_from_All}
use Rattle.std.proofs.lemmas.Option.{slice_get-map, slice_get_past, slice_get_read}
use Rattle.lib_calls.specs.declared.entry.Entry.{Entry}
use Rattle.call_log.specs.Limits.{least_entry, most_log}
use Rattle.guest_process.specs.Fits.{StateFits}
use Rattle.guest_process.specs.OneEvent.{IsKeptByEvents, Rises as AreRising}
use Rattle.guest_process.specs.State.{State}
use Rattle.group_order.specs.Heads.{AreNoHeads, IsFirstNode}
use Rattle.group_order.specs.Order.{AreMergedOrders, ClocksRise, IsMergedOrder, NodeEvent, events_from, list_of, node_event, of_node, order_of_events}
use Rattle.proc_replay.specs.Course.{AreReplays, AreTurns, entries_ahead}
use Rattle.proc_replay.specs.Replaying.{Makes, Replaying, after_replay_turn, turn}
use Rattle.group_state.specs.inside.Stands.{replayers_from}
use Rattle.group_state.specs.Place.{ReplaysFit, entry_clock, events_of_replays, node_event_count, states_of_nodes}
use Rattle.group_state.specs.inside.Turns.{head_of_replay}
use Rattle.group_state.proofs.TurnsAhead.{ahead_room, made_first}
use Rattle.group_state.proofs.NodeEvents.{among_own, count_take, length_sort, of_node-drop, sorted_drop}
use Rattle.group_state.proofs.ClocksRise.{IsAboveTag, ahead_rises, ahead_tags}
use Rattle.group_state.proofs.ReplaysAfter.{found, heads_ahead, replayers_ahead, replayers_more, replayers_rise, replayers_states}

-- x is the element at k
pub record Front (X : Type 0) (xs : List X) (k : ℕ) (x : X) : Type 0 where
  pub here : slice_get xs k ≡ Some x
  pub within : k < length xs
  pub more : take (suc k) xs ≡ take k xs ++ x ∷ []

pub front : {X : Type 0} (xs : List X) (k : ℕ) (x : X) (ys : List X) → drop k xs ≡ x ∷ ys → Front X xs k x
front [] zero x ys is = absurd (cc)
front [] (suc k) x ys is = absurd (cc)
front (a ∷ xs) zero x ys is =
    let same : a ≡ x = cc in
    record { here = ap Some same; within = omega arith; more = ap (λ y. y ∷ []) same }
front (a ∷ xs) (suc k) x ys is =
    let f = front xs k x ys is in
    record { here = f.here; within = omega (arith, f.within); more = ap (λ l. a ∷ l) f.more }

no_front : {X : Type 0} (xs : List X) (k : ℕ) → drop k xs ≡ [] → slice_get xs k ≡ None
no_front [] k is = refl
no_front (a ∷ xs) zero is = absurd (cc)
no_front (a ∷ xs) (suc k) is = no_front xs k is

none_past : {X : Type 0} (xs : List X) (k : ℕ) → slice_get xs k ≡ None → length xs ≤ k
none_past [] k is = omega arith
none_past (a ∷ xs) zero is = absurd (cc)
none_past (a ∷ xs) (suc k) is = let below = none_past xs k is in omega (arith, below)

pub none_left : {X : Type 0} (xs : List X) (k : ℕ) → slice_get xs k ≡ None → nat_le (length xs) k ≡ true
none_left xs k is = let past = none_past xs k is in elim (leb_tells (length xs) k) [ inl t ↦ t.0 | inr f ↦ absurd (omega (arith, f.1, past)) ]

pub some_left : {X : Type 0} (xs : List X) (k : ℕ) → k < length xs → nat_le (length xs) k ≡ false
some_left xs k within = elim (leb_tells (length xs) k) [ inl t ↦ absurd (omega (arith, t.1, within)) | inr f ↦ f.0 ]

-- what the turn of the node that comes next gives
pub record Goes (start : List Replaying) (at node : ℕ) : Type 0 where
  pub entry : Entry
  pub replayer : Replaying
  pub here : slice_get (replayers_from 0 start (take at (events_of_replays start))) node ≡ Some replayer
  pub makes : turn replayer ≡ Makes entry
  pub next : slice_get (events_of_replays start) at ≡ Some (node_event node entry)
  pub more : set (replayers_from 0 start (take at (events_of_replays start))) node (after_replay_turn replayer) ≡ replayers_from 0 start (take (at + 1) (events_of_replays start))
  pub within : at < length (events_of_replays start)

module _ (merging : AreMergedOrders Entry) (rising : AreRising) (kept : IsKeptByEvents) where
  all_rise : (rs : List Replaying) → AllByRecursion (λ (r : Replaying). StateFits r.state) rs → AllByRecursion (ClocksRise entry_clock) (map entries_ahead rs)
  all_rise [] fits = tt
  all_rise (r ∷ rs) fits = (ahead_rises rising kept r fits.0, all_rise rs fits.1)

  start_rises : (start : List Replaying) → ReplaysFit start → AllByRecursion (ClocksRise entry_clock) (map entries_ahead start)
  start_rises start fits = all_rise start (recursion_from_All (λ (r : Replaying). StateFits r.state) start fits)

  pub start_merged : (start : List Replaying) → ReplaysFit start → IsMergedOrder entry_clock (map entries_ahead start)
  start_merged start fits = merging entry_clock (map entries_ahead start) (start_rises start fits)

  all_tagged : (rs : List Replaying) (node : ℕ) → AllByRecursion (λ (r : Replaying). StateFits r.state) rs → AllByRecursion IsAboveTag (list_of (map entries_ahead rs) node)
  all_tagged [] node fits = tt
  all_tagged (r ∷ rs) zero fits = ahead_tags rising kept r fits.0
  all_tagged (r ∷ rs) (suc node) fits = all_tagged rs node fits.1

  -- the clock of an event is above that of the tag that it took
  pub tag_below : (start : List Replaying) → ReplaysFit start → (j : ℕ) (x : NodeEvent Entry) → slice_get (events_of_replays start) j ≡ Some x → IsAboveTag x.entry
  tag_below start fits j x is =
      among_own IsAboveTag (events_of_replays start) j x is
      (subst (AllByRecursion IsAboveTag) (sym ((start_merged start fits).is.own x.node))
      (all_tagged start x.node (recursion_from_All (λ (r : Replaying). StateFits r.state) start fits)))

  module _ (course : AreTurns) (start : List Replaying) (fits : ReplaysFit start) (at : ℕ) where
    abbrev pub so_far : List (NodeEvent Entry)
    so_far = take at (events_of_replays start)

    abbrev pub replayers_at : List Replaying
    replayers_at = replayers_from 0 start so_far

    replayers_merged : IsMergedOrder entry_clock (map entries_ahead replayers_at)
    replayers_merged = merging entry_clock (map entries_ahead replayers_at) (replayers_rise course 0 start so_far (start_rises start fits))

    pub own_left : (node : ℕ) → of_node node (drop at (events_of_replays start)) ≡ list_of (map entries_ahead replayers_at) node
    own_left node =
        let same : 0 + node ≡ node = omega arith in
        of_node-drop node at (events_of_replays start)
        ∙ ap (drop (node_event_count node so_far)) ((start_merged start fits).is.own node)
        ∙ ap (λ n. drop (node_event_count n so_far) (list_of (map entries_ahead start) node)) (sym same)
        ∙ sym (replayers_ahead course 0 start so_far node)

    left_order : drop at (events_of_replays start) ≡ order_of_events entry_clock (map entries_ahead replayers_at)
    left_order = replayers_merged.only (drop at (events_of_replays start)) (record { sorted = sorted_drop at (events_of_replays start) (start_merged start fits).is.sorted; own = own_left })

    pub goes : (node : ℕ) → IsFirstNode (map head_of_replay replayers_at) node → Goes start at node
    goes node first =
        let b = replayers_merged.begins node (subst (λ heads. IsFirstNode heads node) (sym (heads_ahead course replayers_at)) first) in
        let f = found replayers_at node b.entry b.rest b.list in
        let x = node_event node b.entry in
        let at_front = front (events_of_replays start) at x _ (left_order ∙ b.order) in
        record {
          entry = b.entry;
          replayer = f.replayer;
          here = f.here;
          makes = made_first course f.replayer b.entry b.rest f.ahead_is;
          next = at_front.here;
          more = sym (ap (λ n. replayers_from 0 start (take n (events_of_replays start))) (add-one at) ∙ ap (replayers_from 0 start) at_front.more ∙ replayers_more 0 start so_far x node f.replayer (omega arith) f.here);
          within = at_front.within;
        }

    pub ends : AreNoHeads (map head_of_replay replayers_at) → slice_get (events_of_replays start) at ≡ None
    ends none = no_front (events_of_replays start) at (left_order ∙ replayers_merged.ends (subst AreNoHeads (sym (heads_ahead course replayers_at)) none))

    pub states_at : AreReplays → All (λ (r : Replaying). r.state.events ≡ 0) start → map (λ (r : Replaying). r.state) replayers_at ≡ states_of_nodes start at
    states_at replays fresh =
        replayers_states replays 0 start so_far (recursion_from_All (λ (r : Replaying). r.state.events ≡ 0) start fresh)
        (λ k. let same : k ≡ 0 + k = omega arith in
        subst (λ n. node_event_count n so_far ≤ length (list_of (map entries_ahead start) k)) same
        (omega (arith, count_take k at (events_of_replays start), ap length ((start_merged start fits).is.own k))))

-- ---- how many events there can be

module _ (course : AreTurns) where
  few_from : (most i : ℕ) (rs : List Replaying) → AllByRecursion (λ (r : Replaying). length r.left.bytes ≤ most) rs → least_entry * length (events_from i (map entries_ahead rs)) ≤ length rs * most
  few_from most i [] small = omega arith
  few_from most i (r ∷ rs) small =
      omega (arith, small.0, ahead_room course r, few_from most (suc i) rs small.1, length-append (map (node_event i) (entries_ahead r)) (events_from (suc i) (map entries_ahead rs)), length-map (entries_ahead r) (node_event i))

  -- logs within their limit have fewer events than a number of 64 bits can count
  pub few_events : (rs : List Replaying) → All (λ (r : Replaying). length r.left.bytes ≤ most_log) rs → length rs ≤ 16 → length (events_of_replays rs) < 2 ^ 64
  few_events rs small few =
      let within = recursion_from_All (λ (r : Replaying). length r.left.bytes ≤ most_log) rs small in
      omega (arith, length_sort (events_from 0 (map entries_ahead rs)), few_from most_log 0 rs within, mul-le-mul_right most_log few)

-- ---- the process of one node

pub state_at : (replayers : List Replaying) (after : List State) (node : ℕ) (p : Replaying) (S : State) → map (λ (r : Replaying). r.state) replayers ≡ after → node < length replayers
    → p ≡ get_or replayers node p → S ≡ p.state → Some S ≡ slice_get after node
state_at replayers after node p S are within p_is S_is =
    ap Some S_is
    ∙ ap (option_map (λ (r : Replaying). r.state)) (sym (slice_get_read replayers (length replayers) node p refl within p_is))
    ∙ sym (slice_get-map (λ (r : Replaying). r.state) replayers node)
    ∙ ap (λ states. slice_get states node) are

pub no_state_at : (replayers : List Replaying) (after : List State) (node : ℕ) → map (λ (r : Replaying). r.state) replayers ≡ after → length replayers ≤ node → None ≡ slice_get after node
no_state_at replayers after node are past = sym (slice_get_past after node (omega (arith, ap length are, length-map replayers (λ (r : Replaying). r.state), past)))
