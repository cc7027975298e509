-- The replays of a group after the first of its events.
use Rattle.std.proofs.Common.{◌≡◌, ℕ, zero, suc, ◌+◌, ◌≤◌, ◌<◌, List, [], ◌∷◌, ◌++◌, map, length, length-take, drop, set, Some, refl, sym, ap, subst, ◌∙◌, arith}
use Rattle.std.specs.Prelude.{slice_get}
use Rattle.std.specs.List.{AllByRecursion}
use Rattle.std.proofs.lemmas.Option.{same_Some}
use Rattle.call_log.specs.Log.{entries_of}
use Rattle.lib_calls.specs.declared.entry.Entry.{Entry}
use Rattle.guest_process.specs.Replay.{accepted}
use Rattle.group_order.specs.Order.{ClocksRise, NodeEvent, first_clocks, list_of}
use Rattle.proc_replay.specs.Course.{AreReplays, AreTurns, entries_ahead, after_turns}
use Rattle.proc_replay.specs.Replaying.{Replaying, after_replay_turn}
use Rattle.group_state.specs.inside.Stands.{replayers_from}
use Rattle.group_state.specs.Place.{entry_clock, node_event_count, states_from}
use Rattle.group_state.specs.inside.Turns.{head_of_replay}
use Rattle.group_state.proofs.TurnsAhead.{ahead_turns, drop_none, head_ahead, turns_more}
use Rattle.group_state.proofs.NodeEvents.{count_other, count_own}
use Rattle.group_state.proofs.ClocksRise.{rises_drop}

pub replayers_none : (i : ℕ) (rs : List Replaying) → replayers_from i rs [] ≡ rs
replayers_none i [] = refl
replayers_none i (r ∷ rs) = ap (λ l. r ∷ l) (replayers_none (suc i) rs)

pub both : {X : Type 0} (x y : X) (xs ys : List X) → x ≡ y → xs ≡ ys → x ∷ xs ≡ y ∷ ys
both x y xs ys same rest = λ i. same i ∷ rest i

-- one event more gives its node a turn, and the others none
replayers_other : (i : ℕ) (rs : List Replaying) (es : List (NodeEvent Entry)) (x : NodeEvent Entry) → x.node < i → replayers_from i rs (es ++ x ∷ []) ≡ replayers_from i rs es
replayers_other i [] es x below = refl
replayers_other i (r ∷ rs) es x below =
    both _ _ _ _ (ap (after_turns r) (count_other i es x (λ same. omega (arith, same, below)))) (replayers_other (suc i) rs es x (omega arith))

pub replayers_more : (i : ℕ) (rs : List Replaying) (es : List (NodeEvent Entry)) (x : NodeEvent Entry) (k : ℕ) (p : Replaying) → x.node ≡ i + k
    → slice_get (replayers_from i rs es) k ≡ Some p → replayers_from i rs (es ++ x ∷ []) ≡ set (replayers_from i rs es) k (after_replay_turn p)
replayers_more i [] es x k p at is = absurd (cc)
replayers_more i (r ∷ rs) es x zero p at is =
    both _ _ _ _ (ap (after_turns r) (count_own i es x (omega arith)) ∙ turns_more (node_event_count i es) r ∙ ap after_replay_turn (same_Some _ _ is)) (replayers_other (suc i) rs es x (omega arith))
replayers_more i (r ∷ rs) es x (suc k) p at is =
    both _ _ _ _ (ap (after_turns r) (count_other i es x (λ same. omega (arith, same, at)))) (replayers_more (suc i) rs es x k p (omega arith) is)

-- a replay that has something ahead
pub record Found (replayers : List Replaying) (node : ℕ) (e : Entry) (es : List Entry) : Type 0 where
  pub replayer : Replaying
  pub here : slice_get replayers node ≡ Some replayer
  pub ahead_is : entries_ahead replayer ≡ e ∷ es

pub found : (replayers : List Replaying) (node : ℕ) (e : Entry) (es : List Entry) → list_of (map entries_ahead replayers) node ≡ e ∷ es → Found replayers node e es
found [] node e es is = absurd (cc)
found (p ∷ replayers) zero e es is = record { replayer = p; here = refl; ahead_is = is }
found (p ∷ replayers) (suc node) e es is = let f = found replayers node e es is in record { replayer = f.replayer; here = f.here; ahead_is = f.ahead_is }

module _ (course : AreTurns) where
  pub replayers_ahead : (i : ℕ) (rs : List Replaying) (es : List (NodeEvent Entry)) (k : ℕ)
      → list_of (map entries_ahead (replayers_from i rs es)) k ≡ drop (node_event_count (i + k) es) (list_of (map entries_ahead rs) k)
  replayers_ahead i [] es k = sym (drop_none (node_event_count (i + k) es))
  replayers_ahead i (r ∷ rs) es zero =
      let same : i ≡ i + 0 = omega arith in ahead_turns course (node_event_count i es) r ∙ ap (λ n. drop (node_event_count n es) (entries_ahead r)) same
  replayers_ahead i (r ∷ rs) es (suc k) =
      let same : suc i + k ≡ i + suc k = omega arith in replayers_ahead (suc i) rs es k ∙ ap (λ n. drop (node_event_count n es) (list_of (map entries_ahead rs) k)) same

  pub replayers_rise : (i : ℕ) (rs : List Replaying) (es : List (NodeEvent Entry)) → AllByRecursion (ClocksRise entry_clock) (map entries_ahead rs)
      → AllByRecursion (ClocksRise entry_clock) (map entries_ahead (replayers_from i rs es))
  replayers_rise i [] es rise = tt
  replayers_rise i (r ∷ rs) es rise =
      (subst (ClocksRise entry_clock) (sym (ahead_turns course (node_event_count i es) r)) (rises_drop (node_event_count i es) (entries_ahead r) rise.0), replayers_rise (suc i) rs es rise.1)

  pub heads_ahead : (rs : List Replaying) → first_clocks entry_clock (map entries_ahead rs) ≡ map head_of_replay rs
  heads_ahead [] = refl
  heads_ahead (r ∷ rs) = both _ _ _ _ (sym (head_ahead course r)) (heads_ahead rs)

module _ (replays : AreReplays) where
  -- the processes are those after as many entries as there are events
  pub replayers_states : (i : ℕ) (rs : List Replaying) (es : List (NodeEvent Entry)) → AllByRecursion (λ (r : Replaying). r.state.events ≡ 0) rs
      → ((k : ℕ) → node_event_count (i + k) es ≤ length (list_of (map entries_ahead rs) k)) → map (λ (r : Replaying). r.state) (replayers_from i rs es) ≡ states_from i rs es
  replayers_states i [] es fresh few = refl
  replayers_states i (r ∷ rs) es fresh few =
      let node : i + 0 ≡ i = omega arith in
      let first : node_event_count i es ≤ length (entries_ahead r) = subst (λ n. node_event_count n es ≤ length (entries_ahead r)) node (few 0) in
      let within : node_event_count i es ≤ accepted r.state (entries_of r.left) =
      omega (arith, first, length-take (accepted r.state (entries_of r.left)) (entries_of r.left)) in
      both _ _ _ _ ((replays r fresh.0).states (node_event_count i es) within)
      (replayers_states (suc i) rs es fresh.1 (λ k. let same : i + suc k ≡ suc i + k = omega arith in subst (λ n. node_event_count n es ≤ length (list_of (map entries_ahead rs) k)) same (few (suc k))))
