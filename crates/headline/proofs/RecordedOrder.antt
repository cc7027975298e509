-- The order of recorded events, and the group at each of its positions.
use Rattle.std.proofs.Common.{◌≡◌, ◌≢◌, ◌⊎◌, ◌∙◌, ◌≤◌, ◌+◌, ℕ, zero, suc, Bool, true, false, cond, eqb, inl, inr, List, [], ◌∷◌, length, map, take, slice_get, Some, ap, arith, refl, subst, sym}
use Rattle.std.specs.Prelude.{◌==◌, filter}
use Rattle.std.specs.List.{AllZip}
use Rattle.std.proofs.lemmas.Bool.{eqb-true}
use Rattle.std.proofs.lemmas.Bool.Decides.{eqb_tells}
use Rattle.std.proofs.lemmas.Option.{same_Some}
use Rattle.lib_calls.specs.declared.entry.Entry.{Entry}
use Rattle.group_order.specs.Order.{IsOrder, NodeEvent, list_of, node_event, of_node}
use Rattle.proc_replay.specs.Course.{entries_ahead}
use Rattle.proc_replay.specs.Replaying.{Replaying}
use Rattle.guest_process.specs.State.{State}
use Rattle.group_record.specs.Run.{RunStep, entries_of_steps}
use Rattle.group_state.specs.Laws.{Ordered}
use Rattle.group_state.specs.Place.{ReplaysFit, after_entries, entry_clock, events_of_replays, node_event_count, states_of_nodes, states_from}
use Rattle.headline.specs.Shown.{AreRecordedAt, RecordedRun, ShowsProcess}

-- ---- the replay of a process

pub record Node (run : RecordedRun) (cut : ℕ → List ℕ) (start : List Replaying) (node p : ℕ) : Type 0 where
  pub replay : Replaying
  pub at : slice_get start node ≡ Some replay
  pub shows : ShowsProcess run cut p replay

pub node_at : (run : RecordedRun) (cut : ℕ → List ℕ) (ps : List ℕ) (rs : List Replaying) → AllZip (ShowsProcess run cut) ps rs → (node p : ℕ) → slice_get ps node ≡ Some p → Node run cut rs node p
node_at run cut [] [] shown node p at = cc
node_at run cut (q ∷ ps) (r ∷ rs) shown zero p at =
    record { replay = r; at = refl; shows = subst (λ (n : ℕ). ShowsProcess run cut n r) (same_Some q p at) shown.0 }
node_at run cut (q ∷ ps) (r ∷ rs) shown (suc node) p at =
    let rest = node_at run cut ps rs shown.1 node p at in record { replay = rest.replay; at = rest.at; shows = rest.shows }
node_at run cut [] (r ∷ rs) shown node p at = absurd shown
node_at run cut (q ∷ ps) [] shown node p at = absurd shown

pub aheads : (run : RecordedRun) (cut : ℕ → List ℕ) (ps : List ℕ) (rs : List Replaying) → AllZip (ShowsProcess run cut) ps rs → map entries_ahead rs ≡ map (entries_of_steps run.steps) ps
aheads run cut [] [] shown = refl
aheads run cut (p ∷ ps) (r ∷ rs) shown =
    ap (λ (es : List Entry). es ∷ map entries_ahead rs) shown.0.accepted ∙ ap (λ (lists : List (List Entry)). entries_of_steps run.steps p ∷ lists) (aheads run cut ps rs shown.1)
aheads run cut [] (r ∷ rs) shown = absurd shown
aheads run cut (p ∷ ps) [] shown = absurd shown

-- ---- what a node has

pub list_is : (steps : List RunStep) (ps : List ℕ) (node p : ℕ) → slice_get ps node ≡ Some p → list_of (map (entries_of_steps steps) ps) node ≡ entries_of_steps steps p
list_is steps [] node p at = cc
list_is steps (q ∷ ps) zero p at = ap (entries_of_steps steps) (same_Some q p at)
list_is steps (q ∷ ps) (suc node) p at = list_is steps ps node p at

pub own_is : (steps : List RunStep) (ps : List ℕ) (es : List (NodeEvent Entry)) → IsOrder entry_clock (map (entries_of_steps steps) ps) es → (node p : ℕ) → slice_get ps node ≡ Some p → of_node node es ≡ entries_of_steps steps p
own_is steps ps es order node p at = order.own node ∙ list_is steps ps node p at

fewer : (node k : ℕ) (es : List (NodeEvent Entry)) → node_event_count node (take k es) ≤ node_event_count node es
fewer node zero es = omega arith
fewer node (suc k) [] = omega arith
fewer node (suc k) (e ∷ es) = by_test (e.node == node) (fewer node k es) where
  test : NodeEvent Entry → Bool
  test x = x.node == node

  entry : NodeEvent Entry → Entry
  entry x = x.entry

  by_test : (b : Bool) → length (map entry (filter test (take k es))) ≤ length (map entry (filter test es))
      → length (map entry (cond b (e ∷ filter test (take k es)) (filter test (take k es)))) ≤ length (map entry (cond b (e ∷ filter test es) (filter test es)))
  by_test true rest = omega (arith, rest)
  by_test false rest = rest

-- ---- the states

state_at : (a : ℕ) (rs : List Replaying) (es : List (NodeEvent Entry)) (i : ℕ) (r : Replaying) → slice_get rs i ≡ Some r → slice_get (states_from a rs es) i ≡ Some (after_entries r (node_event_count (a + i) es))
state_at a [] es i r at = cc
state_at a (s ∷ rs) es zero r at =
    let here : a ≡ a + 0 = omega arith in
    ap (λ (n : ℕ). Some (after_entries s (node_event_count n es))) here ∙ ap (λ (s : Replaying). Some (after_entries s (node_event_count (a + 0) es))) (same_Some s r at)
state_at a (s ∷ rs) es (suc i) r at =
    let here : suc a + i ≡ a + suc i = omega arith in
    state_at (suc a) rs es i r at ∙ ap (λ (n : ℕ). Some (after_entries r (node_event_count n es))) here

states_count : (a : ℕ) (rs : List Replaying) (es : List (NodeEvent Entry)) → length (states_from a rs es) ≡ length rs
states_count a [] es = refl
states_count a (r ∷ rs) es = ap suc (states_count (suc a) rs es)

shown_count : (run : RecordedRun) (cut : ℕ → List ℕ) (ps : List ℕ) (rs : List Replaying) → AllZip (ShowsProcess run cut) ps rs → length rs ≡ length ps
shown_count run cut [] [] shown = refl
shown_count run cut (p ∷ ps) (r ∷ rs) shown = ap suc (shown_count run cut ps rs shown.1)
shown_count run cut [] (r ∷ rs) shown = absurd shown
shown_count run cut (p ∷ ps) [] shown = absurd shown

pub are_recorded : (run : RecordedRun) (cut : ℕ → List ℕ) (ps : List ℕ) (start : List Replaying) → AllZip (ShowsProcess run cut) ps start → IsOrder entry_clock (map (entries_of_steps run.steps) ps) (events_of_replays start)
    → (k : ℕ) → AreRecordedAt run ps (events_of_replays start) k (states_of_nodes start k)
are_recorded run cut ps start shown order k = record {
  count = states_count 0 start (take k (events_of_replays start)) ∙ shown_count run cut ps start shown;
  each = λ node p at.
      let n = node_at run cut ps start shown node p at in
      let count = node_event_count node (take k (events_of_replays start)) in
      let here : 0 + node ≡ node = omega arith in (
        after_entries n.replay count,
        state_at 0 start (take k (events_of_replays start)) node n.replay n.at ∙ ap (λ (m : ℕ). Some (after_entries n.replay (node_event_count m (take k (events_of_replays start))))) here,
        n.shows.moments count (omega (arith, fewer node k (events_of_replays start), ap length (own_is run.steps ps (events_of_replays start) order node p at))),
      );
}

-- ---- there is one list of recorded states

-- lists that are as long as another and have the same at each of its places
same_lists : {A : Type 0} (ps : List ℕ) (xs ys : List A) → length xs ≡ length ps → length ys ≡ length ps
    → ((node p : ℕ) → slice_get ps node ≡ Some p → slice_get xs node ≡ slice_get ys node) → xs ≡ ys
same_lists [] [] [] long also same = refl
same_lists (p ∷ ps) (x ∷ xs) (y ∷ ys) long also same =
    ap (λ (z : _). z ∷ xs) (same_Some x y (same 0 p refl)) ∙ ap (λ (zs : List _). y ∷ zs) (same_lists ps xs ys (omega (arith, long)) (omega (arith, also)) (λ node q at. same (suc node) q at))
same_lists [] (x ∷ xs) ys long also same = absurd (omega (arith, long))
same_lists [] [] (y ∷ ys) long also same = absurd (omega (arith, also))
same_lists (p ∷ ps) [] ys long also same = absurd (omega (arith, long))
same_lists (p ∷ ps) (x ∷ xs) [] long also same = absurd (omega (arith, also))

pub one_recorded : (run : RecordedRun) (ps : List ℕ) (order : List (NodeEvent Entry)) (k : ℕ) (some other : List State) → AreRecordedAt run ps order k some → AreRecordedAt run ps order k other → some ≡ other
one_recorded run ps order k some other one two =
    same_lists ps some other one.count two.count
    (λ node p at. let a = one.each node p at in let b = two.each node p at in a.1 ∙ sym a.2 ∙ b.2 ∙ sym b.1)

-- ---- places in the order

pub record Place (es : List (NodeEvent Entry)) (node : ℕ) (e : Entry) : Type 0 where
  pub at : ℕ
  pub is : slice_get es at ≡ Some (node_event node e)

abbrev entry_in : NodeEvent Entry → Entry
entry_in y = y.entry

abbrev is_of : ℕ → NodeEvent Entry → Bool
is_of node y = y.node == node

further_on : (x : NodeEvent Entry) (es : List (NodeEvent Entry)) (node : ℕ) (e : Entry) → Place es node e → Place (x ∷ es) node e
further_on x es node e place = record { at = suc place.at; is = place.is }

-- each event of a node has a place
pub place_of : (es : List (NodeEvent Entry)) (node k : ℕ) (e : Entry) → slice_get (of_node node es) k ≡ Some e → Place es node e
place_of [] node k e at = cc
place_of (x ∷ es) node k e at = by_test (λ k here. further_on x es node e (place_of es node k e here)) (x.node == node) refl k at where
  by_test : ((k : ℕ) → slice_get (of_node node es) k ≡ Some e → Place (x ∷ es) node e) → (b : Bool) → (x.node == node) ≡ b
      → (k : ℕ) → slice_get (map entry_in (cond b (x ∷ filter (is_of node) es) (filter (is_of node) es))) k ≡ Some e → Place (x ∷ es) node e
  by_test later true same zero at = record {
    at = 0;
    is = ap (λ (n : ℕ). Some (node_event n x.entry)) (eqb-true x.node node same) ∙ ap (λ (y : Entry). Some (node_event node y)) (same_Some x.entry e at);
  }
  by_test later true same (suc k) at = later k at
  by_test later false other k at = later k at

equal_test : (n : ℕ) → (n == n) ≡ true
equal_test n = tells (eqb_tells n n) where
  tells : ((eqb n n ≡ true) × (n ≡ n)) ⊎ ((eqb n n ≡ false) × (n ≢ n)) → eqb n n ≡ true
  tells (inl h) = h.0
  tells (inr h) = absurd (h.1 refl)

-- and what is at a place is an event of its node
pub own_of : (es : List (NodeEvent Entry)) (j node : ℕ) (e : Entry) → slice_get es j ≡ Some (node_event node e) → (k : ℕ) × (slice_get (of_node node es) k ≡ Some e)
own_of [] j node e at = cc
own_of (x ∷ es) j node e at = by_test (λ j here. own_of es j node e here) (x.node == node) refl j at where
  same_node : Some x ≡ Some (node_event node e) → (x.node == node) ≡ true
  same_node is = ap (λ (n : ℕ). n == node) (ap (λ (y : NodeEvent Entry). y.node) (same_Some x (node_event node e) is)) ∙ equal_test node

  differ : false ≡ true → ⊥
  differ wrong = cc

  by_test : ((j : ℕ) → slice_get es j ≡ Some (node_event node e) → (k : ℕ) × (slice_get (of_node node es) k ≡ Some e)) → (b : Bool) → (x.node == node) ≡ b → (j : ℕ) → slice_get (x ∷ es) j ≡ Some (node_event node e)
      → (k : ℕ) × (slice_get (map entry_in (cond b (x ∷ filter (is_of node) es) (filter (is_of node) es))) k ≡ Some e)
  by_test later true same zero at = (0, ap (λ (y : NodeEvent Entry). Some y.entry) (same_Some x (node_event node e) at))
  by_test later false other zero at = absurd (differ (sym other ∙ same_node at))
  by_test later true same (suc j) at = let rest = later j at in (suc rest.0, rest.1)
  by_test later false other (suc j) at = later j at

-- ---- the order is that of the recorded events

pub order_is : Ordered → (run : RecordedRun) (cut : ℕ → List ℕ) (ps : List ℕ) (start : List Replaying) → ReplaysFit start → AllZip (ShowsProcess run cut) ps start
    → IsOrder entry_clock (map (entries_of_steps run.steps) ps) (events_of_replays start) × ((es : List (NodeEvent Entry)) → IsOrder entry_clock (map (entries_of_steps run.steps) ps) es → es ≡ events_of_replays start)
order_is ordered run cut ps start fits shown =
    let known = ordered start fits in
    let same = aheads run cut ps start shown in (
      subst (λ (lists : List (List Entry)). IsOrder entry_clock lists (events_of_replays start)) same known.0,
      λ es is. known.1 es (subst (λ (lists : List (List Entry)). IsOrder entry_clock lists es) (sym same) is),
    )
