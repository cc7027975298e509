-- What marks tell of the states of a group.
use Rattle.std.proofs.Common.{◌≡◌, ◌<◌, ◌≤◌, ℕ, zero, suc, ◌+◌, ◌-◌, ◌*◌, ◌/◌, ◌==◌, ◌&&◌, Bool, true, false, cond, List, [], ◌∷◌, length, map, get_or, take, drop, Option, Some, None, inl, inr, refl, sym, ap, ◌∙◌, subst, arith}
use Rattle.std.specs.Prelude.{nat_lt, option_map, slice_get}
use Rattle.std.specs.List.{AllByRecursion}
use Rattle.std.proofs.lemmas.Bool.{cases_Bool, cases_eq, eqb-true, ltb-false, ltb-true}
use Rattle.std.proofs.lemmas.Bool.Decides.{nat_tests}
use Rattle.std.proofs.lemmas.List.Elements.{recursion_from_All}
use Rattle.std.proofs.lemmas.Option.{same_Some, slice_get-map, slice_get_past, slice_get_within}
use Rattle.guest_memory.specs.Memory.{IsMemory, size_of}
use Rattle.lib_calls.specs.declared.entry.Entry.{Entry}
use Rattle.wasm_types.specs.declared.code.Value.{Value}
use Rattle.wasm_store.specs.Marks.{StoreMarksTell as StoreTells}
use Rattle.guest_process.specs.Fits.{StateFits}
use Rattle.guest_process.specs.Marks.{UnmarkedStays}
use Rattle.guest_process.specs.Next.{next}
use Rattle.guest_process.specs.OneEvent.{IsKeptByEvents, Rises as AreRising}
use Rattle.guest_process.specs.State.{State}
use Rattle.group_order.specs.Motions.{Motions, nth_position, position_of}
use Rattle.group_order.specs.Order.{NodeEvent}
use Rattle.proc_replay.specs.Replaying.{Replaying}
use Rattle.watch_expr.specs.declared.reads.Place.{Place as Location}
use Rattle.watch_expr.specs.declared.reads.Place.TheVariants as location
use Rattle.watch_expr.specs.Reads.{AreMemories, SameAtPlace, SamePage}
use Rattle.watch_expr.specs.View.{Node, ◌>>=◌}
use Rattle.page_watch.specs.Touch.{MarksTell, node_of}
use Rattle.group_state.specs.Laws.{IsStepOfGroup}
use Rattle.group_state.specs.inside.Motions.{AreMotions, positions, positions_from}
use Rattle.group_state.specs.Moves.{last_event_of}
use Rattle.group_state.specs.Place.{AreGroupReplays, ReplaysFit, GroupPlace, events_of_replays, states_of_nodes}
use Rattle.group_state.specs.Nodes.{nodes_at, seen_node, signed_global}
use Rattle.group_state.specs.inside.Stands.{AreSoundMemories}
use Rattle.group_state.specs.Touch.{is_touched_by, is_touched_in, mark_of_place, mark_in, is_touched_at}
use Rattle.group_state.proofs.NodeMoves.{motions_at, positions_front}
use Rattle.group_state.proofs.NodeViews.{node_at, node_for_each, states_length}
use Rattle.group_state.proofs.LastTouches.{mark_told, mark_within, marked_at, no_later, nth_front, set_here, set_there, there, touched_own}

abbrev pub at_position : List Replaying → ℕ → GroupPlace
at_position start k = record { start = start; at = k }

-- ---- each memory is one

sound_nodes : (rs : List Replaying) → AllByRecursion (λ (r : Replaying). IsMemory r.state.store.memory) rs → AreMemories (map seen_node (map (λ (r : Replaying). r.state) rs))
sound_nodes [] all = tt
sound_nodes (r ∷ rs) all = (all.0, sound_nodes rs all.1)

pub sound_at : (start replayers : List Replaying) (k : ℕ) → AreSoundMemories replayers → map (λ (r : Replaying). r.state) replayers ≡ states_of_nodes start k → AreMemories (nodes_at (at_position start k))
sound_at start replayers k sound are =
    subst (λ (S : List State). AreMemories (map seen_node S)) are (sound_nodes replayers (recursion_from_All (λ (r : Replaying). IsMemory r.state.store.memory) replayers sound))

memory_at : (nodes : List Node) (node : ℕ) (s : Node) → AreMemories nodes → slice_get nodes node ≡ Some s → IsMemory s.memory
memory_at [] node s all is = absurd (cc)
memory_at (t ∷ nodes) zero s all is = subst (λ (s : Node). IsMemory s.memory) (same_Some t s is) all.0
memory_at (t ∷ nodes) (suc node) s all is = memory_at nodes node s all.1 is

-- ---- what was touched moved

both_true : (a b : Bool) → (a && b) ≡ true → (a ≡ true) × (b ≡ true)
both_true true b is = (refl, is)
both_true false b is = absurd (cc)

touched_moves : (e : Option (NodeEvent Entry)) (now : List State) (l : Location) → is_touched_by e now l ≡ true → is_touched_by e now (location.Motion (node_of l)) ≡ true
touched_moves None now l is = absurd (cc)
touched_moves (Some x) now l is =
    let parts = both_true (x.node == node_of l) (is_touched_in (slice_get now (node_of l)) l) is in
    ap (λ b. b && is_touched_in (slice_get now (node_of l)) (location.Motion (node_of l))) parts.0 ∙ by_state (slice_get now (node_of l)) parts.1
  where
    by_state : (o : Option State) → is_touched_in o l ≡ true → is_touched_in o (location.Motion (node_of l)) ≡ true
    by_state None is = absurd (cc)
    by_state (Some S) is = grind (arith, nat_tests)

pub is_mark : (start : List Replaying) (k : ℕ) (l : Location) → mark_of_place start (suc k) l ≡ suc k → is_touched_at start (suc k) l ≡ true
is_mark start k l is =
    let test : (mark_of_place start (suc k) l == suc k) ≡ true = grind (arith, nat_tests) in
    sym (mark_told start k l) ∙ test

not_mark : (start : List Replaying) (k : ℕ) (l : Location) → (mark_of_place start (suc k) l ≡ suc k → ⊥) → is_touched_at start (suc k) l ≡ false
not_mark start k l not =
    let test : (mark_of_place start (suc k) l == suc k) ≡ false = grind (arith, nat_tests) in
    sym (mark_told start k l) ∙ test

pub moves : (start : List Replaying) (at : ℕ) (l : Location) → 0 < at → mark_of_place start at l ≡ at → mark_of_place start at (location.Motion (node_of l)) ≡ at
moves start zero l some is = refl
moves start (suc k) l some is =
    ap (λ b. cond b (suc k) (mark_of_place start k (location.Motion (node_of l)))) (touched_moves (slice_get (events_of_replays start) k) (states_of_nodes start (suc k)) l (is_mark start k l is))

-- ---- what moved is of the event's node

mover : (e : Option (NodeEvent Entry)) (now : List State) (n : ℕ) → is_touched_by e now (location.Motion n) ≡ true → option_map (λ (x : NodeEvent Entry). x.node) e ≡ Some n
mover None now n is = absurd (cc)
mover (Some x) now n is = ap (λ (m : ℕ). Some m) (eqb-true x.node n (both_true (x.node == n) (is_touched_in (slice_get now n) (location.Motion n)) is).0)

pub last_mover : (start : List Replaying) (at n : ℕ) → 0 < at → mark_of_place start at (location.Motion n) ≡ at → option_map (λ (x : NodeEvent Entry). x.node) (last_event_of (at_position start at)) ≡ Some n
last_mover start zero n some is = absurd (omega (arith, some))
last_mover start (suc k) n some is = mover (slice_get (events_of_replays start) k) (states_of_nodes start (suc k)) n (is_mark start k (location.Motion n) is)

-- ---- what was not touched is as it was

-- a node that is as it was
same_page : (a b : Node) (page : ℕ) → a ≡ b → 4096 * page + 4096 ≤ length a.memory.bytes → SamePage a.memory b.memory page
same_page a b page same inside = subst (λ (b : Node). SamePage a.memory b.memory page) same (record { inside = inside; bytes = refl })

same_node : (old new : List Node) (l : Location) → slice_get new (node_of l) ≡ slice_get old (node_of l) → SameAtPlace old new l
same_node old new (location.Page node page) same = λ a b is_a is_b inside. same_page a b page (same_Some a b (sym is_a ∙ sym same ∙ is_b)) inside
same_node old new (location.Global node n) same = ap (λ o. o >>= λ (s : Node). slice_get s.globals n) same
same_node old new (location.Motion node) same = (
  ap (option_map (λ (s : Node). s.clock)) same,
  ap (option_map (λ (s : Node). s.events)) same,
  ap (λ o. o >>= λ (s : Node). s.last_thread) same,
  ap (option_map (λ (s : Node). s.ended)) same,
)
same_node old new (location.Size node) same = ap (option_map (λ (s : Node). size_of s.memory)) same

-- a node that went on without touching it
module _ (old new : List Node) (T S : State) (fits : StateFits T) (fits_after : StateFits S) (tells : StoreTells (T.events + 1) T.store S.store) (counted : S.events ≡ T.events + 1)
    (in_old : IsMemory T.store.memory) (in_new : IsMemory S.store.memory) where
  untouched_page : (page : ℕ) → (mark_in S (location.Page 0 page) ≡ T.events + 1 → ⊥) → 4096 * page + 4096 ≤ length T.store.memory.bytes → SamePage T.store.memory S.store.memory page
  untouched_page page not inside =
      let same = tells.memory.pages page not in
      record { inside = omega (arith, inside, tells.memory.longer); bytes = same.bytes (omega (arith, inside, in_old.stamped)) inside }

  values_past : (g : List Value) (n : ℕ) → length g ≤ n → slice_get (map signed_global g) n ≡ None
  values_past g n past = slice_get-map signed_global g n ∙ ap (option_map signed_global) (slice_get_past g n past)

  untouched_global : (n : ℕ) → (mark_in S (location.Global 0 n) ≡ T.events + 1 → ⊥) → slice_get (map signed_global S.store.globals) n ≡ slice_get (map signed_global T.store.globals) n
  untouched_global n not = elim (cases_Bool (nat_lt n (length T.store.global_stamps))) [
    | inl low ↦
        slice_get-map signed_global S.store.globals n
        ∙ ap (option_map signed_global) ((tells.globals n not).value (ltb-true n (length T.store.global_stamps) low))
        ∙ sym (slice_get-map signed_global T.store.globals n)
    | inr high ↦
        let past = ltb-false n (length T.store.global_stamps) high in
        values_past S.store.globals n (omega (arith, past, tells.places, fits_after.even)) ∙ sym (values_past T.store.globals n (omega (arith, past, fits.even)))
  ]

  untouched_size : (mark_in S (location.Size 0) ≡ T.events + 1 → ⊥) → size_of S.store.memory ≡ size_of T.store.memory
  untouched_size not =
      let same : length S.store.memory.bytes ≡ length T.store.memory.bytes = omega (arith, (tells.size not).1, in_old.stamped, in_new.stamped) in
      ap (λ n. n / 65536) same

  untouched : (l : Location) → slice_get old (node_of l) ≡ Some (seen_node T) → slice_get new (node_of l) ≡ Some (seen_node S) → (mark_in S l ≡ T.events + 1 → ⊥) → SameAtPlace old new l
  untouched (location.Page node page) before after not = λ a b is_a is_b inside.
      let old_is : seen_node T ≡ a = same_Some (seen_node T) a (sym before ∙ is_a) in
      let new_is : seen_node S ≡ b = same_Some (seen_node S) b (sym after ∙ is_b) in
      let long : length T.store.memory.bytes ≡ length a.memory.bytes = ap (λ (s : Node). length s.memory.bytes) old_is in
      subst (λ (a : Node). SamePage a.memory b.memory page) old_is (subst (λ (b : Node). SamePage T.store.memory b.memory page) new_is (untouched_page page not (omega (arith, inside, long))))
  untouched (location.Global node n) before after not =
      ap (λ o. o >>= λ (s : Node). slice_get s.globals n) after ∙ untouched_global n not ∙ sym (ap (λ o. o >>= λ (s : Node). slice_get s.globals n) before)
  untouched (location.Motion node) before after not = absurd (not counted)
  untouched (location.Size node) before after not =
      ap (option_map (λ (s : Node). size_of s.memory)) after ∙ ap Some (untouched_size not) ∙ sym (ap (option_map (λ (s : Node). size_of s.memory)) before)

module _ (steps : (start : List Replaying) → AreGroupReplays start → ReplaysFit start → (k : ℕ) (e : NodeEvent Entry) → slice_get (events_of_replays start) k ≡ Some e → IsStepOfGroup start k e)
    (rising : AreRising) (kept : IsKeptByEvents) (unmarked : UnmarkedStays) (start : List Replaying) (replayers : AreGroupReplays start) (fits : ReplaysFit start) where
  pub stays_at : (k : ℕ) (l : Location) → suc k ≤ length (events_of_replays start) → (mark_of_place start (suc k) l ≡ suc k → ⊥) → AreMemories (nodes_at (at_position start k)) → AreMemories (nodes_at (at_position start (suc k)))
      → SameAtPlace (nodes_at (at_position start k)) (nodes_at (at_position start (suc k))) l
  stays_at k l within not old_sound new_sound =
      let t = there (events_of_replays start) k (omega (arith, within)) in
      let x = t.item in
      let s = steps start replayers fits k x t.is in
      let T = s.state in
      let S = next T x.entry in
      elim (cases_eq x.node (node_of l)) [
        | inl own ↦
            let before : slice_get (states_of_nodes start k) x.node ≡ Some T = s.stands in
            let after : slice_get (states_of_nodes start (suc k)) x.node ≡ Some S = ap (λ states. slice_get states x.node) s.after ∙ set_here (states_of_nodes start k) x.node T S before in
            let seen_before : slice_get (nodes_at (at_position start k)) (node_of l) ≡ Some (seen_node T) = ap (slice_get (nodes_at (at_position start k))) (sym own) ∙ node_at (states_of_nodes start k) x.node T before in
            let seen_after : slice_get (nodes_at (at_position start (suc k))) (node_of l) ≡ Some (seen_node S) = ap (slice_get (nodes_at (at_position start (suc k)))) (sym own) ∙ node_at (states_of_nodes start (suc k)) x.node S after in
            let prior = marked_at steps rising kept unmarked start replayers fits k (omega (arith, within)) x.node T before in
            let counted : S.events ≡ T.events + 1 = (rising T x.entry prior.fits s.legal).events in
            let untold : (mark_in S l == S.events) ≡ false = sym (touched_own (slice_get (events_of_replays start) k) (states_of_nodes start (suc k)) x l S t.is (sym own) after) ∙ not_mark start k l not in
            untouched (nodes_at (at_position start k)) (nodes_at (at_position start (suc k))) T S prior.fits (kept T x.entry prior.fits s.legal) (unmarked T x.entry prior.fits s.legal) counted
            (memory_at (nodes_at (at_position start k)) (node_of l) (seen_node T) old_sound seen_before)
            (memory_at (nodes_at (at_position start (suc k))) (node_of l) (seen_node S) new_sound seen_after)
            l seen_before seen_after
            (λ same. let test : (mark_in S l == S.events) ≡ true = grind (arith, nat_tests) in let clash : true ≡ false = sym test ∙ untold in cc)
        | inr differs ↦
            let same : slice_get (states_of_nodes start (suc k)) (node_of l) ≡ slice_get (states_of_nodes start k) (node_of l) =
            ap (λ states. slice_get states (node_of l)) s.after ∙ set_there (states_of_nodes start k) x.node (node_of l) S differs in
            same_node (nodes_at (at_position start k)) (nodes_at (at_position start (suc k))) l
            (slice_get-map seen_node (states_of_nodes start (suc k)) (node_of l) ∙ ap (option_map seen_node) same ∙ sym (slice_get-map seen_node (states_of_nodes start k) (node_of l)))
      ]

  stays_before : (at : ℕ) (l : Location) → at ≤ length (events_of_replays start) → 0 < at → (mark_of_place start at l ≡ at → ⊥) → AreMemories (nodes_at (at_position start (at - 1))) → AreMemories (nodes_at (at_position start at))
      → SameAtPlace (nodes_at (at_position start (at - 1))) (nodes_at (at_position start at)) l
  stays_before zero l within some not old_sound new_sound = absurd (omega (arith, some))
  stays_before (suc k) l within some not old_sound new_sound =
      let same : suc k - 1 ≡ k = omega arith in
      subst (λ n. SameAtPlace (nodes_at (at_position start n)) (nodes_at (at_position start (suc k))) l) (sym same)
      (stays_at k l within not (subst (λ n. AreMemories (nodes_at (at_position start n))) same old_sound) new_sound)

  pub tells : (at : ℕ) → at ≤ length (events_of_replays start) → AreMemories (nodes_at (at_position start at)) → MarksTell (λ k. nodes_at (at_position start k)) at (mark_of_place start at)
  tells at within sound = record {
    even = λ k front. node_for_each (at_position start k) ∙ sym (node_for_each (at_position start at));
    sound = sound;
    no_later = no_later start at;
    moves = moves start at;
    unmarked = λ l some not before. stays_before at l within some not before sound;
  }

  -- what is known of a node's events tells the position of the one that touched a place last
  pub position_told : (at node : ℕ) (m : Motions) (S : State) (l : Location) → AreMotions start m → at ≤ m.reached → slice_get (states_of_nodes start at) node ≡ Some S → node_of l ≡ node
      → position_of m node (mark_in S l) ≡ mark_of_place start at l
  position_told at node m S l are been here own =
      let marked = marked_at steps rising kept unmarked start replayers fits at (omega (arith, been, are.within)) node S here in
      let within : node < length start = omega (arith, slice_get_within (states_of_nodes start at) node S here, states_length 0 start (take at (events_of_replays start))) in
      let ps = positions node (take at (events_of_replays start)) in
      let from_zero : 0 + node ≡ node = omega arith in
      let known : get_or m.lists node [] ≡ positions node (take m.reached (events_of_replays start)) = ap (λ l. get_or l node []) are.lists ∙ motions_at 0 start (take m.reached (events_of_replays start)) node within ∙ ap (λ n. positions n (take m.reached (events_of_replays start))) from_zero in
      ap (λ ps. nth_position ps (mark_in S l)) (known ∙ positions_front node at m.reached (events_of_replays start) been)
      ∙ nth_front ps (positions_from node (length (take at (events_of_replays start))) (drop at (take m.reached (events_of_replays start)))) (mark_in S l) (omega (arith, mark_within S l marked.fits, marked.moved))
      ∙ sym (marked.marked l own)
