-- When the places of a group were touched last.
use Rattle.std.proofs.Common.{◌≡◌, ◌<◌, ◌≤◌, ℕ, zero, suc, ◌+◌, ◌==◌, ◌&&◌, Bool, true, false, cond, List, [], ◌∷◌, ◌++◌, length, length-take, set, take, Option, Some, None, inl, inr, refl, sym, ap, ◌∙◌, subst, arith}
use Rattle.std.specs.Prelude.{option_map, slice_get, slice_index_or}
use Rattle.std.proofs.Math.Seq.{get_or-append_seam}
use Rattle.std.proofs.lemmas.Bool.{cases_eq, eqb-true}
use Rattle.std.proofs.lemmas.Bool.Decides.{nat_tests}
use Rattle.std.proofs.lemmas.List.{get_or_append_left, length-append, take_more}
use Rattle.std.proofs.lemmas.Option.{get_or_from_slice_get, same_Some, slice_get-map, slice_get_past, slice_get_within}
use Rattle.guest_memory.specs.Stamps.{AreWithin}
use Rattle.lib_calls.specs.declared.entry.Entry.{Entry}
use Rattle.wasm_store.specs.Marks.{StoreMarksTell}
use Rattle.guest_process.specs.Fits.{StateFits}
use Rattle.guest_process.specs.Marks.{UnmarkedStays}
use Rattle.guest_process.specs.Next.{next}
use Rattle.guest_process.specs.OneEvent.{IsKeptByEvents, Rises as AreRising}
use Rattle.guest_process.specs.State.{State}
use Rattle.group_order.specs.Motions.{nth_position}
use Rattle.group_order.specs.Order.{NodeEvent}
use Rattle.proc_replay.specs.Replaying.{Replaying}
use Rattle.watch_expr.specs.declared.reads.Place.{Place as Location}
use Rattle.watch_expr.specs.declared.reads.Place.TheVariants as location
use Rattle.page_watch.specs.Touch.{node_of}
use Rattle.group_state.specs.Laws.{IsStepOfGroup}
use Rattle.group_state.specs.inside.Motions.{positions}
use Rattle.group_state.specs.Place.{AreGroupReplays, ReplaysFit, events_of_replays, states_of_nodes}
use Rattle.group_state.specs.Touch.{is_touched_by, is_touched_in, mark_of_place, mark_in, is_touched_at}
use Rattle.group_state.proofs.NodeMoves.{one_more_other, one_more_own}
use Rattle.group_state.proofs.NodeViews.{states_length}
use Rattle.group_state.proofs.NextPosition.{none_made}

-- ---- lists

pub set_here : {X : Type 0} (xs : List X) (i : ℕ) (x y : X) → slice_get xs i ≡ Some x → slice_get (set xs i y) i ≡ Some y
set_here [] i x y is = absurd (cc)
set_here (z ∷ xs) zero x y is = refl
set_here (z ∷ xs) (suc i) x y is = set_here xs i x y is

pub set_there : {X : Type 0} (xs : List X) (i j : ℕ) (y : X) → (i ≡ j → ⊥) → slice_get (set xs i y) j ≡ slice_get xs j
set_there [] i j y differs = refl
set_there (z ∷ xs) zero zero y differs = absurd (differs refl)
set_there (z ∷ xs) zero (suc j) y differs = refl
set_there (z ∷ xs) (suc i) zero y differs = refl
set_there (z ∷ xs) (suc i) (suc j) y differs = set_there xs i j y (λ same. differs (ap suc same))

-- there is an element at k
pub record There (X : Type 0) (xs : List X) (k : ℕ) : Type 0 where
  pub item : X
  pub is : slice_get xs k ≡ Some item

pub there : {X : Type 0} (xs : List X) (k : ℕ) → k < length xs → There X xs k
there [] k within = absurd (omega (arith, within))
there (x ∷ xs) zero within = record { item = x; is = refl }
there (x ∷ xs) (suc k) within = let t = there xs k (omega (arith, within)) in record { item = t.item; is = t.is }

nth_last : (ps : List ℕ) (p n : ℕ) → n ≡ suc (length ps) → nth_position (ps ++ p ∷ []) n ≡ p
nth_last ps p n is = ap (nth_position (ps ++ p ∷ [])) is ∙ get_or-append_seam ps p [] 0

pub nth_front : (ps qs : List ℕ) (n : ℕ) → n ≤ length ps → nth_position (ps ++ qs) n ≡ nth_position ps n
nth_front ps qs zero within = refl
nth_front ps qs (suc n) within = get_or_append_left ps qs 0 n (omega (arith, within))

-- ---- one process

stamp_within : (stamps : List ℕ) (most n : ℕ) → AreWithin most stamps → slice_index_or stamps n 0 ≤ most
stamp_within [] most n within = omega arith
stamp_within (s ∷ stamps) most zero within = within.0
stamp_within (s ∷ stamps) most (suc n) within = stamp_within stamps most n within.1

-- no mark is later than the last event
pub mark_within : (S : State) (l : Location) → StateFits S → mark_in S l ≤ S.events
mark_within S (location.Page node page) fits = stamp_within S.store.memory.stamps S.events page fits.stamps
mark_within S (location.Global node n) fits = stamp_within S.store.global_stamps S.events n fits.global_stamps
mark_within S (location.Motion node) fits = omega arith
mark_within S (location.Size node) fits = fits.size_stamp

-- what an event did not touch keeps its mark
mark_stays : (S T : State) (l : Location) → StoreMarksTell (S.events + 1) S.store T.store → T.events ≡ S.events + 1 → (mark_in T l ≡ S.events + 1 → ⊥) → mark_in T l ≡ mark_in S l
mark_stays S T (location.Page node page) tells counted not = (tells.memory.pages page not).stamp
mark_stays S T (location.Global node n) tells counted not = (tells.globals n not).stamp
mark_stays S T (location.Motion node) tells counted not = absurd (not counted)
mark_stays S T (location.Size node) tells counted not = (tells.size not).0

-- ---- a node at a position

-- the process of a node there has had an event at each of its positions, and each of its places bears the position of the
-- event that touched it last
pub record IsMarked (start : List Replaying) (k node : ℕ) (S : State) : Type 0 where
  pub fits : StateFits S
  pub moved : S.events ≡ length (positions node (take k (events_of_replays start)))
  pub marked : (l : Location) → node_of l ≡ node → mark_of_place start k l ≡ nth_position (positions node (take k (events_of_replays start))) (mark_in S l)

-- whether the event of a position touched a place of its node's, and of another's
pub touched_own : (e : Option (NodeEvent Entry)) (now : List State) (x : NodeEvent Entry) (l : Location) (S : State) → e ≡ Some x → node_of l ≡ x.node → slice_get now x.node ≡ Some S
    → is_touched_by e now l ≡ (mark_in S l == S.events)
touched_own e now x l S is own here =
    let test : (x.node == node_of l) ≡ true = grind (arith, nat_tests) in
    ap (λ e. is_touched_by e now l) is ∙ ap (λ b. b && is_touched_in (slice_get now (node_of l)) l) test
    ∙ ap (λ o. is_touched_in o l) (ap (slice_get now) own ∙ here)

touched_other : (e : Option (NodeEvent Entry)) (now : List State) (x : NodeEvent Entry) (l : Location) → e ≡ Some x → (x.node ≡ node_of l → ⊥) → is_touched_by e now l ≡ false
touched_other e now x l is differs =
    let test : (x.node == node_of l) ≡ false = grind (arith, nat_tests) in
    ap (λ e. is_touched_by e now l) is ∙ ap (λ b. b && is_touched_in (slice_get now (node_of l)) l) test

by_touch : (b : Bool) (at last now : ℕ) → (b ≡ true → at ≡ now) → (b ≡ false → last ≡ now) → cond b at last ≡ now
by_touch true at last now first later = first refl
by_touch false at last now first later = later refl

module _ (steps : (start : List Replaying) → AreGroupReplays start → ReplaysFit start → (k : ℕ) (e : NodeEvent Entry) → slice_get (events_of_replays start) k ≡ Some e → IsStepOfGroup start k e)
    (rising : AreRising) (kept : IsKeptByEvents) (unmarked : UnmarkedStays) (start : List Replaying) (replayers : AreGroupReplays start) (fits : ReplaysFit start) where
  abbrev so_far : ℕ → List (NodeEvent Entry)
  so_far k = take k (events_of_replays start)

  first_marked : (node : ℕ) (S : State) → slice_get (states_of_nodes start 0) node ≡ Some S → IsMarked start 0 node S
  first_marked node S here =
      let found : option_map (λ (r : Replaying). r.state) (slice_get start node) ≡ Some S = sym (slice_get-map (λ (r : Replaying). r.state) start node) ∙ sym (ap (λ states. slice_get states node) (none_made 0 start)) ∙ here in
      by_replayer (slice_get start node) refl found
    where
      by_replayer : (o : Option Replaying) → slice_get start node ≡ o → option_map (λ (r : Replaying). r.state) o ≡ Some S → IsMarked start 0 node S
      by_replayer None is found = absurd (cc)
      by_replayer (Some r) is found =
          let same : r.state ≡ S = same_Some r.state S found in
          let within = slice_get_within start node r is in
          let at = get_or_from_slice_get start node r r is in
          let fits_first : StateFits S = subst StateFits (ap (λ (r : Replaying). r.state) at ∙ same) (fits node r within) in
          let fresh : S.events ≡ 0 = ap (λ (S : State). S.events) (sym (ap (λ (r : Replaying). r.state) at ∙ same)) ∙ replayers.fresh node r within in
          record {
            fits = fits_first;
            moved = fresh;
            marked = λ l own.
                let none : mark_in S l ≡ 0 = omega (arith, mark_within S l fits_first, fresh) in
                sym (ap (nth_position []) none);
          }

  -- from a position to the next, of the node whose event comes there
  own_marked : (k : ℕ) (x : NodeEvent Entry) (S : State) → slice_get (events_of_replays start) k ≡ Some x → take (suc k) (events_of_replays start) ≡ so_far k ++ x ∷ [] → k ≡ length (so_far k)
      → (s : IsStepOfGroup start k x) → IsMarked start k x.node s.state → slice_get (states_of_nodes start (suc k)) x.node ≡ Some S → IsMarked start (suc k) x.node S
  own_marked k x S is more count s prior here =
      let T = s.state in
      let next_is : next T x.entry ≡ S = same_Some _ _ (sym (ap (λ states. slice_get states x.node) s.after ∙ set_here (states_of_nodes start k) x.node T (next T x.entry) s.stands) ∙ here) in
      let ps = positions x.node (so_far k) in
      let own : positions x.node (take (suc k) (events_of_replays start)) ≡ ps ++ suc k ∷ [] =
      ap (positions x.node) more ∙ one_more_own x.node (so_far k) x refl ∙ ap (λ n. ps ++ suc n ∷ []) (sym count) in
      let events_are : S.events ≡ T.events + 1 = subst (λ (S : State). S.events ≡ T.events + 1) next_is (rising T x.entry prior.fits s.legal).events in
      let tells : StoreMarksTell (T.events + 1) T.store S.store = subst (λ (S : State). StoreMarksTell (T.events + 1) T.store S.store) next_is (unmarked T x.entry prior.fits s.legal) in
      record {
        fits = subst StateFits next_is (kept T x.entry prior.fits s.legal);
        moved = omega (arith, events_are, prior.moved, ap length own, length-append ps (suc k ∷ []));
        marked = λ l of_node.
            let by = touched_own (slice_get (events_of_replays start) k) (states_of_nodes start (suc k)) x l S is of_node here in
            ap (λ b. cond b (suc k) (mark_of_place start k l)) by
            ∙ by_touch (mark_in S l == S.events) (suc k) (mark_of_place start k l) (nth_position (ps ++ suc k ∷ []) (mark_in S l))
            (λ yes. sym (nth_last ps (suc k) (mark_in S l) (omega (arith, eqb-true (mark_in S l) S.events yes, events_are, prior.moved))))
            (λ no.
            let stays = mark_stays T S l tells events_are (λ same. let test : (mark_in S l == S.events) ≡ true = grind (arith, nat_tests) in let clash : true ≡ false = sym test ∙ no in cc) in
            prior.marked l of_node ∙ ap (nth_position ps) (sym stays)
            ∙ sym (nth_front ps (suc k ∷ []) (mark_in S l) (omega (arith, stays, mark_within T l prior.fits, prior.moved))))
            ∙ ap (λ ps. nth_position ps (mark_in S l)) (sym own);
      }

  -- and of another node
  other_marked : (k node : ℕ) (x : NodeEvent Entry) (S : State) → slice_get (events_of_replays start) k ≡ Some x → take (suc k) (events_of_replays start) ≡ so_far k ++ x ∷ [] → (x.node ≡ node → ⊥)
      → IsMarked start k node S → IsMarked start (suc k) node S
  other_marked k node x S is more differs prior =
      let same : positions node (take (suc k) (events_of_replays start)) ≡ positions node (so_far k) = ap (positions node) more ∙ one_more_other node (so_far k) x differs in
      record {
        fits = prior.fits;
        moved = prior.moved ∙ ap length (sym same);
        marked = λ l of_node.
            let by = touched_other (slice_get (events_of_replays start) k) (states_of_nodes start (suc k)) x l is (λ own. differs (own ∙ of_node)) in
            ap (λ b. cond b (suc k) (mark_of_place start k l)) by ∙ prior.marked l of_node ∙ ap (λ ps. nth_position ps (mark_in S l)) (sym same);
      }

  pub marked_at : (k : ℕ) → k ≤ length (events_of_replays start) → (node : ℕ) (S : State) → slice_get (states_of_nodes start k) node ≡ Some S → IsMarked start k node S
  marked_at zero within node S here = first_marked node S here
  marked_at (suc k) within node S here =
      let t = there (events_of_replays start) k (omega (arith, within)) in
      let x = t.item in
      let s = steps start replayers fits k x t.is in
      let more : take (suc k) (events_of_replays start) ≡ so_far k ++ x ∷ [] =
      let one : suc k ≡ k + 1 = omega arith in
      ap (λ n. take n (events_of_replays start)) one ∙ take_more (events_of_replays start) k x (omega (arith, within)) ∙ ap (λ y. so_far k ++ y ∷ []) (get_or_from_slice_get (events_of_replays start) k x x t.is) in
      let count : k ≡ length (so_far k) = omega (arith, length-take k (events_of_replays start), within) in
      elim (cases_eq x.node node) [
        | inl own ↦
            subst (λ n. IsMarked start (suc k) n S) own
            (own_marked k x S t.is more count s (marked_at k (omega (arith, within)) x.node s.state s.stands) (ap (slice_get (states_of_nodes start (suc k))) own ∙ here))
        | inr differs ↦
            let there_before : slice_get (states_of_nodes start k) node ≡ Some S = sym (ap (λ states. slice_get states node) s.after ∙ set_there (states_of_nodes start k) x.node node (next s.state x.entry) differs) ∙ here in
            other_marked k node x S t.is more differs (marked_at k (omega (arith, within)) node S there_before)
      ]

-- ---- a node that isn't there

touched_none : (e : Option (NodeEvent Entry)) (now : List State) (l : Location) → slice_get now (node_of l) ≡ None → is_touched_by e now l ≡ false
touched_none None now l none = refl
touched_none (Some x) now l none = ap (λ o. x.node == node_of l && is_touched_in o l) none ∙ never (x.node == node_of l)
  where
    never : (b : Bool) → (b && false) ≡ false
    never true = refl
    never false = refl

none_past : {X : Type 0} (xs : List X) (n : ℕ) → slice_get xs n ≡ None → length xs ≤ n
none_past [] n is = omega arith
none_past (x ∷ xs) zero is = absurd (cc)
none_past (x ∷ xs) (suc n) is = omega (arith, none_past xs n is)

no_mark : (start : List Replaying) (k : ℕ) (l : Location) → length start ≤ node_of l → mark_of_place start k l ≡ 0
no_mark start zero l past = refl
no_mark start (suc k) l past =
    let none : slice_get (states_of_nodes start (suc k)) (node_of l) ≡ None = slice_get_past (states_of_nodes start (suc k)) (node_of l) (omega (arith, states_length 0 start (take (suc k) (events_of_replays start)), past)) in
    ap (λ b. cond b (suc k) (mark_of_place start k l)) (touched_none (slice_get (events_of_replays start) k) (states_of_nodes start (suc k)) l none) ∙ no_mark start k l past

pub unmarked_place : (start : List Replaying) (at : ℕ) (l : Location) → slice_get (states_of_nodes start at) (node_of l) ≡ None → 0 ≡ mark_of_place start at l
unmarked_place start at l none =
    sym (no_mark start at l (omega (arith, none_past (states_of_nodes start at) (node_of l) none, states_length 0 start (take at (events_of_replays start)))))

-- ---- marks as numbers

pub no_later : (start : List Replaying) (k : ℕ) (l : Location) → mark_of_place start k l ≤ k
no_later start zero l = omega arith
no_later start (suc k) l = by_test (is_touched_at start (suc k) l) (no_later start k l)
  where
    by_test : (b : Bool) → mark_of_place start k l ≤ k → cond b (suc k) (mark_of_place start k l) ≤ suc k
    by_test true before = omega arith
    by_test false before = omega (arith, before)

-- a place has the mark of a position exactly where its event touched it
pub mark_told : (start : List Replaying) (k : ℕ) (l : Location) → (mark_of_place start (suc k) l == suc k) ≡ is_touched_at start (suc k) l
mark_told start k l = by_test (is_touched_at start (suc k) l)
  where
    by_test : (b : Bool) → (cond b (suc k) (mark_of_place start k l) == suc k) ≡ b
    by_test true = grind (arith, nat_tests)
    by_test false = let less = no_later start k l in grind (arith, nat_tests)
