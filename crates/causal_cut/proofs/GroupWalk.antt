-- The walk over the events of a group: the clocks of each node's events so far, and what these ask for.
use Rattle.std.proofs.Common.{◌≡◌, ◌∙◌, ℕ, zero, suc, ◌+◌, ◌≤◌, ◌<◌, inl, inr, Bool, List, [], ◌∷◌, ◌++◌, length, length-append, append-nil, get_or, map, set, take, Option, Some, None, refl, ap, sym, subst, arith}
use Rattle.std.specs.Prelude.{◌↔◌, IsTrue, replicate, slice_get}
use Rattle.std.specs.List.{AllByRecursion}
use Rattle.std.specs.Option.{option_to_list}
use Rattle.std.proofs.Math.Seq.{take-length}
use Rattle.std.proofs.lemmas.Bool.{cases_eq, cases_lt}
use Rattle.std.proofs.lemmas.List.{get_or-set_other, get_or-set_same, length-map, length-replicate, length-set, map-append}
use Rattle.std.proofs.lemmas.Option.{same_Some, slice_get_within}
use Rattle.lib_calls.specs.declared.entry.Entry.{Entry}
use Rattle.group_order.specs.Order.{NodeEvent, list_of, of_node}
use Rattle.proc_replay.specs.Course.{entries_ahead}
use Rattle.proc_replay.specs.Replaying.{Replaying}
use Rattle.group_state.specs.Laws.{Ordered, SendsFirst}
use Rattle.group_state.specs.Moves.{GroupMoves, event_of}
use Rattle.group_state.specs.Place.{AreGroupReplays, ReplaysFit, GroupPlace, entry_clock, events_of_replays}
use Rattle.group_state.specs.declared.event.GroupEvent.{GroupEvent}
use Rattle.causal_cut.specs.declared.asks.Ask.{Ask}
use Rattle.causal_cut.specs.inside.Asks.{AreAsks, AreClocks, AreCountedAsks, AreOrderedAsks, AreRisingClocks, AreOfNodes, IsMetAsk, PrecedesAsk, ask_of, process_numbers, with_node_clock}
use Rattle.causal_cut.specs.Past.{accepted_counts, count_asked, is_within_lengths}
use Rattle.causal_cut.proofs.EventAsks.{Asks, IsAsk, event_asks}
use Rattle.causal_cut.proofs.ClosedFamilies.{EachPasses, each_passes, passes_each}
use Rattle.causal_cut.proofs.Families.{all_append, at, within_both, within_from}
use Rattle.causal_cut.proofs.NodeEvents.{other_more, own_more, own_rises, own_take, sorted_take}
use Rattle.causal_cut.proofs.ListPlaces.{get_new, get_old, get_pushed, past, take_more}

-- ---- the events so far

-- the test of an event within a family
abbrev has_asked : List Replaying → List ℕ → Entry → Bool
has_asked start family e = is_within_lengths (map (count_asked e.tag) start) family

-- each event of each node within the family has what it asks for in it
abbrev EachHas : List Replaying → (ℕ → List Entry) → List ℕ → Type 0
EachHas start own family = EachPasses (has_asked start family) own family

-- the clocks of these events, and what they ask for
pub record IsSeen (start : List Replaying) (front : List (NodeEvent Entry)) (clocks : List (List ℕ)) (asks : List Ask) : Type 0 where
  pub count : length clocks ≡ length start
  pub so_far : (j : ℕ) → get_or clocks j [] ≡ map entry_clock (of_node j front)
  pub within : AreOfNodes (length start) asks
  pub counted : AreCountedAsks asks
  pub ordered : AreOrderedAsks asks
  pub had : AllByRecursion (λ a. a.upto ≤ length (of_node a.of front)) asks
  pub closes : (family : List ℕ) → length family ≡ length start → EachHas start (λ j. of_node j front) family ↔ AllByRecursion (IsMetAsk family) asks

abbrev no_clocks : List ℕ
no_clocks = []

abbrev no_entries : List Entry
no_entries = []

empty_at : (n j : ℕ) → get_or (replicate n no_clocks) j no_clocks ≡ no_clocks
empty_at zero j = refl
empty_at (suc n) zero = refl
empty_at (suc n) (suc j) = empty_at n j

pub none_seen : (start : List Replaying) → IsSeen start [] (replicate (length start) []) []
none_seen start = record {
  count = length-replicate (length start) no_clocks;
  so_far = empty_at (length start);
  within = tt;
  counted = tt;
  ordered = tt;
  had = tt;
  closes = λ family long. (λ each. tt, λ met node m e within there. absurd (cc));
}

-- ---- one event more

module _ (front : List (NodeEvent Entry)) (e : NodeEvent Entry) where
  old_kept : (j m : ℕ) (x : Entry) → slice_get (of_node j front) m ≡ Some x → slice_get (of_node j (front ++ e ∷ [])) m ≡ Some x
  old_kept j m x there = elim (cases_eq e.node j) [
    | inl same ↦ ap (λ (l : List Entry). slice_get l m) (own_more j front e same) ∙ get_old (of_node j front) (e.entry ∷ []) m x there
    | inr other ↦ ap (λ (l : List Entry). slice_get l m) (other_more j front e other) ∙ there
  ]

  grows : (j : ℕ) → length (of_node j front) ≤ length (of_node j (front ++ e ∷ []))
  grows j = elim (cases_eq e.node j) [
    | inl same ↦ omega (arith, ap length (own_more j front e same), length-append (of_node j front) (e.entry ∷ []))
    | inr other ↦ omega (arith, ap length (other_more j front e other))
  ]

  new_there : slice_get (of_node e.node (front ++ e ∷ [])) (length (of_node e.node front)) ≡ Some e.entry
  new_there = ap (λ (l : List Entry). slice_get l (length (of_node e.node front))) (own_more e.node front e refl) ∙ get_new (of_node e.node front) e.entry

  -- where the family has this event of its node, it has what it asks for
  abbrev HasLast : List Replaying → List ℕ → Type 0
  HasLast start family = length (of_node e.node front) < at family e.node → IsTrue (has_asked start family e.entry)

  has_parts : (start : List Replaying) (family : List ℕ) → EachHas start (λ j. of_node j (front ++ e ∷ [])) family → EachHas start (λ j. of_node j front) family × HasLast start family
  has_parts start family each = (λ j m x within there. each j m x within (old_kept j m x there), λ within. each e.node (length (of_node e.node front)) e.entry within new_there)

  has_all : (start : List Replaying) (family : List ℕ) → EachHas start (λ j. of_node j front) family → HasLast start family → EachHas start (λ j. of_node j (front ++ e ∷ [])) family
  has_all start family each last j m x within there = elim (cases_eq e.node j) [
    | inl same ↦ elim (get_pushed (of_node j front) e.entry m x (ap (λ (l : List Entry). slice_get l m) (sym (own_more j front e same)) ∙ there)) [
      | inl old ↦ each j m x within old
      | inr new ↦
          let less : length (of_node e.node front) < at family e.node = omega (arith, within, new.0, ap (λ n. length (of_node n front)) same, ap (at family) same) in
          subst (λ (y : Entry). IsTrue (has_asked start family y)) new.1 (last less)
    ]
    | inr other ↦ each j m x within (ap (λ (l : List Entry). slice_get l m) (sym (other_more j front e other)) ∙ there)
  ]

module _ {A : Type 0} where
  all_push : (P : A → Type 0) (xs : List A) (x : A) → AllByRecursion P xs → P x → AllByRecursion P (xs ++ x ∷ [])
  all_push P xs x all one = all_append P xs (x ∷ []) all (one, tt)

  push_all : (P : A → Type 0) (xs : List A) (x : A) → AllByRecursion P (xs ++ x ∷ []) → AllByRecursion P xs × P x
  push_all P [] x all = (tt, all.0)
  push_all P (y ∷ xs) x all = let rest = push_all P xs x all.1 in ((all.0, rest.0), rest.1)

  all_so : (P Q : A → Type 0) (xs : List A) → ((x : A) → P x → Q x) → AllByRecursion P xs → AllByRecursion Q xs
  all_so P Q [] so all = tt
  all_so P Q (x ∷ xs) so all = (so x all.0, all_so P Q xs so all.1)

ordered_push : (asks : List Ask) (a : Ask) → AreOrderedAsks asks → AllByRecursion (λ b. PrecedesAsk b a) asks → PrecedesAsk a a → AreOrderedAsks (asks ++ a ∷ [])
ordered_push [] a ordered before self = (self, tt, tt)
ordered_push (b ∷ asks) a ordered before self = (ordered.0, all_push (PrecedesAsk b) asks a ordered.1 before.0, ordered_push asks a ordered.2 before.1 self)

clocks_more : (front : List (NodeEvent Entry)) (e : NodeEvent Entry) (clocks : List (List ℕ)) → e.node < length clocks → ((j : ℕ) → get_or clocks j [] ≡ map entry_clock (of_node j front))
    → (j : ℕ) → get_or (with_node_clock clocks e.node e.entry.clock) j [] ≡ map entry_clock (of_node j (front ++ e ∷ []))
clocks_more front e clocks within so_far j =
    let new = get_or clocks e.node [] ++ e.entry.clock ∷ [] in
    elim (cases_eq j e.node) [
      | inl same ↦
          let own : get_or (set clocks e.node new) e.node [] ≡ map entry_clock (of_node e.node (front ++ e ∷ [])) =
          get_or-set_same clocks e.node new [] within ∙ ap (λ l. l ++ e.entry.clock ∷ []) (so_far e.node) ∙ sym (map-append entry_clock (of_node e.node front) (e.entry ∷ []))
          ∙ ap (map entry_clock) (sym (own_more e.node front e refl)) in
          subst (λ (i : ℕ). get_or (set clocks e.node new) i [] ≡ map entry_clock (of_node i (front ++ e ∷ []))) (sym same) own
      | inr other ↦ get_or-set_other clocks e.node j new [] other ∙ so_far j ∙ ap (map entry_clock) (sym (other_more j front e (λ same. other (sym same))))
    ]

module _ (start : List Replaying) (k : ℕ) (clocks : List (List ℕ)) (asks : List Ask) (e : NodeEvent Entry) (seen : IsSeen start (take k (events_of_replays start)) clocks asks) (node : e.node < length start) where
  abbrev front : List (NodeEvent Entry)
  front = take k (events_of_replays start)

  -- an event that asks for nothing
  quiet_seen : Asks start k e.node e.entry.tag None → IsSeen start (front ++ e ∷ []) (with_node_clock clocks e.node e.entry.clock) asks
  quiet_seen none = record {
    count = length-set clocks e.node _ ∙ seen.count;
    so_far = clocks_more front e clocks (omega (arith, node, seen.count)) seen.so_far;
    within = seen.within;
    counted = seen.counted;
    ordered = seen.ordered;
    had = all_so _ (λ (a : Ask). a.upto ≤ length (of_node a.of (front ++ e ∷ []))) asks (λ a most. omega (arith, most, grows front e a.of)) seen.had;
    closes = λ family long. (
      λ each. (seen.closes family long).0 (has_parts front e start family each).0,
      λ met. has_all front e start family ((seen.closes family long).1 met) (λ within. none family long),
    );
  }

  -- one that asks
  asking_seen : (a : Ask) → IsAsk start k e.node e.entry.tag a → IsSeen start (front ++ e ∷ []) (with_node_clock clocks e.node e.entry.clock) (asks ++ a ∷ [])
  asking_seen a is = record {
    count = length-set clocks e.node _ ∙ seen.count;
    so_far = clocks_more front e clocks (omega (arith, node, seen.count)) seen.so_far;
    within = all_push (λ (b : Ask). (b.node < length start) × (b.of < length start)) asks a seen.within (omega (arith, is.node_is, node), is.of_within);
    counted = all_push (λ (b : Ask). 1 ≤ b.number) asks a seen.counted (omega (arith, is.number_is));
    ordered = ordered_push asks a seen.ordered
        (all_so _ (λ (b : Ask). PrecedesAsk b a) asks (λ b most same. omega (arith, most, is.number_is, ap (λ n. length (of_node n front)) (sym is.node_is ∙ same))) seen.had)
        (λ same. omega (arith, is.upto_within, is.number_is, ap (λ n. length (of_node n front)) (sym is.node_is ∙ same)));
    had = all_push (λ (b : Ask). b.upto ≤ length (of_node b.of (front ++ e ∷ []))) asks a
        (all_so _ (λ (b : Ask). b.upto ≤ length (of_node b.of (front ++ e ∷ []))) asks (λ b most. omega (arith, most, grows front e b.of)) seen.had) (omega (arith, is.upto_within, grows front e a.of));
    closes = λ family long. (
      λ each. let parts = has_parts front e start family each in
          all_push (IsMetAsk family) asks a ((seen.closes family long).0 parts.0) (λ has. is.needed family (parts.1 (omega (arith, has, is.number_is, ap (at family) is.node_is)))),
      λ met. let parts = push_all (IsMetAsk family) asks a met in
          has_all front e start family ((seen.closes family long).1 parts.0) (λ within. is.enough family long (parts.1 (omega (arith, within, is.number_is, ap (at family) is.node_is)))),
    );
  }

  event_seen : (o : Option Ask) → Asks start k e.node e.entry.tag o → IsSeen start (front ++ e ∷ []) (with_node_clock clocks e.node e.entry.clock) (asks ++ option_to_list o)
  event_seen None none = subst (λ (all : List Ask). IsSeen start (front ++ e ∷ []) (with_node_clock clocks e.node e.entry.clock) all) (sym (append-nil asks)) (quiet_seen none)
  event_seen (Some a) is = asking_seen a is

-- ---- the whole walk

list_at : (start : List Replaying) (j : ℕ) (r : Replaying) → slice_get start j ≡ Some r → list_of (map entries_ahead start) j ≡ entries_ahead r
list_at [] j r there = absurd (cc)
list_at (s ∷ start) zero r there = ap entries_ahead (same_Some s r there)
list_at (s ∷ start) (suc j) r there = list_at start j r there

no_list : (start : List Replaying) (j : ℕ) → length start ≤ j → list_of (map entries_ahead start) j ≡ []
no_list [] j past = refl
no_list (r ∷ start) zero past = absurd (omega (arith, past))
no_list (r ∷ start) (suc j) past = no_list start j (omega (arith, past))

counts_at : (start : List Replaying) (j : ℕ) → at (accepted_counts start) j ≡ length (list_of (map entries_ahead start) j)
counts_at [] j = refl
counts_at (r ∷ start) zero = refl
counts_at (r ∷ start) (suc j) = counts_at start j

lengths_at : (clocks : List (List ℕ)) (j : ℕ) → at (map length clocks) j ≡ length (get_or clocks j [])
lengths_at [] j = refl
lengths_at (own ∷ clocks) zero = refl
lengths_at (own ∷ clocks) (suc j) = lengths_at clocks j

module _ (ordered : Ordered) (sends : SendsFirst) (start : List Replaying) (replayers : AreGroupReplays start) (fits : ReplaysFit start) where
  own : (j : ℕ) → of_node j (events_of_replays start) ≡ list_of (map entries_ahead start) j
  own j = (ordered start fits).0.own j

  pub node_within : (k : ℕ) (e : NodeEvent Entry) → slice_get (events_of_replays start) k ≡ Some e → e.node < length start
  node_within k e there = elim (cases_lt e.node (length start)) [
    | inl within ↦ within
    | inr past ↦
        let none : of_node e.node (events_of_replays start) ≡ [] = own e.node ∙ no_list start e.node past in
        let front : of_node e.node (take (suc k) (events_of_replays start)) ≡ of_node e.node (take k (events_of_replays start)) ++ e.entry ∷ [] =
        ap (of_node e.node) (take_more (events_of_replays start) k e there) ∙ own_more e.node (take k (events_of_replays start)) e refl in
        let taken = own_take e.node (suc k) (events_of_replays start) in
        absurd (omega (
          arith,
          ap length front,
          length-append (of_node e.node (take k (events_of_replays start))) (e.entry ∷ []),
          ap length taken,
          ap (λ (l : List Entry). length (take (length (of_node e.node (take (suc k) (events_of_replays start)))) l)) none,
          length_nothing (length (of_node e.node (take (suc k) (events_of_replays start)))),
        ))
  ] where
    length_nothing : (n : ℕ) → length (take n no_entries) ≡ 0
    length_nothing zero = refl
    length_nothing (suc n) = refl

  pub are_clocks : (k : ℕ) (clocks : List (List ℕ)) (asks : List Ask) → IsSeen start (take k (events_of_replays start)) clocks asks → AreClocks (length start) clocks
  are_clocks k clocks asks seen = record {
    count = seen.count;
    rise = λ node. subst AreRisingClocks (sym (seen.so_far node)) (own_rises node (take k (events_of_replays start)) (sorted_take k (events_of_replays start) (ordered start fits).0.sorted));
  }

  pub one_seen : (k : ℕ) (e : NodeEvent Entry) (clocks : List (List ℕ)) (asks : List Ask) → slice_get (events_of_replays start) k ≡ Some e → IsSeen start (take k (events_of_replays start)) clocks asks
      → IsSeen start (take (suc k) (events_of_replays start)) (with_node_clock clocks e.node e.entry.clock) (asks ++ option_to_list (ask_of (process_numbers start) clocks e))
  one_seen k e clocks asks there seen =
      let asks_so = event_asks sends start fits replayers.ascends (λ j r at_j. own j ∙ list_at start j r at_j) clocks k seen.so_far e there in
      subst (λ (front : List (NodeEvent Entry)). IsSeen start front (with_node_clock clocks e.node e.entry.clock) (asks ++ option_to_list (ask_of (process_numbers start) clocks e))) (sym (take_more (events_of_replays start) k e there))
      (event_seen start k clocks asks e seen (node_within k e there) (ask_of (process_numbers start) clocks e) asks_so)

  pub all_counted : (clocks : List (List ℕ)) (asks : List Ask) → IsSeen start (events_of_replays start) clocks asks → map length clocks ≡ accepted_counts start
  all_counted clocks asks seen = within_both (map length clocks) (accepted_counts start) (within_from _ _ long (λ j. omega (arith, same j))) (within_from _ _ (sym long) (λ j. omega (arith, same j))) where
    long : length (map length clocks) ≡ length (accepted_counts start)
    long = length-map clocks length ∙ seen.count ∙ sym (length-map start (λ (r : Replaying). length (entries_ahead r)))

    same : (j : ℕ) → at (map length clocks) j ≡ at (accepted_counts start) j
    same j =
        lengths_at clocks j ∙ ap length (seen.so_far j) ∙ length-map (of_node j (events_of_replays start)) entry_clock ∙ ap length (own j) ∙ sym (counts_at start j)

  pub all_asked : (clocks : List (List ℕ)) (asks : List Ask) → IsSeen start (events_of_replays start) clocks asks → AreAsks start asks
  all_asked clocks asks seen = record {
    within = seen.within;
    counted = seen.counted;
    ordered = seen.ordered;
    had = all_so _ (IsMetAsk (accepted_counts start)) asks (λ (a : Ask) most has. omega (arith, most, ap length (own a.of), counts_at start a.of)) seen.had;
    closes = λ family long. (
      λ closed. (seen.closes family long).0 (λ j m x within there. each_passes (has_asked start family) start family closed j m x within (ap (λ (l : List Entry). slice_get l m) (sym (own j)) ∙ there)),
      λ met. passes_each (has_asked start family) start family (λ j m x within there. (seen.closes family long).1 met j m x within (ap (λ (l : List Entry). slice_get l m) (own j) ∙ there)),
    );
  }

-- ---- a group that walks

-- the walk of a group has reached a position
pub record IsWalked (first here : GroupPlace) (clocks : List (List ℕ)) (asks : List Ask) : Type 0 where
  pub start : here.start ≡ first.start
  pub within : here.at ≤ length (events_of_replays first.start)
  pub seen : IsSeen first.start (take here.at (events_of_replays first.start)) clocks asks

pub walk_begins : (first : GroupPlace) (numbers : List ℕ) (clocks : List (List ℕ)) (asks : List Ask) → first.at ≡ 0 → numbers ≡ process_numbers first.start → clocks ≡ replicate (length numbers) no_clocks → asks ≡ []
    → IsWalked first first clocks asks
walk_begins first numbers clocks asks none are none_yet no_asks =
    let count : length numbers ≡ length first.start = ap length are ∙ length-map first.start (λ (r : Replaying). r.head.process) in
    let seen : IsSeen first.start [] clocks [] = subst (λ (all : List (List ℕ)). IsSeen first.start [] all []) (sym (none_yet ∙ ap (λ n. replicate n no_clocks) count)) (none_seen first.start) in
    record {
      start = refl;
      within = omega (arith, none);
      seen = subst (λ (all : List Ask). IsSeen first.start (take first.at (events_of_replays first.start)) clocks all) (sym no_asks)
          (subst (λ (n : ℕ). IsSeen first.start (take n (events_of_replays first.start)) clocks []) (sym none) seen);
    }

module _ (ordered : Ordered) (sends : SendsFirst) (first : GroupPlace) (replayers : AreGroupReplays first.start) (fits : ReplaysFit first.start) (numbers : List ℕ) (are : numbers ≡ process_numbers first.start)
    (old new : GroupPlace) (clocks : List (List ℕ)) (asks : List Ask) (so_far : IsWalked first old clocks asks) where
  count : length numbers ≡ length first.start
  count = ap length are ∙ length-map first.start (λ (r : Replaying). r.head.process)

  given : (event : GroupEvent) → GroupMoves old new (Some event) → slice_get (events_of_replays first.start) old.at ≡ Some (event_of event)
  given event moves = ap (λ (rs : List Replaying). slice_get (events_of_replays rs) old.at) (sym so_far.start) ∙ sym moves.gives

  pub few_nodes : length numbers ≤ 16
  few_nodes = omega (arith, count, replayers.few)

  pub clocks_ready : AreClocks (length numbers) clocks
  clocks_ready = subst (λ n. AreClocks n clocks) (sym count) (are_clocks ordered sends first.start replayers fits old.at clocks asks so_far.seen)

  pub node_ready : (event : GroupEvent) → GroupMoves old new (Some event) → event.node < length numbers
  node_ready event moves = omega (arith, node_within ordered sends first.start replayers fits old.at (event_of event) (given event moves), count)

  pub walk_more : (event : GroupEvent) (later : List (List ℕ)) (more : List Ask) → GroupMoves old new (Some event) → later ≡ with_node_clock clocks event.node event.entry.clock
      → more ≡ asks ++ option_to_list (ask_of numbers clocks (event_of event)) → IsWalked first new later more × (old.at < length (events_of_replays first.start)) × (new.at ≡ suc old.at)
  walk_more event later more moves added asked_so =
      let one : old.at + 1 ≡ suc old.at = omega arith in
      let at_new : new.at ≡ suc old.at = ap (λ (p : GroupPlace). p.at) moves.place ∙ one in
      let below_end = slice_get_within (events_of_replays first.start) old.at (event_of event) (given event moves) in
      let seen = one_seen ordered sends first.start replayers fits old.at (event_of event) clocks asks (given event moves) so_far.seen in
      let all : more ≡ asks ++ option_to_list (ask_of (process_numbers first.start) clocks (event_of event)) = asked_so ∙ ap (λ (ps : List ℕ). asks ++ option_to_list (ask_of ps clocks (event_of event))) are in (
        record {
          start = ap (λ (p : GroupPlace). p.start) moves.place ∙ so_far.start;
          within = omega (arith, below_end, at_new);
          seen = subst (λ (n : ℕ). IsSeen first.start (take n (events_of_replays first.start)) later more) (sym at_new)
              (subst (λ (cs : List (List ℕ)). IsSeen first.start (take (suc old.at) (events_of_replays first.start)) cs more) (sym added)
              (subst (λ (every : List Ask). IsSeen first.start (take (suc old.at) (events_of_replays first.start)) (with_node_clock clocks event.node event.entry.clock) every) (sym all) seen));
        },
        below_end,
        at_new,
      )

  -- there is no event more
  pub walk_ends : GroupMoves old new None → AreAsks first.start asks × (map length clocks ≡ accepted_counts first.start)
  walk_ends moves =
      let none : None ≡ slice_get (events_of_replays first.start) old.at = moves.gives ∙ ap (λ (rs : List Replaying). slice_get (events_of_replays rs) old.at) so_far.start in
      let end : old.at ≡ length (events_of_replays first.start) = omega (arith, so_far.within, past (events_of_replays first.start) old.at none) in
      let whole : take old.at (events_of_replays first.start) ≡ events_of_replays first.start = ap (λ n. take n (events_of_replays first.start)) end ∙ take-length (events_of_replays first.start) in
      let seen : IsSeen first.start (events_of_replays first.start) clocks asks = subst (λ (front : List (NodeEvent Entry)). IsSeen first.start front clocks asks) whole so_far.seen in
      (all_asked ordered sends first.start replayers fits clocks asks seen, all_counted ordered sends first.start replayers fits clocks asks seen)
