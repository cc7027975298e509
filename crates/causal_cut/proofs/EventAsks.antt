-- What one event asks for.
use Rattle.std.proofs.Common.{◌≡◌, ◌∙◌, ℕ, zero, suc, ◌+◌, ◌≤◌, ◌<◌, ◌==◌, inl, inr, Bool, true, false, cond, List, [], ◌∷◌, length, map, get_or, take, Option, Some, None, refl, ap, sym, subst, arith}
use Rattle.std.specs.Prelude.{IsTrue, nat_le, option_and_then, option_map, position, slice_get}
use Rattle.std.specs.List.{position_from}
use Rattle.std.specs.Option.{option_map_or}
use Rattle.std.proofs.lemmas.Bool.{and_from, and_parts, cases_Bool, cases_lt, cases_order, le-leb, leb-true}
use Rattle.std.proofs.lemmas.Bool.Decides.{Decides-eqb}
use Rattle.std.proofs.lemmas.Iterator.Adapters.{position_from-zero}
use Rattle.std.proofs.lemmas.List.{length-map}
use Rattle.std.proofs.lemmas.Option.{same_Some, slice_get-map, slice_get_within}
use Rattle.lamport_tag.specs.declared.Tag.{Tag}
use Rattle.lib_calls.specs.declared.entry.Entry.{Entry}
use Rattle.group_order.specs.Order.{NodeEvent, of_node}
use Rattle.proc_replay.specs.Course.{entries_ahead}
use Rattle.proc_replay.specs.Replaying.{Replaying}
use Rattle.group_state.specs.Laws.{SendsFirst}
use Rattle.group_state.specs.Place.{AscendsByProcess, ReplaysFit, entry_clock, events_of_replays}
use Rattle.causal_cut.specs.declared.asks.Ask.{Ask}
use Rattle.causal_cut.specs.inside.Asks.{ask_by, ask_for, ask_of, number_among, process_numbers}
use Rattle.causal_cut.specs.Past.{count_asked, count_to, is_within_lengths}
use Rattle.causal_cut.proofs.Families.{at}
use Rattle.causal_cut.proofs.NodeEvents.{is_later, own_take}
use Rattle.causal_cut.proofs.ClockNumbers.{all_get}
use Rattle.causal_cut.proofs.ListPlaces.{IsPlace, NonePasses, front_place, place}

-- ---- how it is found

pub found_ask : (processes : List ℕ) (clocks : List (List ℕ)) (e : NodeEvent Entry) (tag : Tag) (of : ℕ) (n : Option ℕ) → e.entry.tag ≡ Some tag → position (λ p. p == tag.sender) processes ≡ Some of
    → number_among tag.clock (get_or clocks of []) ≡ n
    → ask_of processes clocks e ≡ option_map (λ upto. record { node = e.node; number = suc (length (get_or clocks e.node [])); of = of; upto = upto }) n
found_ask processes clocks e tag of n tagged found number =
    ap (option_and_then (ask_by processes clocks e.node)) tagged ∙ ap (option_and_then (ask_for clocks e.node tag.clock)) found ∙ ap (option_map (λ upto. record {
      node = e.node;
      number = suc (length (get_or clocks e.node []));
      of = of;
      upto = upto;
    })) number

pub lost_ask : (processes : List ℕ) (clocks : List (List ℕ)) (e : NodeEvent Entry) (tag : Tag) → e.entry.tag ≡ Some tag → position (λ p. p == tag.sender) processes ≡ None → ask_of processes clocks e ≡ None
lost_ask processes clocks e tag tagged lost = ap (option_and_then (ask_by processes clocks e.node)) tagged ∙ ap (option_and_then (ask_for clocks e.node tag.clock)) lost

-- ---- place by place

module _ (f : Replaying → ℕ) where
  pub within_places : (start : List Replaying) (family : List ℕ) → length family ≡ length start → ((j : ℕ) (r : Replaying) → slice_get start j ≡ Some r → f r ≤ at family j)
      → IsTrue (is_within_lengths (map f start) family)
  within_places [] [] same holds = refl
  within_places [] (n ∷ ns) same holds = absurd (omega (arith, same))
  within_places (r ∷ rs) [] same holds = absurd (omega (arith, same))
  within_places (r ∷ rs) (n ∷ ns) same holds =
      and_from (nat_le (f r) n) (is_within_lengths (map f rs) ns) (le-leb (f r) n (holds 0 r refl)) (within_places rs ns (omega (arith, same)) (λ j s there. holds (suc j) s there))

  pub places_within : (start : List Replaying) (family : List ℕ) → IsTrue (is_within_lengths (map f start) family) → (j : ℕ) (r : Replaying) → slice_get start j ≡ Some r → f r ≤ at family j
  places_within [] family within j r there = absurd (cc)
  places_within (s ∷ rs) [] within j r there = absurd (cc)
  places_within (s ∷ rs) (n ∷ ns) within zero r there =
      omega (arith, leb-true (f s) n (and_parts (nat_le (f s) n) (is_within_lengths (map f rs) ns) within).0, ap f (same_Some s r there))
  places_within (s ∷ rs) (n ∷ ns) within (suc j) r there = places_within rs ns (and_parts (nat_le (f s) n) (is_within_lengths (map f rs) ns) within).1 j r there

-- ---- the node of a process

abbrev process_of : Replaying → ℕ
process_of r = r.head.process

ascends_at : (start : List Replaying) (i j : ℕ) (r s : Replaying) → AscendsByProcess start → i < j → slice_get start i ≡ Some r → slice_get start j ≡ Some s → r.head.process < s.head.process
ascends_at [] i j r s up less at_i at_j = absurd (cc)
ascends_at (x ∷ start) i zero r s up less at_i at_j = absurd (omega (arith, less))
ascends_at (x ∷ start) zero (suc j) r s up less at_i at_j =
    let above : x.head.process < s.head.process = all_get (λ (y : Replaying). x.head.process < y.head.process) start j s up.0 at_j in
    subst (λ (y : Replaying). y.head.process < s.head.process) (same_Some x r at_i) above
ascends_at (x ∷ start) (suc i) (suc j) r s up less at_i at_j = ascends_at start i j r s up.1 (omega (arith, less)) at_i at_j

one_node : (start : List Replaying) (i j : ℕ) (r s : Replaying) → AscendsByProcess start → slice_get start i ≡ Some r → slice_get start j ≡ Some s → r.head.process ≡ s.head.process → i ≡ j
one_node start i j r s up at_i at_j same = elim (cases_order i j) [
  | inl is ↦ is
  | inr apart ↦ elim apart [
    | inl before ↦ absurd (omega (arith, ascends_at start i j r s up before at_i at_j, same))
    | inr behind ↦ absurd (omega (arith, ascends_at start j i s r up behind at_j at_i, same))
  ]
]

record IsMapped {A : Type 0} (f : A → ℕ) (xs : List A) (i y : ℕ) : Type 0 where
  from : A
  at : slice_get xs i ≡ Some from
  is : f from ≡ y

mapped : {A : Type 0} (f : A → ℕ) (xs : List A) (i y : ℕ) → slice_get (map f xs) i ≡ Some y → IsMapped f xs i y
mapped f [] i y there = absurd (cc)
mapped f (x ∷ xs) zero y there = record { from = x; at = refl; is = same_Some (f x) y there }
mapped f (x ∷ xs) (suc i) y there = let m = mapped f xs i y there in record { from = m.from; at = m.at; is = m.is }

map_at : {A : Type 0} (f : A → ℕ) (xs : List A) (i : ℕ) (x : A) → slice_get xs i ≡ Some x → slice_get (map f xs) i ≡ Some (f x)
map_at f xs i x there = slice_get-map f xs i ∙ ap (option_map f) there

-- ---- the event that a tag names

position_from_map : {A : Type 0} (test : ℕ → Bool) (f : A → ℕ) (n : ℕ) (xs : List A) → position_from test n (map f xs) ≡ position_from (λ x. test (f x)) n xs
position_from_map test f n [] = refl
position_from_map test f n (x ∷ xs) = ap (λ o. cond (test (f x)) (Some n) o) (position_from_map test f (n + 1) xs)

position_map : {A : Type 0} (test : ℕ → Bool) (f : A → ℕ) (xs : List A) → position test (map f xs) ≡ position (λ x. test (f x)) xs
position_map test f xs = position_from-zero test (map f xs) ∙ position_from_map test f 0 xs ∙ sym (position_from-zero (λ x. test (f x)) xs)

abbrev has_clock : ℕ → Entry → Bool
has_clock clock e = e.clock == clock

count_is : (place : Option ℕ) (n : ℕ) → option_map suc place ≡ Some n → option_map_or suc place 0 ≡ n
count_is None n is = absurd (cc)
count_is (Some i) n is = same_Some (suc i) n is

count_none : (place : Option ℕ) → option_map suc place ≡ None → option_map_or suc place 0 ≡ 0
count_none None is = refl
count_none (Some i) is = absurd (cc)

module _ (sends : SendsFirst) (start : List Replaying) (fits : ReplaysFit start) (k : ℕ) (taken : NodeEvent Entry) (there : slice_get (events_of_replays start) k ≡ Some taken) (tag : Tag)
    (tagged : taken.entry.tag ≡ Some tag) where
  -- it is among the events before, where it is accepted
  early : (node i : ℕ) (x : Entry) → slice_get (of_node node (events_of_replays start)) i ≡ Some x → has_clock tag.clock x ≡ true → i < length (of_node node (take k (events_of_replays start)))
  early node i x at named = elim (cases_lt i (length (of_node node (take k (events_of_replays start))))) [
    | inl before ↦ before
    | inr behind ↦
        let l = is_later node k i (events_of_replays start) x at behind in
        let clock : l.event.entry.clock ≡ tag.clock = ap (λ (e : Entry). e.clock) l.is ∙ (Decides-eqb x.clock tag.clock).0 named in
        absurd (omega (arith, sends start fits l.index k l.event taken tag l.at there tagged clock, l.behind))
  ]

  named_place : (node : ℕ) (r : Replaying) → of_node node (events_of_replays start) ≡ entries_ahead r
      → position (λ c. c == tag.clock) (map entry_clock (of_node node (take k (events_of_replays start)))) ≡ position (has_clock tag.clock) (entries_ahead r)
  named_place node r own =
      position_map (λ c. c == tag.clock) entry_clock (of_node node (take k (events_of_replays start)))
      ∙ ap (position (has_clock tag.clock)) (own_take node k (events_of_replays start))
      ∙ front_place (has_clock tag.clock) (of_node node (events_of_replays start)) (length (of_node node (take k (events_of_replays start)))) (early node)
      ∙ ap (position (has_clock tag.clock)) own

-- ---- what is asked

-- the event of this node after k others asks for what a tag names
abbrev Wants : List Replaying → Option Tag → List ℕ → Type 0
Wants start tag family = IsTrue (is_within_lengths (map (count_asked tag) start) family)

pub record IsAsk (start : List Replaying) (k node : ℕ) (tag : Option Tag) (a : Ask) : Type 0 where
  pub node_is : a.node ≡ node
  pub number_is : a.number ≡ suc (length (of_node node (take k (events_of_replays start))))
  pub of_within : a.of < length start
  pub upto_within : a.upto ≤ length (of_node a.of (take k (events_of_replays start)))
  pub enough : (family : List ℕ) → length family ≡ length start → a.upto ≤ at family a.of → Wants start tag family
  pub needed : (family : List ℕ) → Wants start tag family → a.upto ≤ at family a.of

abbrev pub Asks : List Replaying → ℕ → ℕ → Option Tag → Option Ask → Type 0
Asks start k node tag None = (family : List ℕ) → length family ≡ length start → Wants start tag family
Asks start k node tag (Some a) = IsAsk start k node tag a

-- what is asked of a log by a tag
asked_own : (tag : Tag) (r : Replaying) → r.head.process ≡ tag.sender → count_asked (Some tag) r ≡ count_to tag.clock (entries_ahead r)
asked_own tag r same = ap (λ b. cond b (count_to tag.clock (entries_ahead r)) 0) ((Decides-eqb r.head.process tag.sender).1 same)

asked_other : (tag : Tag) (r : Replaying) → (r.head.process == tag.sender) ≡ false → count_asked (Some tag) r ≡ 0
asked_other tag r other = ap (λ b. cond b (count_to tag.clock (entries_ahead r)) 0) other

module _ (sends : SendsFirst) (start : List Replaying) (fits : ReplaysFit start) (up : AscendsByProcess start) (own : (j : ℕ) (r : Replaying) → slice_get start j ≡ Some r → of_node j (events_of_replays start) ≡ entries_ahead r)
    (clocks : List (List ℕ)) (k : ℕ) (so_far : (j : ℕ) → get_or clocks j [] ≡ map entry_clock (of_node j (take k (events_of_replays start))))
    (taken : NodeEvent Entry) (there : slice_get (events_of_replays start) k ≡ Some taken) where
  abbrev ask_with : ℕ → ℕ → Ask
  ask_with of upto = record { node = taken.node; number = suc (length (get_or clocks taken.node [])); of = of; upto = upto }

  -- where the log of the sender has no such event
  none_named : (tag : Tag) (of : ℕ) (r : Replaying) → slice_get start of ≡ Some r → r.head.process ≡ tag.sender → count_to tag.clock (entries_ahead r) ≡ 0 → Asks start k taken.node (Some tag) None
  none_named tag of r at_of same none family long = within_places (count_asked (Some tag)) start family long (λ j s at_j. elim (cases_Bool (s.head.process == tag.sender)) [
    | inl is ↦
        let here : of ≡ j = one_node start of j r s up at_of at_j (same ∙ sym ((Decides-eqb s.head.process tag.sender).0 is)) in
        let one : r ≡ s = same_Some r s (sym at_of ∙ ap (slice_get start) here ∙ at_j) in
        omega (arith, asked_own tag s ((Decides-eqb s.head.process tag.sender).0 is), none, ap (λ (q : Replaying). count_to tag.clock (entries_ahead q)) one)
    | inr other ↦ omega (arith, asked_other tag s other)
  ])

  one_named : (tag : Tag) (of : ℕ) (r : Replaying) (upto : ℕ) → slice_get start of ≡ Some r → r.head.process ≡ tag.sender → count_to tag.clock (entries_ahead r) ≡ upto
      → upto ≤ length (of_node of (take k (events_of_replays start))) → IsAsk start k taken.node (Some tag) (ask_with of upto)
  one_named tag of r upto at_of same count within = record {
    node_is = refl;
    number_is = ap (λ (l : List ℕ). suc (length l)) (so_far taken.node) ∙ ap suc (length-map (of_node taken.node (take k (events_of_replays start))) entry_clock);
    of_within = slice_get_within start of r at_of;
    upto_within = within;
    enough = λ family long enough. within_places (count_asked (Some tag)) start family long (λ j s at_j. elim (cases_Bool (s.head.process == tag.sender)) [
      | inl is ↦
          let here : of ≡ j = one_node start of j r s up at_of at_j (same ∙ sym ((Decides-eqb s.head.process tag.sender).0 is)) in
          let one : r ≡ s = same_Some r s (sym at_of ∙ ap (slice_get start) here ∙ at_j) in
          omega (arith, asked_own tag s ((Decides-eqb s.head.process tag.sender).0 is), count, ap (λ (q : Replaying). count_to tag.clock (entries_ahead q)) one, enough, ap (at family) here)
      | inr other ↦ omega (arith, asked_other tag s other)
    ]);
    needed = λ family wants. omega (arith, places_within (count_asked (Some tag)) start family wants of r at_of, asked_own tag r same, count);
  }

  -- by the number of the named event among those before
  by_number : (tag : Tag) (of : ℕ) (r : Replaying) → taken.entry.tag ≡ Some tag → slice_get start of ≡ Some r → r.head.process ≡ tag.sender
      → (n : Option ℕ) → number_among tag.clock (get_or clocks of []) ≡ n → Asks start k taken.node (Some tag) (option_map (ask_with of) n)
  by_number tag of r tagged at_of same n number = by_value n counted number where
    before : position (λ c. c == tag.clock) (get_or clocks of []) ≡ position (has_clock tag.clock) (entries_ahead r)
    before = ap (position (λ c. c == tag.clock)) (so_far of) ∙ named_place sends start fits k taken there tag tagged of r (own of r at_of)

    counted : option_map suc (position (has_clock tag.clock) (entries_ahead r)) ≡ n
    counted = ap (option_map suc) (sym before) ∙ number

    below_all : (upto : ℕ) → number_among tag.clock (get_or clocks of []) ≡ Some upto → upto ≤ length (of_node of (take k (events_of_replays start)))
    below_all upto is = elim (place (λ c. c == tag.clock) (get_or clocks of [])) [
      | inl found ↦
          let within = slice_get_within (get_or clocks of []) found.0 found.2.item found.2.at in
          let one : suc found.0 ≡ upto = same_Some (suc found.0) upto (ap (option_map suc) (sym found.1) ∙ is) in
          omega (arith, within, one, ap length (so_far of), length-map (of_node of (take k (events_of_replays start))) entry_clock)
      | inr none ↦ absurd (cc (ap (option_map suc) none.0, is))
    ]

    by_value : (n : Option ℕ) → option_map suc (position (has_clock tag.clock) (entries_ahead r)) ≡ n → number_among tag.clock (get_or clocks of []) ≡ n → Asks start k taken.node (Some tag) (option_map (ask_with of) n)
    by_value None count number = none_named tag of r at_of same (count_none (position (has_clock tag.clock) (entries_ahead r)) count)
    by_value (Some upto) count number = one_named tag of r upto at_of same (count_is (position (has_clock tag.clock) (entries_ahead r)) upto count) (below_all upto number)

  -- where no log is of the sender
  no_sender : (tag : Tag) → NonePasses (λ p. p == tag.sender) (process_numbers start) → Asks start k taken.node (Some tag) None
  no_sender tag none family long = within_places (count_asked (Some tag)) start family long (λ j s at_j. omega (arith, asked_other tag s (none j s.head.process (map_at process_of start j s at_j))))

  by_place : (tag : Tag) → taken.entry.tag ≡ Some tag → IsPlace (λ p. p == tag.sender) (process_numbers start) → Asks start k taken.node (Some tag) (ask_by (process_numbers start) clocks taken.node tag)
  by_place tag tagged here = elim here [
    | inl found ↦
        let m = mapped process_of start found.0 found.2.item found.2.at in
        let same : m.from.head.process ≡ tag.sender = m.is ∙ (Decides-eqb found.2.item tag.sender).0 found.2.passes in
        subst (λ (o : Option ℕ). Asks start k taken.node (Some tag) (option_and_then (ask_for clocks taken.node tag.clock) o)) (sym found.1)
        (by_number tag found.0 m.from tagged m.at same (number_among tag.clock (get_or clocks found.0 [])) refl)
    | inr none ↦
        subst (λ (o : Option ℕ). Asks start k taken.node (Some tag) (option_and_then (ask_for clocks taken.node tag.clock) o)) (sym none.0) (no_sender tag none.1)
  ]

  by_tag : (t : Option Tag) → taken.entry.tag ≡ t → Asks start k taken.node t (option_and_then (ask_by (process_numbers start) clocks taken.node) t)
  by_tag None tagged = λ family long. within_places (count_asked None) start family long (λ j s at_j. omega arith)
  by_tag (Some tag) tagged = by_place tag tagged (place (λ p. p == tag.sender) (process_numbers start))

  -- what the code finds that it asks for
  pub event_asks : Asks start k taken.node taken.entry.tag (ask_of (process_numbers start) clocks taken)
  event_asks = by_tag taken.entry.tag refl
