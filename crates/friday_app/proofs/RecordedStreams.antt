-- Of a recording no datagram is stranger to the streams where it is taken than where it was sent.
use Rattle.std.proofs.Common.{◌≡◌, ◌∙◌, ◌⊎◌, ◌<◌, ◌≤◌, ◌+◌, ◌++◌, ℕ, zero, suc, Bool, true, false, cond, List, [], ◌∷◌, length, map, take, Option, Some, None, ap, arith, append_assoc, inl, inr, refl, subst, sym}
use Rattle.std.specs.Prelude.{◌==◌, ◌&&◌, ◌||◌, nat_lt, filter, reverse, slice_get}
use Rattle.std.specs.List.{AllByRecursion, flat_map, range_with_len, slice_index_or, AllZip, list_any}
use Rattle.std.proofs.lemmas.Bool.{cases_lt, eq-eqb, eqb-true}
use Rattle.std.proofs.lemmas.Bool.Decides.{nat_tests}
use Rattle.std.proofs.lemmas.Grind.{flat_map-append}
use Rattle.std.proofs.lemmas.List.{reverse-append}
use Rattle.std.proofs.lemmas.Option.{same_Some, slice_get_within}
use Rattle.lamport_tag.specs.declared.Tag.{Tag}
use Rattle.lib_calls.specs.Traffic.{is_sent, is_taken}
use Rattle.lib_calls.specs.declared.entry.Entry.{Entry}
use Rattle.call_log.specs.Head.{Head}
use Rattle.group_order.specs.Order.{IsSorted, NodeEvent, list_of, node_event, of_node, event_precedes}
use Rattle.group_record.specs.Run.{RunStep, entries_of_steps, processes_in_group}
use Rattle.group_state.specs.Place.{entry_clock, events_of_replays, group_count}
use Rattle.proc_replay.specs.Replaying.{Replaying}
use Rattle.byte_streams.specs.Laws.{IsTakenOf, IsUnsent, StrangeBySend, is_send_at}
use Rattle.byte_streams.specs.Traffic.{Sent, SendOrReceive, mark_of_receive}
use Rattle.headline.specs.Headline.{sorted_of}
use Rattle.headline.specs.Shown.{FromOutside, FromSend, RecordedRun, ShowsProcess}
use Rattle.streams_command.specs.Streams.{process_at, received_traffic, traffic_by, traffic_of_events, traffic_of_event}
use Rattle.streams_command.specs.Positions.{traffic_before}
use Rattle.friday_app.specs.Streams.{RecordedStreams, receiving_of, sending_of, tag_of}

and_false : (b : Bool) → (b && false) ≡ false
and_false true = refl
and_false false = refl

all_so : {A : Type 0} (P Q : A → Type 0) (xs : List A) → ((x : A) → P x → Q x) → AllByRecursion P xs → AllByRecursion Q xs
all_so P Q [] so all = tt
all_so P Q (x ∷ xs) so all = (so x all.0, all_so P Q xs so all.1)

all_append : {A : Type 0} (P : A → Type 0) (xs ys : List A) → AllByRecursion P xs → AllByRecursion P ys → AllByRecursion P (xs ++ ys)
all_append P [] ys first second = second
all_append P (x ∷ xs) ys first second = (first.0, all_append P xs ys first.1 second)

-- ---- the events between two places of the order

-- these stand between, each after the first of the two
record Between (Q : NodeEvent Entry → Type 0) (es : List (NodeEvent Entry)) (i j : ℕ) (a : NodeEvent Entry) : Type 0 where
  mid : List (NodeEvent Entry)
  is : take j es ≡ take i es ++ (a ∷ mid)
  later : AllByRecursion (λ b. (event_precedes entry_clock a b ≡ true) × Q b) mid

module _ {X : Type 0} (P Q : X → Type 0) where
  both_taken : (n : ℕ) (xs : List X) → AllByRecursion P xs → AllByRecursion Q xs → AllByRecursion (λ x. P x × Q x) (take n xs)
  both_taken zero xs p q = tt
  both_taken (suc n) [] p q = tt
  both_taken (suc n) (x ∷ xs) p q = ((p.0, q.0), both_taken n xs p.1 q.1)

between : (Q : NodeEvent Entry → Type 0) (es : List (NodeEvent Entry)) → IsSorted entry_clock es → AllByRecursion Q es → (i j : ℕ) (a : NodeEvent Entry) → i < j → slice_get es i ≡ Some a → Between Q es i j a
between Q [] sorted all i j a less at = cc
between Q (x ∷ es) sorted all i zero a less at = absurd (omega (arith, less))
between Q (x ∷ es) sorted all zero (suc j) a less at =
    let same = same_Some x a at in
    record {
      mid = take j es;
      is = ap (λ (y : NodeEvent Entry). y ∷ take j es) same;
      later = both_taken (λ b. event_precedes entry_clock a b ≡ true) Q j es (subst (λ (y : NodeEvent Entry). AllByRecursion (λ b. event_precedes entry_clock y b ≡ true) es) same sorted.0) all.1;
    }
between Q (x ∷ es) sorted all (suc i) (suc j) a less at =
    let rest = between Q es sorted.1 all.1 i j a (omega (arith, less)) at in
    record { mid = rest.mid; is = ap (λ (ys : List (NodeEvent Entry)). x ∷ ys) rest.is; later = rest.later }

-- ---- nodes and their processes

-- a node that has an event is one of those whose lists these are
none_beyond : (n : ℕ) (es : List (NodeEvent Entry)) → ((node : ℕ) → n ≤ node → of_node node es ≡ []) → AllByRecursion (λ e. e.node < n) es
none_beyond n [] none = tt
none_beyond n (e ∷ es) none = (first (cases_lt e.node n), none_beyond n es (λ node above. behind node (e.node == node) (none node above))) where
  here : of_node e.node (e ∷ es) ≡ e.entry ∷ of_node e.node es
  here = ap (λ b. map (λ (x : NodeEvent Entry). x.entry) (cond b (e ∷ filter (λ x. x.node == e.node) es) (filter (λ x. x.node == e.node) es))) (eq-eqb e.node e.node refl)

  first : (e.node < n) ⊎ (n ≤ e.node) → e.node < n
  first (inl below) = below
  first (inr above) = let wrong = sym here ∙ none e.node above in cc

  behind : (node : ℕ) (b : Bool) → map (λ (x : NodeEvent Entry). x.entry) (cond b (e ∷ filter (λ x. x.node == node) es) (filter (λ x. x.node == node) es)) ≡ [] → of_node node es ≡ []
  behind node true is = cc
  behind node false is = is

list_beyond : {A : Type 0} (lists : List (List A)) (node : ℕ) → length lists ≤ node → list_of lists node ≡ []
list_beyond [] node above = refl
list_beyond (xs ∷ lists) zero above = absurd (omega (arith, above))
list_beyond (xs ∷ lists) (suc node) above = list_beyond lists node (omega (arith, above))

length_lists : (steps : List RunStep) (ps : List ℕ) → length (map (entries_of_steps steps) ps) ≡ length ps
length_lists steps [] = refl
length_lists steps (p ∷ ps) = ap suc (length_lists steps ps)

index_at : (ps : List ℕ) (node p : ℕ) → slice_get ps node ≡ Some p → slice_index_or ps node 0 ≡ p
index_at [] node p at = cc
index_at (q ∷ ps) zero p at = same_Some q p at
index_at (q ∷ ps) (suc node) p at = index_at ps node p at

-- each number is below those after it
abbrev Ascend : List ℕ → Type 0
Ascend [] = Unit {0}
Ascend (p ∷ ps) = AllByRecursion (λ q. p < q) ps × Ascend ps

filter_above : (low : ℕ) (test : ℕ → Bool) (a n : ℕ) → low < a → AllByRecursion (λ q. low < q) (filter test (range_with_len a n))
filter_above low test a zero less = tt
filter_above low test a (suc n) less = by_test (test a) (filter_above low test (a + 1) n (omega (arith, less))) where
  by_test : (b : Bool) → AllByRecursion (λ q. low < q) (filter test (range_with_len (a + 1) n)) → AllByRecursion (λ q. low < q) (cond b (a ∷ filter test (range_with_len (a + 1) n)) (filter test (range_with_len (a + 1) n)))
  by_test true rest = (less, rest)
  by_test false rest = rest

filter_ascends : (test : ℕ → Bool) (a n : ℕ) → Ascend (filter test (range_with_len a n))
filter_ascends test a zero = tt
filter_ascends test a (suc n) = by_test (test a) (filter_above a test (a + 1) n (omega arith)) (filter_ascends test (a + 1) n) where
  by_test : (b : Bool) → AllByRecursion (λ q. a < q) (filter test (range_with_len (a + 1) n)) → Ascend (filter test (range_with_len (a + 1) n)) → Ascend (cond b (a ∷ filter test (range_with_len (a + 1) n)) (filter test (range_with_len (a + 1) n)))
  by_test true above rest = (above, rest)
  by_test false above rest = rest

sorted_ascend : (count : ℕ) (ps : List ℕ) → Ascend (sorted_of count ps)
sorted_ascend count ps = filter_ascends (λ p. list_any (λ q. q == p) ps) 0 count

-- a number after the first is above it
above_first : (first : ℕ) (ps : List ℕ) → AllByRecursion (λ q. first < q) ps → (node : ℕ) → node < length ps → first < slice_index_or ps node 0
above_first first [] all node within = absurd (omega (arith, within))
above_first first (p ∷ ps) all zero within = all.0
above_first first (p ∷ ps) all (suc node) within = above_first first ps all.1 node (omega (arith, within))

-- of numbers that ascend each is at one place
one_place : (ps : List ℕ) → Ascend ps → (m n : ℕ) → m < length ps → n < length ps → slice_index_or ps m 0 ≡ slice_index_or ps n 0 → m ≡ n
one_place [] up m n first second same = absurd (omega (arith, first))
one_place (p ∷ ps) up zero zero first second same = refl
one_place (p ∷ ps) up zero (suc n) first second same = absurd (omega (arith, same, above_first p ps up.0 n (omega (arith, second))))
one_place (p ∷ ps) up (suc m) zero first second same = absurd (omega (arith, same, above_first p ps up.0 m (omega (arith, first))))
one_place (p ∷ ps) up (suc m) (suc n) first second same = ap suc (one_place ps up.1 m n (omega (arith, first)) (omega (arith, second)) same)

-- ---- a send and the traffic after it

-- none of the events between is a send of the same process at the same clock
module _ (count : ℕ) (start : List Replaying) (q clock : ℕ) where
  abbrev told : NodeEvent Entry → List SendOrReceive
  told e = traffic_of_event count (process_at start e.node) e.entry

  -- the event is of another process, or at another clock
  abbrev IsOther : NodeEvent Entry → Type 0
  IsOther e = ((process_at start e.node == q) && (e.entry.clock == clock)) ≡ false

  unsent_one : (e : NodeEvent Entry) → IsOther e → IsUnsent q clock (reverse (told e))
  unsent_one e other = by_kind (is_sent count e.entry) (is_taken e.entry) where
    by_tag : (tag : Option Tag) → IsUnsent q clock (reverse (received_traffic (process_at start e.node) e.entry tag))
    by_tag None = tt
    by_tag (Some tag) = (refl, tt)

    by_kind : (sent taken : Bool) → IsUnsent q clock (reverse (traffic_by sent taken (process_at start e.node) e.entry))
    by_kind true taken = (other, tt)
    by_kind false true = by_tag e.entry.tag
    by_kind false false = tt

  unsent : (mid : List (NodeEvent Entry)) → AllByRecursion IsOther mid → IsUnsent q clock (reverse (flat_map told mid))
  unsent [] all = tt
  unsent (e ∷ mid) all =
      subst (IsUnsent q clock) (sym (reverse-append (told e) (flat_map told mid)))
      (all_append (λ t. is_send_at q clock t ≡ false) (reverse (flat_map told mid)) (reverse (told e)) (unsent mid all.1) (unsent_one e all.0))

-- an event after the send in the order, of one of these nodes, is of another process or at another clock
other_event : (start : List Replaying) (ps : List ℕ) → map (λ (r : Replaying). r.head.process) start ≡ ps → Ascend ps → (q node : ℕ) (sent : Entry) (e : NodeEvent Entry) → process_at start node ≡ q → node < length ps
    → event_precedes entry_clock (node_event node sent) e ≡ true → e.node < length ps → ((process_at start e.node == q) && (e.entry.clock == sent.clock)) ≡ false
other_event start ps processes up q node sent e of within behind inside = by_process (process_at start e.node == q) refl where
  by_process : (b : Bool) → (process_at start e.node == q) ≡ b → (b && (e.entry.clock == sent.clock)) ≡ false
  by_process false is = refl
  by_process true is = by_clock (e.entry.clock == sent.clock) refl where
    by_clock : (b : Bool) → (e.entry.clock == sent.clock) ≡ b → b ≡ false
    by_clock false at = refl
    by_clock true at =
        let by_ps : (n : ℕ) → process_at start n ≡ slice_index_or ps n 0 = λ n. ap (λ (qs : List ℕ). slice_index_or qs n 0) processes in
        let same = eqb-true (process_at start e.node) q is in
        let one : e.node ≡ node = one_place ps up e.node node inside within (sym (by_ps e.node) ∙ same ∙ sym of ∙ by_ps node) in
        let clock : e.entry.clock ≡ sent.clock = eqb-true e.entry.clock sent.clock at in
        let not_sooner : nat_lt sent.clock e.entry.clock ≡ false = grind (arith, nat_tests, clock) in
        let not_lower : nat_lt node e.node ≡ false = grind (arith, nat_tests, one) in
        let never : event_precedes entry_clock (node_event node sent) e ≡ false =
        ap (λ b. b || ((sent.clock == e.entry.clock) && nat_lt node e.node)) not_sooner
        ∙ ap (λ b. (sent.clock == e.entry.clock) && b) not_lower ∙ and_false (sent.clock == e.entry.clock) in
        let wrong = sym behind ∙ never in cc

-- the traffic of some events, of this one, and of those after it
split_traffic : (f : NodeEvent Entry → List SendOrReceive) (front mid : List (NodeEvent Entry)) (e : NodeEvent Entry) (t : SendOrReceive) → f e ≡ t ∷ []
    → reverse (flat_map f (front ++ (e ∷ mid))) ≡ reverse (flat_map f mid) ++ (t ∷ reverse (flat_map f front))
split_traffic f front mid e t is =
    ap reverse (flat_map-append f front (e ∷ mid)) ∙ reverse-append (flat_map f front) (f e ++ flat_map f mid)
    ∙ ap (λ ts. ts ++ reverse (flat_map f front)) (reverse-append (f e) (flat_map f mid) ∙ ap (λ ts. reverse (flat_map f mid) ++ reverse ts) is)
    ∙ append_assoc (reverse (flat_map f mid)) (t ∷ []) (reverse (flat_map f front))

-- ---- the recording

module _ (strange : StrangeBySend) where
  processes_are : (run : RecordedRun) (cut : ℕ → List ℕ) (ps : List ℕ) (rs : List Replaying) → AllZip (ShowsProcess run cut) ps rs → map (λ (r : Replaying). r.head.process) rs ≡ ps
  processes_are run cut [] [] each = refl
  processes_are run cut (p ∷ ps) (r ∷ rs) each =
      ap (λ (h : Head). h.process ∷ map (λ (r : Replaying). r.head.process) rs) each.0.head ∙ ap (λ (qs : List ℕ). p ∷ qs) (processes_are run cut ps rs each.1)
  processes_are run cut [] (r ∷ rs) each = absurd each
  processes_are run cut (p ∷ ps) [] each = absurd each

  count_is : (run : RecordedRun) (cut : ℕ → List ℕ) (ps : List ℕ) (rs : List Replaying) → AllZip (ShowsProcess run cut) ps rs → (node p : ℕ) → slice_get ps node ≡ Some p → group_count rs ≡ processes_in_group run.group
  count_is run cut [] rs each node p at = cc
  count_is run cut (q ∷ ps) [] each node p at = absurd each
  count_is run cut (q ∷ ps) (r ∷ rs) each node p at = ap (λ (h : Head). h.count) each.0.head

  pub recorded_streams : RecordedStreams
  recorded_streams run cut folder ps pairs s j node p e at here taken (FromOutside bytes later early event split is given tag payload) = tt
  recorded_streams run cut folder ps pairs s j node p e at here taken (FromSend q k sent is_entry is_sent_into to tells stands) = λ small other other_at.
      let start = s.start in
      let sorted = sorted_of (processes_in_group run.group) ps in
      let order = events_of_replays start in
      let told_by = tells small in
      let place = stands small other other_at in
      let send_event : NodeEvent Entry = node_event other sent in
      let in_range = none_beyond (length sorted) order (λ n above. s.shows.recorded.order.own n ∙ list_beyond (map (entries_of_steps run.steps) sorted) n (omega (arith, above, length_lists run.steps sorted))) in
      let b = between (λ x. x.node < length sorted) order s.shows.recorded.order.sorted in_range place.0 j send_event place.1 place.2 in
      let processes = processes_are run cut sorted start s.each in
      let count = count_is run cut sorted start s.each other q other_at in
      let of_other : process_at start other ≡ q = ap (λ (qs : List ℕ). slice_index_or qs other 0) processes ∙ index_at sorted other q other_at in
      let within = slice_get_within sorted other q other_at in
      let sending = sending_of q sent in
      let others = all_so (λ x. (event_precedes entry_clock send_event x ≡ true) × (x.node < length sorted)) (IsOther (group_count start) start q sent.clock) b.mid
      (λ x h. other_event start sorted processes (sorted_ascend (processes_in_group run.group) ps) q other sent x of_other within h.0 h.1) b.later in
      let at_send : traffic_of_event (group_count start) (process_at start other) sent ≡ Sent sending ∷ [] =
      ap (λ t. traffic_by t (is_taken sent) (process_at start other) sent) (ap (λ n. is_sent n sent) count ∙ is_sent_into)
      ∙ ap (λ f. Sent (sending_of f sent) ∷ []) of_other in
      let before = traffic_before start place.0 in
      let early : traffic_before start j ≡ reverse (flat_map (told (group_count start) start q sent.clock) b.mid) ++ (Sent sending ∷ before) =
      ap (traffic_of_events start) b.is ∙ split_traffic (told (group_count start) start q sent.clock) (take place.0 order) b.mid send_event (Sent sending) at_send in
      let taken_of : IsTakenOf (receiving_of p (tag_of q sent) e) sending (reverse (flat_map (told (group_count start) start q sent.clock) b.mid)) e.call.a1 = record {
        sender = refl;
        clock = refl;
        by = sym to;
        front = told_by.payload;
        unsent = unsent (group_count start) start q sent.clock b.mid others;
      } in
      record {
        place = place.0;
        before = place.1;
        stands = place.2;
        named = told_by.tag;
        marks = λ well same. well (strange (receiving_of p (tag_of q sent) e) sending _ before e.call.a1 taken_of
            (sym (ap (mark_of_receive (receiving_of p (tag_of q sent) e)) early) ∙ same));
      }
