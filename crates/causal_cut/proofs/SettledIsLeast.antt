-- The family that is settled is the least closed one that holds the event.
use Rattle.std.proofs.Common.{◌≡◌, ◌∙◌, ℕ, zero, suc, ◌≤◌, ◌<◌, inl, inr, true, cond, ◌&&◌, List, ◌++◌, length, drop, take, take_all, Some, None, refl, ap, sym, subst, arith}
use Rattle.std.specs.Prelude.{IsTrue, replicate}
use Rattle.std.proofs.lemmas.Bool.{and_from, and_parts, cases_eq, le-leb, leb-true}
use Rattle.std.proofs.lemmas.List.{get_or-set_other, get_or-set_same, length-map, length-replicate, length-set, take-append-le}
use Rattle.std.proofs.lemmas.Option.{get_or_from_slice_get, slice_get-get_or}
use Rattle.proc_replay.specs.Course.{entries_ahead}
use Rattle.proc_replay.specs.Replaying.{Replaying}
use Rattle.causal_cut.specs.declared.asks.Ask.{Ask}
use Rattle.causal_cut.specs.inside.Asks.{AreAsks, AreOfNodes, lengths_of_one, settled_family}
use Rattle.causal_cut.specs.Laws.{IsLeastPast}
use Rattle.causal_cut.specs.Past.{accepted_counts, closed_families, families_within_lengths, holds_event, is_closed_family, is_within_lengths, least_past, lengths_or_none}
use Rattle.causal_cut.proofs.Families.{AreBelow, all_families, all_filter, at, has_families, has_filter, least_is, within_from, within_length}
use Rattle.causal_cut.proofs.SettledFamily.{IsAlone, length_settled, settled_below, settled_exact, settled_meets}

-- ---- the event alone

zero_at : (n j : ℕ) → at (replicate n 0) j ≡ 0
zero_at zero j = refl
zero_at (suc n) zero = refl
zero_at (suc n) (suc j) = zero_at n j

pub length_alone : (nodes node event : ℕ) → length (lengths_of_one nodes node event) ≡ nodes
length_alone nodes node event = length-set (replicate nodes 0) node event ∙ length-replicate nodes 0

alone_at : (nodes node event : ℕ) → node < nodes → at (lengths_of_one nodes node event) node ≡ event
alone_at nodes node event within = get_or-set_same (replicate nodes 0) node event 0 (omega (arith, within, length-replicate {A = ℕ} nodes 0))

is_alone : (nodes node event : ℕ) → IsAlone node (lengths_of_one nodes node event)
is_alone nodes node event other apart = get_or-set_other (replicate nodes 0) node other event 0 apart ∙ zero_at nodes other

alone_below : (nodes node event : ℕ) (ms : List ℕ) → node < nodes → event ≤ at ms node → AreBelow (lengths_of_one nodes node event) ms
alone_below nodes node event ms within most other = elim (cases_eq other node) [
  | inl same ↦ omega (arith, ap (at (lengths_of_one nodes node event)) same, alone_at nodes node event within, most, ap (at ms) same)
  | inr apart ↦ omega (arith, is_alone nodes node event other apart)
]

-- ---- the least

pub settled_least : (start : List Replaying) (asks : List Ask) (node event : ℕ) → AreAsks start asks → node < length start → event ≤ at (accepted_counts start) node
    → IsLeastPast start node event (settled_family asks (lengths_of_one (length start) node event))
settled_least start asks node event a within most =
    let first = lengths_of_one (length start) node event in
    let long : length (settled_family asks first) ≡ length start = length_settled asks first ∙ length_alone (length start) node event in
    let counts : length (accepted_counts start) ≡ length start = length-map start (λ (r : Replaying). length (entries_ahead r)) in
    let own : at (settled_family asks first) node ≡ event =
    settled_exact node asks first (is_alone (length start) node event) a.counted a.ordered ∙ alone_at (length start) node event within in
    record {
      within = within_from (settled_family asks first) (accepted_counts start) (long ∙ sym counts) (settled_below asks first (accepted_counts start) (alone_below (length start) node event (accepted_counts start) within most) a.had);
      closed = (a.closes (settled_family asks first) long).1 (settled_meets asks first a.ordered (subst (λ n. AreOfNodes n asks) (sym (length_alone (length start) node event)) a.within));
      exact = slice_get-get_or (settled_family asks first) node 0 (omega (arith, long, within)) ∙ ap Some own;
      least = λ family few closed has.
          let wide : length family ≡ length start = within_length family (accepted_counts start) few ∙ counts in
          within_from (settled_family asks first) family (long ∙ sym wide)
          (settled_below asks first family (alone_below (length start) node event family within (leb-true event (at family node) has)) ((a.closes family wide).0 closed));
    }

-- ---- what the definition computes

least_past_is : (start : List Replaying) (node event : ℕ) (lengths : List ℕ) → IsLeastPast start node event lengths → least_past start node event ≡ lengths
least_past_is start node event lengths least =
    let counts = accepted_counts start in
    let test = λ (family : List ℕ). is_closed_family start family && holds_event node event family in
    let own : event ≤ at lengths node = omega (arith, get_or_from_slice_get lengths node event 0 least.exact) in
    least_is lengths counts (closed_families start node event) least.within
    (all_filter (λ (f : List ℕ). IsTrue (is_within_lengths lengths f)) test (families_within_lengths counts) (all_families (λ (f : List ℕ). test f ≡ true → IsTrue (is_within_lengths lengths f)) counts (λ f few passes.
    let parts = and_parts (is_closed_family start f) (holds_event node event f) passes in
    least.least f few parts.0 parts.1)))
    (has_filter test (families_within_lengths counts) lengths (has_families lengths counts least.within)
    (and_from (is_closed_family start lengths) (holds_event node event lengths) least.closed (le-leb event (at lengths node) own)))

pub some_lengths : (start : List Replaying) (node event : ℕ) (lengths : List ℕ) → event ≤ at (accepted_counts start) node → IsLeastPast start node event lengths
    → lengths_or_none start node event ≡ Some (record { kept = lengths; accepted = accepted_counts start })
some_lengths start node event lengths most least =
    ap (λ b. cond b (Some (record { kept = least_past start node event; accepted = accepted_counts start })) None) (le-leb event (at (accepted_counts start) node) most)
    ∙ ap (λ (kept : List ℕ). Some (record { kept = kept; accepted = accepted_counts start })) (least_past_is start node event lengths least)

-- ---- what the code keeps

-- what was written over a list of the same length
pub written_over : (n : ℕ) (new old : List ℕ) → length new ≡ n → take n (new ++ drop (length new) old) ≡ new
written_over n new old long = take-append-le n new (drop (length new) old) (omega (arith, long)) ∙ take_all n new (omega (arith, long))

module _ (start : List Replaying) (asks : List Ask) (counts kept : List ℕ) (node event : ℕ) (are : AreAsks start asks) (counted : counts ≡ accepted_counts start) (within : node < length start)
    (most : event ≤ at counts node) (is : kept ≡ settled_family asks (lengths_of_one (length counts) node event)) where
  enough : event ≤ at (accepted_counts start) node
  enough = omega (arith, most, ap (λ l. at l node) counted)

  pub is_least : IsLeastPast start node event kept
  is_least =
      let nodes : length counts ≡ length start = ap length counted ∙ length-map start (λ (r : Replaying). length (entries_ahead r)) in
      subst (IsLeastPast start node event) (sym (is ∙ ap (λ n. settled_family asks (lengths_of_one n node event)) nodes)) (settled_least start asks node event are within enough)

  pub answered : lengths_or_none start node event ≡ Some (record { kept = kept; accepted = counts })
  answered = some_lengths start node event kept enough is_least ∙ ap (λ (l : List ℕ). Some (record { kept = kept; accepted = l })) (sym counted)
