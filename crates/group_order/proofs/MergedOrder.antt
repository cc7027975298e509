-- The order is made by taking the first event of the node that comes next.
use Rattle.std.proofs.Common.{◌≡◌, inl, inr, ℕ, zero, suc, ◌<◌, ◌≤◌, ◌==◌, true, false, cond, List, [], ◌∷◌, ◌++◌, map, filter, length, length-append, Some, None, refl, ap, sym, subst, ◌∙◌, arith}
use Rattle.std.specs.List.{AllByRecursion}
use Rattle.std.proofs.Math.ListN.{set}
use Rattle.std.proofs.lemmas.Bool.{cases_eq}
use Rattle.std.proofs.lemmas.Bool.Decides.{nat_tests}
use Rattle.std.proofs.lemmas.List.{get_or-set_other, get_or-set_same}
use Rattle.std.proofs.lemmas.Option.{same_Some}
use Rattle.group_order.specs.Heads.{AreNoHeads, IsFirstNode, clock_of_node}
use Rattle.group_order.specs.Order.{OrderBeginsWith, ClocksRise, IsMergedOrder, IsOrder, NodeEvent, events_from, first_clock, first_clocks, list_of, node_event, of_node, order_of_events, event_precedes}
use Rattle.group_order.proofs.FirstHead.{first_of}
use Rattle.group_order.proofs.LeastEvent.{Leads, Split, leads_sort, sort_least, split, all_append, all_so}

module _ {A : Type 0} (clock : A → ℕ) where
  same_head : {x y : A} {xs ys : List A} → x ∷ xs ≡ y ∷ ys → x ≡ y
  same_head e = cc

  same_tail : {x y : A} {xs ys : List A} → x ∷ xs ≡ y ∷ ys → xs ≡ ys
  same_tail e = cc

  head_at : (lists : List (List A)) (node : ℕ) → clock_of_node (first_clocks clock lists) node ≡ first_clock clock (list_of lists node)
  head_at [] node = refl
  head_at (xs ∷ lists) zero = refl
  head_at (xs ∷ lists) (suc node) = head_at lists node

  -- a list that has a first event
  opened : (xs : List A) (at : ℕ) → first_clock clock xs ≡ Some at → (x : A) × (rest : List A) × (xs ≡ x ∷ rest) × (clock x ≡ at)
  opened [] at e = absurd (cc)
  opened (x ∷ rest) at e = (x, rest, refl, cc)

  within : (lists : List (List A)) (node : ℕ) (x : A) (rest : List A) → list_of lists node ≡ x ∷ rest → node < length lists
  within [] node x rest e = absurd (cc)
  within (xs ∷ lists) zero x rest e = omega arith
  within (xs ∷ lists) (suc node) x rest e = omega (arith, within lists node x rest e)

  rises_set : (lists : List (List A)) (node : ℕ) (x : A) (rest : List A) → AllByRecursion (ClocksRise clock) lists → list_of lists node ≡ x ∷ rest → AllByRecursion (ClocksRise clock) (set lists node rest)
  rises_set [] node x rest rises e = tt
  rises_set (xs ∷ lists) zero x rest rises e = let own : ClocksRise clock (x ∷ rest) = rw e at rises.0 in (own.1, rises.1)
  rises_set (xs ∷ lists) (suc node) x rest rises e = (rises.0, rises_set lists node x rest rises.1 e)

  -- what the node that comes next begins
  record Starts (lists : List (List A)) (node : ℕ) : Type 0 where
    pub begins : OrderBeginsWith clock lists node
    pub leads : Leads clock (node_event node begins.entry) (order_of_events clock (set lists node begins.rest))
    pub fewer : length (events_from 0 lists) ≡ suc (length (events_from 0 (set lists node begins.rest)))

  from_split : (lists : List (List A)) (node : ℕ) (x : A) (rest : List A) → AllByRecursion (ClocksRise clock) lists → list_of lists node ≡ x ∷ rest
      → Split clock (node_event node x) (events_from 0 lists) (events_from 0 (set lists node rest)) → Starts lists node
  from_split lists node x rest rises is s = record {
    begins = record {
      entry = x;
      rest = rest;
      list = is;
      rises = rises_set lists node x rest rises is;
      order = rw (s.whole_is, s.left_is) (sort_least clock (node_event node x) s.before s.behind s.leads s.leads_rest);
    };
    leads = rw s.left_is (leads_sort clock (node_event node x) (s.before ++ s.behind) (all_append _ s.before s.behind s.leads s.leads_rest));
    fewer = rw (s.whole_is, s.left_is, length-append, length-append) (omega arith);
  }

  from_opened : (lists : List (List A)) (node : ℕ) → AllByRecursion (ClocksRise clock) lists → (first : IsFirstNode (first_clocks clock lists) node)
      → (x : A) (rest : List A) → list_of lists node ≡ x ∷ rest → clock x ≡ first.clock → Starts lists node
  from_opened lists node rises first x rest is at =
      from_split lists node x rest rises is (split clock (node_event node x) 0 lists node rest (omega arith) is rises
      (λ j other e. let l = first.least j other (head_at lists j ∙ e) in omega (arith, l, at))
      (λ j e. first.tie j (head_at lists j ∙ e ∙ ap Some at)))

  starts : (lists : List (List A)) (node : ℕ) → AllByRecursion (ClocksRise clock) lists → IsFirstNode (first_clocks clock lists) node → Starts lists node
  starts lists node rises first =
      let o = opened (list_of lists node) first.clock (sym (head_at lists node) ∙ first.has) in
      from_opened lists node rises first o.0 o.1 o.2 o.3

  none_from : (node : ℕ) (lists : List (List A)) → AreNoHeads (first_clocks clock lists) → events_from node lists ≡ []
  none_from node [] none = refl
  none_from node ([] ∷ lists) none = none_from (suc node) lists (λ j. none (suc j))
  none_from node ((x ∷ xs) ∷ lists) none = let e = none 0 in absurd (cc)

  none_left : (lists : List (List A)) → AreNoHeads (first_clocks clock lists) → order_of_events clock lists ≡ []
  none_left lists none = rw (none_from 0 lists none) refl

  -- a list without a first event is empty
  empty_at : (xs : List A) → first_clock clock xs ≡ None → [] ≡ xs
  empty_at [] e = refl
  empty_at (x ∷ xs) e = absurd (cc)

  -- ---- the order has the lists' events, sorted

  -- what a node has among events, with one more in front
  first_own : (a : NodeEvent A) (events : List (NodeEvent A)) → of_node a.node (a ∷ events) ≡ a.entry ∷ of_node a.node events
  first_own a events =
      let test : (a.node == a.node) ≡ true = grind (arith, nat_tests) in
      ap (λ b. map (λ (e : NodeEvent A). e.entry) (cond b (a ∷ filter (λ e. e.node == a.node) events) (filter (λ e. e.node == a.node) events))) test

  other_own : (a : NodeEvent A) (events : List (NodeEvent A)) (node : ℕ) → (a.node ≡ node → ⊥) → of_node node (a ∷ events) ≡ of_node node events
  other_own a events node differs =
      let test : (a.node == node) ≡ false = grind (arith, nat_tests) in
      ap (λ b. map (λ (e : NodeEvent A). e.entry) (cond b (a ∷ filter (λ e. e.node == node) events) (filter (λ e. e.node == node) events))) test

  -- the first event of a node's list in front of the others
  own_more : (lists : List (List A)) (node : ℕ) (x : A) (rest : List A) (events : List (NodeEvent A)) → list_of lists node ≡ x ∷ rest
      → ((n : ℕ) → of_node n events ≡ list_of (set lists node rest) n) → (n : ℕ) → of_node n (node_event node x ∷ events) ≡ list_of lists n
  own_more lists node x rest events is own n = elim (cases_eq node n) [
    | inl same ↦
        let left : of_node node events ≡ rest = own node ∙ get_or-set_same lists node rest [] (within lists node x rest is) in
        ap (λ k. of_node k (node_event node x ∷ events)) (sym same) ∙ first_own (node_event node x) events ∙ ap (λ l. x ∷ l) left ∙ sym is ∙ ap (list_of lists) same
    | inr differs ↦ other_own (node_event node x) events n differs ∙ own n ∙ get_or-set_other lists node n rest [] (λ e. differs (sym e))
  ]

  -- one event in front of a shorter order
  one_more : (lists : List (List A)) (node : ℕ) (b : OrderBeginsWith clock lists node) → Leads clock (node_event node b.entry) (order_of_events clock (set lists node b.rest))
      → IsOrder clock (set lists node b.rest) (order_of_events clock (set lists node b.rest)) → IsOrder clock lists (order_of_events clock lists)
  one_more lists node b leads left = subst (IsOrder clock lists) (sym b.order) (record {
    sorted = (leads, left.sorted);
    own = own_more lists node b.entry b.rest (order_of_events clock (set lists node b.rest)) b.list left.own;
  })

  no_more : (lists : List (List A)) → AreNoHeads (first_clocks clock lists) → IsOrder clock lists (order_of_events clock lists)
  no_more lists none = subst (IsOrder clock lists) (sym (none_left lists none)) (record {
    sorted = tt;
    own = λ node. empty_at (list_of lists node) (sym (head_at lists node) ∙ none node);
  })

  is_order : (n : ℕ) (lists : List (List A)) → AllByRecursion (ClocksRise clock) lists → length (events_from 0 lists) ≤ n → IsOrder clock lists (order_of_events clock lists)
  is_order zero lists rises few = elim (first_of (first_clocks clock lists)) [
    | inr none ↦ no_more lists none
    | inl (node, first) ↦ absurd (omega (arith, few, (starts lists node rises first).fewer))
  ]
  is_order (suc n) lists rises few = elim (first_of (first_clocks clock lists)) [
    | inr none ↦ no_more lists none
    | inl (node, first) ↦
        let s = starts lists node rises first in
        one_more lists node s.begins s.leads (is_order n (set lists node s.begins.rest) s.begins.rises (omega (arith, few, s.fewer)))
  ]

  -- ---- no other list has these facts

  -- the first event of a node is among the events
  among : (P : NodeEvent A → Type 0) (events : List (NodeEvent A)) (node at : ℕ) → AllByRecursion P events → first_clock clock (of_node node events) ≡ Some at
      → (e : NodeEvent A) × (P e) × (e.node ≡ node) × (clock e.entry ≡ at)
  among P [] node at all e = absurd (cc)
  among P (a ∷ events) node at all e = elim (cases_eq a.node node) [
    | inl same ↦ (a, all.0, same, same_Some _ _ (ap (first_clock clock) (sym (first_own a events) ∙ ap (λ n. of_node n (a ∷ events)) same) ∙ e))
    | inr differs ↦ among P events node at all.1 (ap (first_clock clock) (sym (other_own a events node differs)) ∙ e)
  ]

  -- not after a, nor a tie of a lesser node
  record Above (a e : NodeEvent A) : Type 0 where
    pub clock_above : clock a.entry ≤ clock e.entry
    pub tie : clock a.entry ≡ clock e.entry → a.node ≤ e.node

  above : (a e : NodeEvent A) → event_precedes clock a e ≡ true → Above a e
  above a e p = record { clock_above = grind (arith, nat_tests); tie = λ t. grind (arith, nat_tests) }

  -- the first event of such a list is that of the node that comes next
  is_first : (lists : List (List A)) (a : NodeEvent A) (events : List (NodeEvent A)) → IsOrder clock lists (a ∷ events) → IsFirstNode (first_clocks clock lists) a.node
  is_first lists a events o =
      let found : (other at : ℕ) → clock_of_node (first_clocks clock lists) other ≡ Some at → (e : NodeEvent A) × Above a e × (e.node ≡ other) × (clock e.entry ≡ at) =
      λ other at e.
      among (Above a) (a ∷ events) other at
      (record { clock_above = omega arith; tie = λ t. omega arith }, all_so (λ b. event_precedes clock a b ≡ true) (Above a) events (above a) o.sorted.0)
      (ap (first_clock clock) (o.own other) ∙ sym (head_at lists other) ∙ e)
      in
      record {
        clock = clock a.entry;
        has = head_at lists a.node ∙ ap (first_clock clock) (sym (o.own a.node) ∙ first_own a events);
        least = λ other at e. let f = found other at e in let l = f.1.clock_above in omega (arith, l, f.3);
        tie = λ other e. let f = found other (clock a.entry) e in let t = f.1.tie (sym f.3) in omega (arith, t, f.2);
      }

  only : (events : List (NodeEvent A)) (lists : List (List A)) → AllByRecursion (ClocksRise clock) lists → IsOrder clock lists events → events ≡ order_of_events clock lists
  only [] lists rises o = sym (none_left lists (λ node. head_at lists node ∙ ap (first_clock clock) (sym (o.own node))))
  only (a ∷ events) lists rises o =
      let b = (starts lists a.node rises (is_first lists a events o)).begins in
      let own : b.entry ∷ b.rest ≡ a.entry ∷ of_node a.node events = sym b.list ∙ sym (o.own a.node) ∙ first_own a events in
      let entry : b.entry ≡ a.entry = same_head own in
      let rest : b.rest ≡ of_node a.node events = same_tail own in
      let left = only events (set lists a.node b.rest) b.rises (record {
        sorted = o.sorted.1;
        own = λ node. elim (cases_eq a.node node) [
          | inl same ↦
              ap (λ n. of_node n events) (sym same) ∙ sym rest ∙ sym (get_or-set_same lists a.node b.rest [] (within lists a.node b.entry b.rest b.list))
              ∙ ap (list_of (set lists a.node b.rest)) same
          | inr differs ↦
              sym (other_own a events node differs) ∙ o.own node ∙ sym (get_or-set_other lists a.node node b.rest [] (λ e. differs (sym e)))
        ];
      }) in
      ap (λ l. a ∷ l) left ∙ ap (λ x. node_event a.node x ∷ order_of_events clock (set lists a.node b.rest)) (sym entry) ∙ sym b.order

  pub merged : (lists : List (List A)) → AllByRecursion (ClocksRise clock) lists → IsMergedOrder clock lists
  merged lists rises = record {
    is = is_order (length (events_from 0 lists)) lists rises (omega arith);
    only = λ events o. only events lists rises o;
    begins = λ node first. (starts lists node rises first).begins;
    ends = none_left lists;
  }
