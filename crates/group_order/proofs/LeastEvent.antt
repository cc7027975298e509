-- The event that precedes all others comes first in the order.
use Rattle.std.proofs.Common.{◌≡◌, ℕ, ◌+◌, zero, suc, ◌<◌, ◌≤◌, true, false, cond, List, [], ◌∷◌, ◌++◌, map, append_assoc, Some, refl, ap, sym, ◌∙◌, arith}
use Rattle.std.specs.List.{AllByRecursion}
use Rattle.std.proofs.Math.ListN.{set}
use Rattle.std.proofs.lemmas.Bool.Decides.{nat_tests}
use Rattle.group_order.specs.Order.{ClocksRise, NodeEvent, events_from, first_clock, insert_event, list_of, node_event, event_precedes, sort_events}

module _ {X : Type 0} where
  pub all_so : (P Q : X → Type 0) (xs : List X) → ((x : X) → P x → Q x) → AllByRecursion P xs → AllByRecursion Q xs
  all_so P Q [] f all = tt
  all_so P Q (x ∷ xs) f all = (f x all.0, all_so P Q xs f all.1)

  pub all_append : (P : X → Type 0) (xs ys : List X) → AllByRecursion P xs → AllByRecursion P ys → AllByRecursion P (xs ++ ys)
  all_append P [] ys l m = m
  all_append P (x ∷ xs) ys l m = (l.0, all_append P xs ys l.1 m)

module _ {A : Type 0} (clock : A → ℕ) where
  -- the event precedes each of these
  abbrev pub Leads : NodeEvent A → List (NodeEvent A) → Type 0
  Leads a events = AllByRecursion (λ b. event_precedes clock a b ≡ true) events

  not_both : (a b : NodeEvent A) → event_precedes clock a b ≡ true → event_precedes clock b a ≡ false
  not_both a b p = grind (arith, nat_tests)

  leads_insert : (a b : NodeEvent A) (events : List (NodeEvent A)) → event_precedes clock a b ≡ true → Leads a events → Leads a (insert_event clock b events)
  leads_insert a b [] p l = (p, tt)
  leads_insert a b (e ∷ events) p l =
      elim (event_precedes clock e b) as (λ v. Leads a (cond v (e ∷ insert_event clock b events) (b ∷ e ∷ events))) [
        | true ↦ (l.0, leads_insert a b events p l.1)
        | false ↦ (p, l)
      ]

  pub leads_sort : (a : NodeEvent A) (events : List (NodeEvent A)) → Leads a events → Leads a (sort_events clock events)
  leads_sort a [] l = tt
  leads_sort a (b ∷ events) l = leads_insert a b (sort_events clock events) l.0 (leads_sort a events l.1)

  insert_least : (a : NodeEvent A) (events : List (NodeEvent A)) → Leads a events → insert_event clock a events ≡ a ∷ events
  insert_least a [] l = refl
  insert_least a (b ∷ events) l = ap (λ v. cond v (b ∷ insert_event clock a events) (a ∷ b ∷ events)) (not_both a b l.0)

  -- wherever it stood
  pub sort_least : (a : NodeEvent A) (before behind : List (NodeEvent A)) → Leads a before → Leads a behind
      → sort_events clock (before ++ a ∷ behind) ≡ a ∷ sort_events clock (before ++ behind)
  sort_least a [] behind l m = insert_least a (sort_events clock behind) (leads_sort a behind m)
  sort_least a (b ∷ before) behind l m =
      ap (insert_event clock b) (sort_least a before behind l.1 m)
      ∙ ap (λ v. cond v (a ∷ insert_event clock b (sort_events clock (before ++ behind))) (b ∷ a ∷ sort_events clock (before ++ behind))) l.0

  -- ---- the events of lists whose clocks rise

  -- no event of a list comes before its first
  floor : (c : ℕ) (xs : List A) → ClocksRise clock xs → ((at : ℕ) → first_clock clock xs ≡ Some at → c ≤ at) → AllByRecursion (λ y. c ≤ clock y) xs
  floor c [] rises f = tt
  floor c (x ∷ xs) rises f =
      let here : c ≤ clock x = f (clock x) refl in
      (here, all_so (λ y. clock x < clock y) (λ y. c ≤ clock y) xs (λ y l. omega (arith, l, here)) rises.0)

  later : (a : NodeEvent A) (node : ℕ) (y : A) → clock a.entry < clock y → event_precedes clock a (node_event node y) ≡ true
  later a node y l = grind (arith, nat_tests)

  tied : (a : NodeEvent A) (node : ℕ) (y : A) → a.node < node → clock a.entry ≤ clock y → event_precedes clock a (node_event node y) ≡ true
  tied a node y h l = grind (arith, nat_tests)

  all_events : (P : A → Type 0) (Q : NodeEvent A → Type 0) (node : ℕ) (xs : List A) → ((x : A) → P x → Q (node_event node x)) → AllByRecursion P xs → AllByRecursion Q (map (node_event node) xs)
  all_events P Q node [] f all = tt
  all_events P Q node (x ∷ xs) f all = (f x all.0, all_events P Q node xs f all.1)

  -- it precedes the events of the nodes after its own
  leads_behind : (a : NodeEvent A) (node : ℕ) (lists : List (List A)) → a.node < node → AllByRecursion (ClocksRise clock) lists
      → ((j at : ℕ) → first_clock clock (list_of lists j) ≡ Some at → clock a.entry ≤ at) → Leads a (events_from node lists)
  leads_behind a node [] h rises f = tt
  leads_behind a node (xs ∷ lists) h rises f =
      all_append _ (map (node_event node) xs) (events_from (suc node) lists)
      (all_events (λ y. clock a.entry ≤ clock y) _ node xs (λ y l. tied a node y h l) (floor (clock a.entry) xs rises.0 (f 0)))
      (leads_behind a (suc node) lists (omega (arith, h)) rises.1 (λ j. f (suc j)))

  -- where an event stands among others, and what is left without it
  pub record Split (a : NodeEvent A) (whole left : List (NodeEvent A)) : Type 0 where
    pub before : List (NodeEvent A)
    pub behind : List (NodeEvent A)
    pub whole_is : whole ≡ before ++ a ∷ behind
    pub left_is : left ≡ before ++ behind
    pub leads : Leads a before
    pub leads_rest : Leads a behind

  same_event : (a : NodeEvent A) (node : ℕ) → a.node ≡ node + 0 → node_event node a.entry ≡ a
  same_event a node h = let same : node ≡ a.node = omega (arith, h) in ap (λ n. node_event n a.entry) same

  pub split : (a : NodeEvent A) (node : ℕ) (lists : List (List A)) (k : ℕ) (xs : List A) → a.node ≡ node + k → list_of lists k ≡ a.entry ∷ xs → AllByRecursion (ClocksRise clock) lists
      → ((j at : ℕ) → first_clock clock (list_of lists j) ≡ Some at → clock a.entry ≤ at)
      → ((j : ℕ) → first_clock clock (list_of lists j) ≡ Some (clock a.entry) → k ≤ j)
      → Split a (events_from node lists) (events_from node (set lists k xs))
  split a node [] k xs at is rises least tie = absurd (cc)
  split a node (ys ∷ lists) zero xs at is rises least tie =
      let own : ClocksRise clock (a.entry ∷ xs) = rw is at rises.0 in
      record {
        before = [];
        behind = map (node_event node) xs ++ events_from (suc node) lists;
        whole_is = ap (λ l. map (node_event node) l ++ events_from (suc node) lists) is ∙ ap (λ e. e ∷ (map (node_event node) xs ++ events_from (suc node) lists)) (same_event a node at);
        left_is = refl;
        leads = tt;
        leads_rest =
            all_append _ (map (node_event node) xs) (events_from (suc node) lists)
            (all_events (λ y. clock a.entry < clock y) _ node xs (later a node) own.0)
            (leads_behind a (suc node) lists (omega (arith, at)) rises.1 (λ j. least (suc j)));
      }
  split a node (ys ∷ lists) (suc k) xs at is rises least tie =
      let s = split a (suc node) lists k xs (omega (arith, at)) is rises.1 (λ j. least (suc j)) (λ j e. let t = tie (suc j) e in omega (arith, t)) in
      let above : (c : ℕ) → first_clock clock ys ≡ Some c → suc (clock a.entry) ≤ c =
      λ c e.
      let le = least 0 c e in
      let differs : clock a.entry ≡ c → ⊥ = λ same. let t = tie 0 (e ∙ ap Some (sym same)) in omega (arith, t) in
      grind (arith, le, differs)
      in
      record {
        before = map (node_event node) ys ++ s.before;
        behind = s.behind;
        whole_is = ap (λ l. map (node_event node) ys ++ l) s.whole_is ∙ sym (append_assoc (map (node_event node) ys) s.before (a ∷ s.behind));
        left_is = ap (λ l. map (node_event node) ys ++ l) s.left_is ∙ sym (append_assoc (map (node_event node) ys) s.before s.behind);
        leads =
            all_append _ (map (node_event node) ys) s.before
            (all_events (λ y. suc (clock a.entry) ≤ clock y) _ node ys (λ y l. later a node y (omega (arith, l))) (floor (suc (clock a.entry)) ys rises.0 above))
            s.leads;
        leads_rest = s.leads_rest;
      }
