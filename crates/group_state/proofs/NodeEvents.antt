-- What each node has among events.
use Rattle.std.proofs.Common.{◌≡◌, inl, inr, ℕ, zero, suc, ◌≤◌, ◌<◌, ◌==◌, Bool, true, false, cond, List, [], ◌∷◌, ◌++◌, map, filter, length, take, drop, take-append-drop, Some, refl, sym, ap, subst, ◌∙◌, arith}
use Rattle.std.specs.Prelude.{slice_get}
use Rattle.std.specs.List.{AllByRecursion}
use Rattle.std.proofs.lemmas.Bool.{cases_Bool, cases_eq, cases_order}
use Rattle.std.proofs.lemmas.Bool.Decides.{nat_tests}
use Rattle.std.proofs.lemmas.List.{drop_at, length-append, map-append}
use Rattle.std.proofs.lemmas.List.Elements.{filter-append}
use Rattle.std.proofs.lemmas.Option.{same_Some}
use Rattle.group_order.specs.Order.{IsSorted, NodeEvent, insert_event, of_node, event_precedes, sort_events}
use Rattle.group_state.specs.Place.{entry_clock, node_event_count}
use Rattle.lib_calls.specs.declared.entry.Entry.{Entry}

-- the node of one event in front of others
node_at : (node : ℕ) (x : NodeEvent Entry) (es : List (NodeEvent Entry)) → (b : Bool) → (x.node == node) ≡ b
    → of_node node (x ∷ es) ≡ cond b (x.entry ∷ of_node node es) (of_node node es)
node_at node x es true is = ap (λ b. map (λ (e : NodeEvent Entry). e.entry) (cond b (x ∷ filter (λ e. e.node == node) es) (filter (λ e. e.node == node) es))) is
node_at node x es false is = ap (λ b. map (λ (e : NodeEvent Entry). e.entry) (cond b (x ∷ filter (λ e. e.node == node) es) (filter (λ e. e.node == node) es))) is

pub own_first : (node : ℕ) (x : NodeEvent Entry) (es : List (NodeEvent Entry)) → x.node ≡ node → of_node node (x ∷ es) ≡ x.entry ∷ of_node node es
own_first node x es same = node_at node x es true (grind (arith, nat_tests))

pub other_first : (node : ℕ) (x : NodeEvent Entry) (es : List (NodeEvent Entry)) → (x.node ≡ node → ⊥) → of_node node (x ∷ es) ≡ of_node node es
other_first node x es differs = node_at node x es false (grind (arith, nat_tests))

of_node-append : (node : ℕ) (xs ys : List (NodeEvent Entry)) → of_node node (xs ++ ys) ≡ of_node node xs ++ of_node node ys
of_node-append node xs ys = ap (map (λ (e : NodeEvent Entry). e.entry)) (filter-append (λ e. e.node == node) xs ys) ∙ map-append (λ (e : NodeEvent Entry). e.entry) _ _

pub of_node-drop : (node k : ℕ) (es : List (NodeEvent Entry)) → of_node node (drop k es) ≡ drop (node_event_count node (take k es)) (of_node node es)
of_node-drop node k es =
    let whole : of_node node es ≡ of_node node (take k es) ++ of_node node (drop k es) = ap (of_node node) (sym (take-append-drop k es)) ∙ of_node-append node (take k es) (drop k es) in
    sym (ap (drop (node_event_count node (take k es))) whole ∙ drop_at (of_node node (take k es)) (of_node node (drop k es)) _ refl)

pub count_take : (node k : ℕ) (es : List (NodeEvent Entry)) → node_event_count node (take k es) ≤ node_event_count node es
count_take node k es =
    let whole : of_node node es ≡ of_node node (take k es) ++ of_node node (drop k es) = ap (of_node node) (sym (take-append-drop k es)) ∙ of_node-append node (take k es) (drop k es) in
    omega (arith, ap length whole, length-append (of_node node (take k es)) (of_node node (drop k es)))

-- one event more, at the end
pub count_own : (node : ℕ) (es : List (NodeEvent Entry)) (x : NodeEvent Entry) → x.node ≡ node → node_event_count node (es ++ x ∷ []) ≡ suc (node_event_count node es)
count_own node es x same =
    omega (arith, ap length (of_node-append node es (x ∷ [])), length-append (of_node node es) (of_node node (x ∷ [])), ap length (own_first node x [] same))

pub count_other : (node : ℕ) (es : List (NodeEvent Entry)) (x : NodeEvent Entry) → (x.node ≡ node → ⊥) → node_event_count node (es ++ x ∷ []) ≡ node_event_count node es
count_other node es x differs =
    omega (arith, ap length (of_node-append node es (x ∷ [])), length-append (of_node node es) (of_node node (x ∷ [])), ap length (other_first node x [] differs))

-- what holds of all that a node has holds of its events
pub among_own : (P : Entry → Type 0) (es : List (NodeEvent Entry)) (j : ℕ) (x : NodeEvent Entry) → slice_get es j ≡ Some x → AllByRecursion P (of_node x.node es) → P x.entry
among_own P [] j x at all = absurd (cc)
among_own P (e ∷ es) zero x at all =
    let same : e ≡ x = same_Some e x at in
    let own : AllByRecursion P (e.entry ∷ of_node x.node es) = subst (AllByRecursion P) (own_first x.node e es (ap (λ (f : NodeEvent Entry). f.node) same)) all in
    subst (λ (f : NodeEvent Entry). P f.entry) same own.0
among_own P (e ∷ es) (suc j) x at all = elim (cases_eq e.node x.node) [
  | inl same ↦
      let own : AllByRecursion P (e.entry ∷ of_node x.node es) = subst (AllByRecursion P) (own_first x.node e es same) all in
      among_own P es j x at own.1
  | inr differs ↦ among_own P es j x at (subst (AllByRecursion P) (other_first x.node e es differs) all)
]

-- ---- sorted events

pub sorted_drop : (n : ℕ) (es : List (NodeEvent Entry)) → IsSorted entry_clock es → IsSorted entry_clock (drop n es)
sorted_drop zero es sorted = sorted
sorted_drop (suc n) [] sorted = tt
sorted_drop (suc n) (e ∷ es) sorted = sorted_drop n es sorted.1

all_at : (P : NodeEvent Entry → Type 0) (es : List (NodeEvent Entry)) (i : ℕ) (x : NodeEvent Entry) → AllByRecursion P es → slice_get es i ≡ Some x → P x
all_at P [] i x all at = absurd (cc)
all_at P (e ∷ es) zero x all at = subst P (same_Some e x at) all.0
all_at P (e ∷ es) (suc i) x all at = all_at P es i x all.1 at

sorted_at : (es : List (NodeEvent Entry)) (i j : ℕ) (x y : NodeEvent Entry) → IsSorted entry_clock es → i < j → slice_get es i ≡ Some x → slice_get es j ≡ Some y → event_precedes entry_clock x y ≡ true
sorted_at [] i j x y sorted less at_i at_j = absurd (cc)
sorted_at (e ∷ es) i zero x y sorted less at_i at_j = absurd (omega arith)
sorted_at (e ∷ es) zero (suc j) x y sorted less at_i at_j =
    all_at (λ f. event_precedes entry_clock x f ≡ true) es j y (subst (λ (d : NodeEvent Entry). AllByRecursion (λ f. event_precedes entry_clock d f ≡ true) es) (same_Some e x at_i) sorted.0) at_j
sorted_at (e ∷ es) (suc i) (suc j) x y sorted less at_i at_j = sorted_at es i j x y sorted.1 (omega arith) at_i at_j

precedes_clock : (x y : NodeEvent Entry) → event_precedes entry_clock x y ≡ true → x.entry.clock ≤ y.entry.clock
precedes_clock x y before = grind (arith, nat_tests)

-- an event with a lesser clock comes before one with a greater
pub stands_before : (es : List (NodeEvent Entry)) (i j : ℕ) (x y : NodeEvent Entry) → IsSorted entry_clock es → slice_get es i ≡ Some x → slice_get es j ≡ Some y → x.entry.clock < y.entry.clock → i < j
stands_before es i j x y sorted at_i at_j less = elim (cases_order i j) [
  | inl same ↦
      let one : x ≡ y = same_Some x y (sym at_i ∙ ap (slice_get es) same ∙ at_j) in
      absurd (omega (arith, ap (λ (e : NodeEvent Entry). e.entry.clock) one, less))
  | inr apart ↦ elim apart [
    | inl before ↦ before
    | inr behind ↦ let at_most = precedes_clock y x (sorted_at es j i y x sorted behind at_j at_i) in absurd (omega (arith, at_most, less))
  ]
]

-- ---- how many there are

length_insert : (x : NodeEvent Entry) (es : List (NodeEvent Entry)) → length (insert_event entry_clock x es) ≡ suc (length es)
length_insert x [] = refl
length_insert x (e ∷ es) = elim (cases_Bool (event_precedes entry_clock e x)) [
  | inl before ↦ rw before (ap suc (length_insert x es))
  | inr not ↦ rw not refl
]

pub length_sort : (es : List (NodeEvent Entry)) → length (sort_events entry_clock es) ≡ length es
length_sort [] = refl
length_sort (e ∷ es) = length_insert e (sort_events entry_clock es) ∙ ap suc (length_sort es)
