-- What each node has among events.
use Rattle.std.proofs.Common.{◌≡◌, ◌∙◌, ℕ, zero, suc, ◌≤◌, ◌<◌, ◌==◌, Bool, true, false, cond, List, [], ◌∷◌, ◌++◌, length, map, filter, take, Some, refl, ap, arith}
use Rattle.std.specs.Prelude.{slice_get}
use Rattle.std.specs.List.{AllByRecursion}
use Rattle.std.proofs.lemmas.Bool.Decides.{Decides-eqb, nat_tests}
use Rattle.std.proofs.lemmas.Option.{same_Some}
use Rattle.lib_calls.specs.declared.entry.Entry.{Entry}
use Rattle.group_order.specs.Order.{IsSorted, NodeEvent, of_node, event_precedes}
use Rattle.group_state.specs.Place.{entry_clock}
use Rattle.causal_cut.specs.inside.Asks.{AreRisingClocks}

abbrev entry_in : NodeEvent Entry → Entry
entry_in e = e.entry

abbrev is_of : ℕ → NodeEvent Entry → Bool
is_of node e = e.node == node

-- what the node has of one event and of others after it
abbrev with_first : NodeEvent Entry → List (NodeEvent Entry) → ℕ → Bool → List Entry
with_first e es node b = map entry_in (cond b (e ∷ filter (is_of node) es) (filter (is_of node) es))

-- ---- one event more

of_more : (node : ℕ) (es : List (NodeEvent Entry)) (e : NodeEvent Entry) → of_node node (es ++ e ∷ []) ≡ cond (e.node == node) (of_node node es ++ e.entry ∷ []) (of_node node es)
of_more node [] e = by_test (e.node == node) where
  by_test : (b : Bool) → map entry_in (cond b (e ∷ []) []) ≡ cond b (e.entry ∷ []) []
  by_test true = refl
  by_test false = refl
of_more node (x ∷ es) e = by_test (x.node == node) (e.node == node) (of_more node es e) where
  by_test : (a b : Bool) → of_node node (es ++ e ∷ []) ≡ cond b (of_node node es ++ e.entry ∷ []) (of_node node es)
      → with_first x (es ++ e ∷ []) node a ≡ cond b (with_first x es node a ++ e.entry ∷ []) (with_first x es node a)
  by_test true true rest = ap (λ l. x.entry ∷ l) rest
  by_test true false rest = ap (λ l. x.entry ∷ l) rest
  by_test false true rest = rest
  by_test false false rest = rest

is_other : (a b : ℕ) → (a ≡ b → ⊥) → (a == b) ≡ false
is_other a b other = grind (arith, nat_tests)

pub own_more : (node : ℕ) (es : List (NodeEvent Entry)) (e : NodeEvent Entry) → e.node ≡ node → of_node node (es ++ e ∷ []) ≡ of_node node es ++ e.entry ∷ []
own_more node es e same = of_more node es e ∙ ap (λ b. cond b (of_node node es ++ e.entry ∷ []) (of_node node es)) ((Decides-eqb e.node node).1 same)

pub other_more : (node : ℕ) (es : List (NodeEvent Entry)) (e : NodeEvent Entry) → (e.node ≡ node → ⊥) → of_node node (es ++ e ∷ []) ≡ of_node node es
other_more node es e other = of_more node es e ∙ ap (λ b. cond b (of_node node es ++ e.entry ∷ []) (of_node node es)) (is_other e.node node other)

-- ---- fronts

-- what a node has among the first events is a front of what it has among all
pub own_take : (node k : ℕ) (es : List (NodeEvent Entry)) → of_node node (take k es) ≡ take (length (of_node node (take k es))) (of_node node es)
own_take node zero es = refl
own_take node (suc k) [] = refl
own_take node (suc k) (e ∷ es) = by_test (own_take node k es) (e.node == node) where
  by_test : of_node node (take k es) ≡ take (length (of_node node (take k es))) (of_node node es) → (b : Bool)
      → with_first e (take k es) node b ≡ take (length (with_first e (take k es) node b)) (with_first e es node b)
  by_test rest true = ap (λ l. e.entry ∷ l) rest
  by_test rest false = rest

-- an event of a node that is none of the first k
pub record IsLater (k : ℕ) (es : List (NodeEvent Entry)) (x : Entry) : Type 0 where
  pub index : ℕ
  pub event : NodeEvent Entry
  pub behind : k ≤ index
  pub at : slice_get es index ≡ Some event
  pub is : event.entry ≡ x

one_later : (k : ℕ) (e : NodeEvent Entry) (es : List (NodeEvent Entry)) (x : Entry) → IsLater k es x → IsLater (suc k) (e ∷ es) x
one_later k e es x l = record { index = suc l.index; event = l.event; behind = omega (arith, l.behind); at = l.at; is = l.is }

pub is_later : (node k m : ℕ) (es : List (NodeEvent Entry)) (x : Entry) → slice_get (of_node node es) m ≡ Some x → length (of_node node (take k es)) ≤ m → IsLater k es x
is_later node k m [] x at past = absurd (cc)
is_later node zero m (e ∷ es) x at past = by_test (λ n there. is_later node zero n es x there (omega arith)) (e.node == node) m at where
  by_test : ((n : ℕ) → slice_get (of_node node es) n ≡ Some x → IsLater 0 es x) → (b : Bool) (n : ℕ) → slice_get (with_first e es node b) n ≡ Some x → IsLater 0 (e ∷ es) x
  by_test rest true zero at = record { index = 0; event = e; behind = omega arith; at = refl; is = same_Some e.entry x at }
  by_test rest true (suc n) at = let l = one_later 0 e es x (rest n at) in record { index = l.index; event = l.event; behind = omega arith; at = l.at; is = l.is }
  by_test rest false n at = let l = one_later 0 e es x (rest n at) in record { index = l.index; event = l.event; behind = omega arith; at = l.at; is = l.is }
is_later node (suc k) m (e ∷ es) x at past = by_test (λ n there left. one_later k e es x (is_later node k n es x there left)) (e.node == node) m at past where
  by_test : ((n : ℕ) → slice_get (of_node node es) n ≡ Some x → length (of_node node (take k es)) ≤ n → IsLater (suc k) (e ∷ es) x)
      → (b : Bool) (n : ℕ) → slice_get (with_first e es node b) n ≡ Some x → length (with_first e (take k es) node b) ≤ n → IsLater (suc k) (e ∷ es) x
  by_test rest true zero at past = absurd (omega (arith, past))
  by_test rest true (suc n) at past = rest n at (omega (arith, past))
  by_test rest false n at past = rest n at past

-- ---- clocks that rise

all_take : {A : Type 0} (P : A → Type 0) (n : ℕ) (xs : List A) → AllByRecursion P xs → AllByRecursion P (take n xs)
all_take P zero xs all = tt
all_take P (suc n) [] all = tt
all_take P (suc n) (x ∷ xs) all = (all.0, all_take P n xs all.1)

pub sorted_take : (n : ℕ) (es : List (NodeEvent Entry)) → IsSorted entry_clock es → IsSorted entry_clock (take n es)
sorted_take zero es sorted = tt
sorted_take (suc n) [] sorted = tt
sorted_take (suc n) (e ∷ es) sorted = (all_take (λ f. event_precedes entry_clock e f ≡ true) n es sorted.0, sorted_take n es sorted.1)

less_clock : (e f : NodeEvent Entry) (node : ℕ) → event_precedes entry_clock e f ≡ true → e.node ≡ node → (f.node == node) ≡ true → e.entry.clock < f.entry.clock
less_clock e f node before of same = grind (arith, nat_tests)

above_own : (node : ℕ) (e : NodeEvent Entry) (es : List (NodeEvent Entry)) → e.node ≡ node → AllByRecursion (λ f. event_precedes entry_clock e f ≡ true) es
    → AllByRecursion (λ clock. e.entry.clock < clock) (map entry_clock (of_node node es))
above_own node e [] of before = tt
above_own node e (f ∷ es) of before = by_test (above_own node e es of before.1) (f.node == node) (less_clock e f node before.0 of) where
  by_test : AllByRecursion (λ clock. e.entry.clock < clock) (map entry_clock (of_node node es)) → (b : Bool) → (b ≡ true → e.entry.clock < f.entry.clock)
      → AllByRecursion (λ clock. e.entry.clock < clock) (map entry_clock (with_first f es node b))
  by_test rest true less = (less refl, rest)
  by_test rest false less = rest

pub own_rises : (node : ℕ) (es : List (NodeEvent Entry)) → IsSorted entry_clock es → AreRisingClocks (map entry_clock (of_node node es))
own_rises node [] sorted = tt
own_rises node (e ∷ es) sorted = by_test (own_rises node es sorted.1) (e.node == node) (λ is. above_own node e es ((Decides-eqb e.node node).0 is) sorted.0) where
  by_test : AreRisingClocks (map entry_clock (of_node node es)) → (b : Bool) → (b ≡ true → AllByRecursion (λ clock. e.entry.clock < clock) (map entry_clock (of_node node es)))
      → AreRisingClocks (map entry_clock (with_first e es node b))
  by_test rest true above = (above refl, rest)
  by_test rest false above = rest
