-- What a node has among the first events of the order is a front of what it has among all.
use Rattle.std.proofs.Common.{◌≡◌, ℕ, zero, suc, ◌≤◌, Bool, true, false, cond, List, [], ◌∷◌, ◌++◌, length, map, take, Some, refl, ap, arith}
use Rattle.std.specs.Prelude.{◌==◌, filter, slice_get}
use Rattle.std.proofs.lemmas.Option.{same_Some}
use Rattle.lib_calls.specs.declared.entry.Entry.{Entry}
use Rattle.group_order.specs.Order.{NodeEvent, list_of, of_node}

abbrev entry_in : NodeEvent Entry → Entry
entry_in e = e.entry

abbrev is_of : ℕ → NodeEvent Entry → Bool
is_of node e = e.node == node

-- some first ones of a list
pub record IsFront (part whole : List Entry) : Type 0 where
  pub count : ℕ
  pub within : count ≤ length whole
  pub is : part ≡ take count whole

pub front : (node k : ℕ) (es : List (NodeEvent Entry)) → IsFront (of_node node (take k es)) (of_node node es)
front node zero es = record { count = 0; within = omega arith; is = refl }
front node (suc k) [] = record { count = 0; within = omega arith; is = refl }
front node (suc k) (e ∷ es) = by_test (e.node == node) (front node k es) where
  by_test : (b : Bool) → IsFront (of_node node (take k es)) (of_node node es)
      → IsFront (map entry_in (cond b (e ∷ filter (is_of node) (take k es)) (filter (is_of node) (take k es)))) (map entry_in (cond b (e ∷ filter (is_of node) es) (filter (is_of node) es)))
  by_test true f = record { count = suc f.count; within = omega (arith, f.within); is = ap (λ l. e.entry ∷ l) f.is }
  by_test false f = record { count = f.count; within = f.within; is = f.is }

-- with one more event
pub of_more : (node : ℕ) (es : List (NodeEvent Entry)) (e : NodeEvent Entry) → of_node node (es ++ e ∷ []) ≡ cond (e.node == node) (of_node node es ++ e.entry ∷ []) (of_node node es)
of_more node [] e = by_test (e.node == node) where
  by_test : (b : Bool) → map entry_in (cond b (e ∷ []) []) ≡ cond b (e.entry ∷ []) []
  by_test true = refl
  by_test false = refl
of_more node (x ∷ es) e = by_test (x.node == node) (e.node == node) (of_more node es e) where
  by_test : (a b : Bool) → map entry_in (filter (is_of node) (es ++ e ∷ [])) ≡ cond b (of_node node es ++ e.entry ∷ []) (of_node node es)
      → map entry_in (cond a (x ∷ filter (is_of node) (es ++ e ∷ [])) (filter (is_of node) (es ++ e ∷ [])))
      ≡ cond b (map entry_in (cond a (x ∷ filter (is_of node) es) (filter (is_of node) es)) ++ e.entry ∷ []) (map entry_in (cond a (x ∷ filter (is_of node) es) (filter (is_of node) es)))
  by_test true true rest = ap (λ l. x.entry ∷ l) rest
  by_test true false rest = ap (λ l. x.entry ∷ l) rest
  by_test false true rest = rest
  by_test false false rest = rest

pub take_more : {A : Type 0} (xs : List A) (k : ℕ) (x : A) → slice_get xs k ≡ Some x → take (suc k) xs ≡ take k xs ++ x ∷ []
take_more [] k x at = cc
take_more (y ∷ xs) zero x at = ap (λ z. z ∷ []) (same_Some y x at)
take_more (y ∷ xs) (suc k) x at = ap (λ l. y ∷ l) (take_more xs k x at)

-- a front of a front
pub take_within : {A : Type 0} (n a : ℕ) (xs : List A) → n ≤ length (take a xs) → (take n (take a xs) ≡ take n xs) × (n ≤ a)
take_within zero a xs within = (refl, omega arith)
take_within (suc n) zero xs within = absurd (no n within) where
  no : (n : ℕ) → suc n ≤ 0 → ⊥
  no n h = omega (arith, h)
take_within (suc n) (suc a) [] within = (refl, absurd (no n within)) where
  no : (n : ℕ) → suc n ≤ 0 → ⊥
  no n h = omega (arith, h)
take_within (suc n) (suc a) (x ∷ xs) within =
    let rest = take_within n a xs (omega (arith, within)) in
    (ap (λ l. x ∷ l) rest.0, omega (arith, rest.1))

-- the list of a node
pub list_at : {A : Type 0} {B : Type 0} (f : A → List B) (xs : List A) (node : ℕ) (x : A) → slice_get xs node ≡ Some x → list_of (map f xs) node ≡ f x
list_at f [] node x at = cc
list_at f (y ∷ xs) zero x at = ap f (same_Some y x at)
list_at f (y ∷ xs) (suc node) x at = list_at f xs node x at
