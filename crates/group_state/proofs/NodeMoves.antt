-- At which positions nodes had their events.
use Rattle.std.proofs.Common.{◌≡◌, ◌<◌, ◌≤◌, ℕ, zero, suc, ◌+◌, ◌==◌, true, false, List, [], ◌∷◌, ◌++◌, length, length-take, get_or, set, take, drop, take-append-drop, Some, inl, inr, refl, sym, ap, ◌∙◌, subst, arith}
use Rattle.std.specs.Prelude.{nat_lt, replicate, slice_get}
use Rattle.std.proofs.lemmas.Bool.{cases_Bool, ltb-false, ltb-true}
use Rattle.std.proofs.lemmas.Bool.Decides.{nat_tests}
use Rattle.std.proofs.lemmas.List.{take_more, take-take}
use Rattle.std.proofs.lemmas.Option.{get_or_from_slice_get}
use Rattle.lib_calls.specs.declared.entry.Entry.{Entry}
use Rattle.group_order.specs.Motions.{Motions, no_motions, with_motion}
use Rattle.group_order.specs.Order.{NodeEvent}
use Rattle.proc_replay.specs.Replaying.{Replaying}
use Rattle.group_state.specs.inside.Motions.{AreMotions, motions_from, positions, positions_from}
use Rattle.group_state.specs.Place.{events_of_replays}
use Rattle.group_state.proofs.ReplaysAfter.{both}

-- ---- one event more

positions_own : (node at : ℕ) (es : List (NodeEvent Entry)) (x : NodeEvent Entry) → x.node ≡ node
    → positions_from node at (es ++ x ∷ []) ≡ positions_from node at es ++ suc (at + length es) ∷ []
positions_own node at [] x same =
    let test : (x.node == node) ≡ true = grind (arith, nat_tests) in
    let sum : at ≡ at + 0 = omega arith in
    rw test (ap (λ n. suc n ∷ []) sum)
positions_own node at (e ∷ es) x same =
    let sum : suc at + length es ≡ at + suc (length es) = omega arith in
    let more = positions_own node (suc at) es x same ∙ ap (λ n. positions_from node (suc at) es ++ suc n ∷ []) sum in
    elim (cases_Bool (e.node == node)) [
      | inl own ↦ rw own (ap (λ l. suc at ∷ l) more)
      | inr other ↦ rw other more
    ]

positions_other : (node at : ℕ) (es : List (NodeEvent Entry)) (x : NodeEvent Entry) → (x.node ≡ node → ⊥)
    → positions_from node at (es ++ x ∷ []) ≡ positions_from node at es
positions_other node at [] x differs =
    let test : (x.node == node) ≡ false = grind (arith, nat_tests) in
    rw test refl
positions_other node at (e ∷ es) x differs =
    let more = positions_other node (suc at) es x differs in
    elim (cases_Bool (e.node == node)) [
      | inl own ↦ rw own (ap (λ l. suc at ∷ l) more)
      | inr other ↦ rw other more
    ]

-- of a node that has it, and of another
pub one_more_own : (node : ℕ) (es : List (NodeEvent Entry)) (x : NodeEvent Entry) → x.node ≡ node → positions node (es ++ x ∷ []) ≡ positions node es ++ suc (length es) ∷ []
one_more_own node es x same =
    let sum : 0 + length es ≡ length es = omega arith in
    positions_own node 0 es x same ∙ ap (λ n. positions node es ++ suc n ∷ []) sum

pub one_more_other : (node : ℕ) (es : List (NodeEvent Entry)) (x : NodeEvent Entry) → (x.node ≡ node → ⊥) → positions node (es ++ x ∷ []) ≡ positions node es
one_more_other node es x differs = positions_other node 0 es x differs

motions_other : (i : ℕ) (rs : List Replaying) (es : List (NodeEvent Entry)) (x : NodeEvent Entry) → x.node < i → motions_from i rs (es ++ x ∷ []) ≡ motions_from i rs es
motions_other i [] es x below = refl
motions_other i (r ∷ rs) es x below = both _ _ _ _ (one_more_other i es x (λ same. omega (arith, same, below))) (motions_other (suc i) rs es x (omega arith))

motions_more : (i : ℕ) (rs : List Replaying) (es : List (NodeEvent Entry)) (x : NodeEvent Entry) (k : ℕ) → x.node ≡ i + k → k < length rs
    → set (motions_from i rs es) k (get_or (motions_from i rs es) k [] ++ suc (length es) ∷ []) ≡ motions_from i rs (es ++ x ∷ [])
motions_more i [] es x k is few = absurd (omega (arith, few))
motions_more i (r ∷ rs) es x zero is few = sym (both _ _ _ _ (one_more_own i es x (omega (arith, is))) (motions_other (suc i) rs es x (omega (arith, is))))
motions_more i (r ∷ rs) es x (suc k) is few =
    both _ _ _ _ (sym (one_more_other i es x (λ same. omega (arith, same, is)))) (motions_more (suc i) rs es x k (omega (arith, is)) (omega (arith, few)))

pub length_motions : (i : ℕ) (rs : List Replaying) (es : List (NodeEvent Entry)) → length (motions_from i rs es) ≡ length rs
length_motions i [] es = refl
length_motions i (r ∷ rs) es = ap suc (length_motions (suc i) rs es)

motions_none : (i : ℕ) (rs : List Replaying) → replicate (length rs) [] ≡ motions_from i rs []
motions_none i [] = refl
motions_none i (r ∷ rs) = both _ _ _ _ refl (motions_none (suc i) rs)

-- where a group begins
pub first_motions : (start : List Replaying) (m : Motions) → m ≡ no_motions (length start) → AreMotions start m
first_motions start m is = record {
  within = omega (arith, ap (λ (n : Motions). n.reached) is);
  lists =
      ap (λ (n : Motions). n.lists) is ∙ motions_none 0 start
      ∙ sym (ap (λ (n : Motions). motions_from 0 start (take n.reached (events_of_replays start))) is);
}

-- the group went on to the next position
pub record MovedOn (start : List Replaying) (m : Motions) (at : ℕ) : Type 0 where
  pub are : AreMotions start m
  pub been : at + 1 ≤ m.reached

pub moved_on : (start : List Replaying) (old new : Motions) (at : ℕ) (x : NodeEvent Entry) → AreMotions start old → at ≤ old.reached → slice_get (events_of_replays start) at ≡ Some x
    → at < length (events_of_replays start) → x.node < length start → new ≡ with_motion old x.node (at + 1) → MovedOn start new at
moved_on start old new at x are been next within here is = elim (cases_Bool (nat_lt old.reached (at + 1))) [
  | inl later ↦
      let so_far = take at (events_of_replays start) in
      let reached : old.reached ≡ at = omega (arith, ltb-true old.reached (at + 1) later, been) in
      let new_is : new ≡ record { reached = at + 1; lists = set old.lists x.node (get_or old.lists x.node [] ++ (at + 1) ∷ []) } = is ∙ rw later refl in
      let more : take (at + 1) (events_of_replays start) ≡ so_far ++ x ∷ [] =
      take_more (events_of_replays start) at x within ∙ ap (λ y. so_far ++ y ∷ []) (get_or_from_slice_get (events_of_replays start) at x x next) in
      let count : suc (length so_far) ≡ at + 1 = omega (arith, length-take at (events_of_replays start), within) in
      let lists : old.lists ≡ motions_from 0 start so_far = are.lists ∙ ap (λ n. motions_from 0 start (take n (events_of_replays start))) reached in
      let node : x.node ≡ 0 + x.node = omega arith in
      let grown : set old.lists x.node (get_or old.lists x.node [] ++ (at + 1) ∷ []) ≡ motions_from 0 start (take (at + 1) (events_of_replays start)) =
      ap (λ l. set l x.node (get_or l x.node [] ++ (at + 1) ∷ [])) lists
      ∙ ap (λ n. set (motions_from 0 start so_far) x.node (get_or (motions_from 0 start so_far) x.node [] ++ n ∷ [])) (sym count)
      ∙ motions_more 0 start so_far x x.node node here
      ∙ ap (motions_from 0 start) (sym more) in
      subst (λ (m : Motions). MovedOn start m at) (sym new_is) (record { are = record { within = omega (arith, within); lists = grown }; been = omega arith })
  | inr not ↦
      let same : new ≡ old = is ∙ rw not refl in
      subst (λ (m : Motions). MovedOn start m at) (sym same) (record { are = are; been = omega (arith, ltb-false old.reached (at + 1) not) })
]

-- ---- what is known of an earlier position

positions_more : (node at : ℕ) (xs ys : List (NodeEvent Entry)) → positions_from node at (xs ++ ys) ≡ positions_from node at xs ++ positions_from node (at + length xs) ys
positions_more node at [] ys =
    let same : at ≡ at + 0 = omega arith in
    ap (λ n. positions_from node n ys) same
positions_more node at (x ∷ xs) ys =
    let sum : suc at + length xs ≡ at + suc (length xs) = omega arith in
    let more = positions_more node (suc at) xs ys ∙ ap (λ n. positions_from node (suc at) xs ++ positions_from node n ys) sum in
    elim (cases_Bool (x.node == node)) [
      | inl own ↦ rw own (ap (λ l. suc at ∷ l) more)
      | inr other ↦ rw other more
    ]

-- the positions up to a later place begin with those up to an earlier one
pub positions_front : (node at reached : ℕ) (es : List (NodeEvent Entry)) → at ≤ reached
    → positions node (take reached es) ≡ positions node (take at es) ++ positions_from node (length (take at es)) (drop at (take reached es))
positions_front node at reached es front =
    let cut : take reached es ≡ take at es ++ drop at (take reached es) =
    sym (take-append-drop at (take reached es)) ∙ ap (λ l. l ++ drop at (take reached es)) (take-take at reached es front) in
    let sum : 0 + length (take at es) ≡ length (take at es) = omega arith in
    ap (positions node) cut ∙ positions_more node 0 (take at es) (drop at (take reached es))
    ∙ ap (λ n. positions node (take at es) ++ positions_from node n (drop at (take reached es))) sum

pub motions_at : (i : ℕ) (rs : List Replaying) (es : List (NodeEvent Entry)) (k : ℕ) → k < length rs → get_or (motions_from i rs es) k [] ≡ positions (i + k) es
motions_at i [] es k within = absurd (omega (arith, within))
motions_at i (r ∷ rs) es zero within =
    let same : i ≡ i + 0 = omega arith in
    ap (λ n. positions n es) same
motions_at i (r ∷ rs) es (suc k) within =
    let same : suc i + k ≡ i + suc k = omega arith in
    motions_at (suc i) rs es k (omega (arith, within)) ∙ ap (λ n. positions n es) same
