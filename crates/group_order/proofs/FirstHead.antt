-- The first of several heads.
use Rattle.std.proofs.Common.{◌≡◌, ◌⊎◌, inl, inr, ℕ, zero, suc, ◌<◌, ◌≤◌, List, [], ◌∷◌, Option, Some, None, refl, length, option_map, arith}
use Rattle.std.proofs.lemmas.Bool.{cases_lt}
use Rattle.std.proofs.lemmas.Option.{same_Some}
use Rattle.std.proofs.lemmas.List.{get_or_past}
use Rattle.group_order.specs.declared.merge.Head.{Head}
use Rattle.group_order.specs.Heads.{AreNoHeads, IsFirstNode, IsNextNode, clock_of_node}

-- one head more in front, which has no clock
behind_none : (heads : List (Option ℕ)) (node : ℕ) → IsFirstNode heads node → IsFirstNode (None ∷ heads) (suc node)
behind_none heads node first = record {
  clock = first.clock;
  has = first.has;
  least = λ other at e. least other at e;
  tie = λ other e. tie other e;
}
  where
    least : (other at : ℕ) → clock_of_node (None ∷ heads) other ≡ Some at → first.clock ≤ at
    least zero at e = absurd (cc)
    least (suc other) at e = first.least other at e

    tie : (other : ℕ) → clock_of_node (None ∷ heads) other ≡ Some first.clock → suc node ≤ other
    tie zero e = absurd (cc)
    tie (suc other) e = let t = first.tie other e in omega (arith, t)

-- one whose clock is greater
behind_greater : (c : ℕ) (heads : List (Option ℕ)) (node : ℕ) (first : IsFirstNode heads node) → first.clock < c → IsFirstNode (Some c ∷ heads) (suc node)
behind_greater c heads node first greater = record {
  clock = first.clock;
  has = first.has;
  least = λ other at e. least other at e;
  tie = λ other e. tie other e;
}
  where
    least : (other at : ℕ) → clock_of_node (Some c ∷ heads) other ≡ Some at → first.clock ≤ at
    least zero at e = let same : c ≡ at = same_Some c at e in omega (arith, same, greater)
    least (suc other) at e = first.least other at e

    tie : (other : ℕ) → clock_of_node (Some c ∷ heads) other ≡ Some first.clock → suc node ≤ other
    tie zero e = let same : c ≡ first.clock = same_Some c first.clock e in absurd (omega (arith, same, greater))
    tie (suc other) e = let t = first.tie other e in omega (arith, t)

-- one that comes before them
in_front : (c : ℕ) (heads : List (Option ℕ)) → ((other at : ℕ) → clock_of_node heads other ≡ Some at → c ≤ at) → IsFirstNode (Some c ∷ heads) zero
in_front c heads above = record {
  clock = c;
  has = refl;
  least = λ other at e. least other at e;
  tie = λ other e. omega arith;
}
  where
    least : (other at : ℕ) → clock_of_node (Some c ∷ heads) other ≡ Some at → c ≤ at
    least zero at e = let same : c ≡ at = same_Some c at e in omega (arith, same)
    least (suc other) at e = above other at e

none_more : (heads : List (Option ℕ)) → AreNoHeads heads → AreNoHeads (None ∷ heads)
none_more heads none zero = refl
none_more heads none (suc node) = none node

-- there is a first, or no head has a clock
pub first_of : (heads : List (Option ℕ)) → ((node : ℕ) × IsFirstNode heads node) ⊎ AreNoHeads heads
first_of [] = inr (λ node. refl)
first_of (None ∷ heads) = elim (first_of heads) [
  | inl (node, first) ↦ inl (suc node, behind_none heads node first)
  | inr none ↦ inr (none_more heads none)
]
first_of (Some c ∷ heads) = elim (first_of heads) [
  | inl (node, first) ↦ elim (cases_lt first.clock c) [
    | inl greater ↦ inl (suc node, behind_greater c heads node first greater)
    | inr above ↦ inl (zero, in_front c heads (λ other at e. let l = first.least other at e in omega (arith, l, above)))
  ]
  | inr none ↦ inl (zero, in_front c heads (λ other at e. let n = none other in absurd (cc)))
]

-- ---- the first of the heads before the nth

pub record Leading (heads : List (Option ℕ)) (n : ℕ) (head : Head) : Type 0 where
  pub before : head.node < n
  pub has : clock_of_node heads head.node ≡ Some head.clock
  pub least : (k at : ℕ) → k < n → clock_of_node heads k ≡ Some at → head.clock ≤ at
  pub tie : (k : ℕ) → k < n → clock_of_node heads k ≡ Some head.clock → head.node ≤ k

abbrev pub IsFirstOf : List (Option ℕ) → ℕ → Option Head → Type 0
IsFirstOf heads n None = (k : ℕ) → k < n → clock_of_node heads k ≡ None
IsFirstOf heads n (Some head) = Leading heads n head

-- the first of all
pub whole : (heads : List (Option ℕ)) (n : ℕ) (first : Option Head) → length heads ≤ n → IsFirstOf heads n first → IsNextNode heads (option_map (λ (h : Head). h.node) first)
whole heads n None all is = λ node. elim (cases_lt node n) [
  | inl less ↦ is node less
  | inr not ↦ get_or_past heads node None (omega (arith, all, not))
]
whole heads n (Some head) all is = record {
  clock = head.clock;
  has = is.has;
  least = λ k at e. elim (cases_lt k n) [
    | inl less ↦ is.least k at less e
    | inr not ↦ let past : clock_of_node heads k ≡ None = get_or_past heads k None (omega (arith, all, not)) in absurd (cc)
  ];
  tie = λ k e. elim (cases_lt k n) [
    | inl less ↦ is.tie k less e
    | inr not ↦ let past : clock_of_node heads k ≡ None = get_or_past heads k None (omega (arith, all, not)) in absurd (cc)
  ];
}
