-- The family that is settled by one pass backwards over what events ask for.
use Rattle.std.proofs.Common.{◌≡◌, ◌∙◌, ◌⊎◌, ℕ, zero, suc, ◌≤◌, ◌<◌, inl, inr, cond, List, [], ◌∷◌, ◌++◌, length, set, max, refl, ap, sym, subst, arith}
use Rattle.std.specs.List.{AllByRecursion}
use Rattle.std.proofs.lemmas.Bool.{cases_eq, cases_lt}
use Rattle.std.proofs.lemmas.Bool.Decides.{leb_tells}
use Rattle.std.proofs.lemmas.List.{get_or-set_same, length-set}
use Rattle.causal_cut.proofs.Families.{AreBelow, at}
use Rattle.causal_cut.specs.declared.asks.Ask.{Ask}
use Rattle.causal_cut.specs.inside.Asks.{AreCountedAsks, AreOrderedAsks, AreOfNodes, IsMetAsk, PrecedesAsk, follow_ask, settled_family}

-- ---- one length is raised

cases_set : (ns : List ℕ) (k v node : ℕ) → ((node ≡ k) × (at (set ns k v) node ≡ v)) ⊎ (at (set ns k v) node ≡ at ns node)
cases_set [] k v node = inr refl
cases_set (n ∷ ns) zero v zero = inl (refl, refl)
cases_set (n ∷ ns) zero v (suc node) = inr refl
cases_set (n ∷ ns) (suc k) v zero = inr refl
cases_set (n ∷ ns) (suc k) v (suc node) = elim (cases_set ns k v node) [
  | inl here ↦ inl (ap suc here.0, here.1)
  | inr other ↦ inr other
]

-- ---- one event asks

record IsRaised (a : Ask) (ns new : List ℕ) : Type 0 where
  has : a.number ≤ at ns a.node
  is : new ≡ set ns a.of (max (at ns a.of) a.upto)

cases_follow : (a : Ask) (ns : List ℕ) → IsRaised a ns (follow_ask a ns) ⊎ ((at ns a.node < a.number) × (follow_ask a ns ≡ ns))
cases_follow a ns = elim (leb_tells a.number (at ns a.node)) [
  | inl has ↦ inl (record { has = has.1; is = ap (λ b. cond b (set ns a.of (max (at ns a.of) a.upto)) ns) has.0 })
  | inr lacks ↦ inr (lacks.1, ap (λ b. cond b (set ns a.of (max (at ns a.of) a.upto)) ns) lacks.0)
]

raise_grows : (a : Ask) (ns new : List ℕ) → IsRaised a ns new → AreBelow ns new
raise_grows a ns new r node = elim (cases_set ns a.of (max (at ns a.of) a.upto) node) [
  | inl here ↦ omega (arith, here.1, ap (λ l. at l node) r.is, ap (at ns) here.0)
  | inr other ↦ omega (arith, other, ap (λ l. at l node) r.is)
]

pub follow_grows : (a : Ask) (ns : List ℕ) → AreBelow ns (follow_ask a ns)
follow_grows a ns = elim (cases_follow a ns) [
  | inl r ↦ raise_grows a ns (follow_ask a ns) r
  | inr lacks ↦ λ node. omega (arith, ap (λ l. at l node) lacks.1)
]

pub length_follow : (a : Ask) (ns : List ℕ) → length (follow_ask a ns) ≡ length ns
length_follow a ns = elim (cases_follow a ns) [
  | inl r ↦ ap length r.is ∙ length-set ns a.of _
  | inr lacks ↦ ap length lacks.1
]

-- what is met stays so, where what is asked for is not after it
met_more : (a b : Ask) (ns : List ℕ) → PrecedesAsk a b → IsMetAsk ns b → IsMetAsk (follow_ask a ns) b
met_more a b ns before met has = elim (cases_follow a ns) [
  | inl r ↦ elim (cases_set ns a.of (max (at ns a.of) a.upto) b.node) [
    | inl here ↦
        let less : a.upto < b.number = before here.0 in
        let had : b.number ≤ at ns b.node = omega (arith, has, here.1, ap (λ l. at l b.node) r.is, ap (at ns) here.0) in
        omega (arith, met had, follow_grows a ns b.of)
    | inr other ↦
        let had : b.number ≤ at ns b.node = omega (arith, has, other, ap (λ l. at l b.node) r.is) in
        omega (arith, met had, follow_grows a ns b.of)
  ]
  | inr lacks ↦ subst (λ l. IsMetAsk l b) (sym lacks.1) met has
]

met_self : (a : Ask) (ns : List ℕ) → PrecedesAsk a a → a.of < length ns → IsMetAsk (follow_ask a ns) a
met_self a ns before within has = elim (cases_follow a ns) [
  | inl r ↦ omega (arith, ap (λ l. at l a.of) r.is, get_or-set_same ns a.of (max (at ns a.of) a.upto) 0 within)
  | inr lacks ↦ absurd (omega (arith, lacks.0, has, ap (λ l. at l a.node) lacks.1))
]

-- a family that is above and meets what is asked stays above
follow_below : (a : Ask) (ns most : List ℕ) → AreBelow ns most → IsMetAsk most a → AreBelow (follow_ask a ns) most
follow_below a ns most below met node = elim (cases_follow a ns) [
  | inl r ↦ elim (cases_set ns a.of (max (at ns a.of) a.upto) node) [
    | inl here ↦ omega (arith, here.1, ap (λ l. at l node) r.is, below a.of, met (omega (arith, r.has, below a.node)), ap (at most) here.0)
    | inr other ↦ omega (arith, other, ap (λ l. at l node) r.is, below node)
  ]
  | inr lacks ↦ omega (arith, ap (λ l. at l node) lacks.1, below node)
]

-- ---- all of them ask

pub length_settled : (asks : List Ask) (ns : List ℕ) → length (settled_family asks ns) ≡ length ns
length_settled [] ns = refl
length_settled (a ∷ asks) ns = length_follow a (settled_family asks ns) ∙ length_settled asks ns

all_met_more : (a : Ask) (asks : List Ask) (ns : List ℕ) → AllByRecursion (PrecedesAsk a) asks → AllByRecursion (IsMetAsk ns) asks → AllByRecursion (IsMetAsk (follow_ask a ns)) asks
all_met_more a [] ns before met = tt
all_met_more a (b ∷ asks) ns before met = (met_more a b ns before.0 met.0, all_met_more a asks ns before.1 met.1)

pub settled_meets : (asks : List Ask) (ns : List ℕ) → AreOrderedAsks asks → AreOfNodes (length ns) asks → AllByRecursion (IsMetAsk (settled_family asks ns)) asks
settled_meets [] ns ordered within = tt
settled_meets (a ∷ asks) ns ordered within = (
  met_self a (settled_family asks ns) ordered.0 (omega (arith, within.0.1, length_settled asks ns)),
  all_met_more a asks (settled_family asks ns) ordered.1 (settled_meets asks ns ordered.2 within.1),
)

pub settled_below : (asks : List Ask) (ns most : List ℕ) → AreBelow ns most → AllByRecursion (IsMetAsk most) asks → AreBelow (settled_family asks ns) most
settled_below [] ns most below met = below
settled_below (a ∷ asks) ns most below met = follow_below a (settled_family asks ns) most (settled_below asks ns most below met.1) met.0

-- ---- the events of one node that are asked for

-- only one node has events
abbrev pub IsAlone : ℕ → List ℕ → Type 0
IsAlone node ns = (other : ℕ) → (other ≡ node → ⊥) → at ns other ≡ 0

-- where each event of this node that asks is after what the family has of it, nothing is asked
no_asks : (node : ℕ) (a : Ask) (asks : List Ask) (ns : List ℕ) → IsAlone node ns → AreCountedAsks asks → a.of ≡ node → at ns node < a.upto → AllByRecursion (PrecedesAsk a) asks → settled_family asks ns ≡ ns
no_asks node a [] ns alone counted of less before = refl
no_asks node a (b ∷ asks) ns alone counted of less before =
    let rest : settled_family asks ns ≡ ns = no_asks node a asks ns alone counted.1 of less before.1 in
    let lacks : at ns b.node < b.number = elim (cases_eq b.node node) [
      | inl same ↦ omega (arith, before.0 (same ∙ sym of), less, ap (at ns) same)
      | inr other ↦ omega (arith, alone b.node other, counted.0)
    ] in
    ap (follow_ask b) rest ∙ (elim (cases_follow b ns) [
      | inl r ↦ absurd (omega (arith, r.has, lacks))
      | inr done ↦ done.1
    ])

-- of the node that alone has events at first none are added
pub settled_exact : (node : ℕ) (asks : List Ask) (ns : List ℕ) → IsAlone node ns → AreCountedAsks asks → AreOrderedAsks asks → at (settled_family asks ns) node ≡ at ns node
settled_exact node [] ns alone counted ordered = refl
settled_exact node (a ∷ asks) ns alone counted ordered =
    let rest : at (settled_family asks ns) node ≡ at ns node = settled_exact node asks ns alone counted.1 ordered.2 in
    elim (cases_follow a (settled_family asks ns)) [
      | inl r ↦ elim (cases_set (settled_family asks ns) a.of (max (at (settled_family asks ns) a.of) a.upto) node) [
        | inl here ↦ elim (cases_lt (at ns node) a.upto) [
          | inl less ↦
              let none : settled_family asks ns ≡ ns = no_asks node a asks ns alone counted.1 (sym here.0) less ordered.1 in
              absurd (elim (cases_eq a.node node) [
                | inl same ↦ omega (arith, ordered.0 (same ∙ here.0), r.has, ap (at (settled_family asks ns)) same, rest, less)
                | inr other ↦ omega (arith, r.has, ap (λ l. at l a.node) none, alone a.node other, counted.0)
              ])
          | inr most ↦ omega (arith, here.1, ap (λ l. at l node) r.is, ap (at (settled_family asks ns)) here.0, rest, most)
        ]
        | inr other ↦ ap (λ l. at l node) r.is ∙ other ∙ rest
      ]
      | inr lacks ↦ ap (λ l. at l node) lacks.1 ∙ rest
    ]

-- ---- from the last to the first

pub settled_last : (asks : List Ask) (a : Ask) (ns : List ℕ) → settled_family (asks ++ a ∷ []) ns ≡ settled_family asks (follow_ask a ns)
settled_last [] a ns = refl
settled_last (b ∷ asks) a ns = ap (follow_ask b) (settled_last asks a ns)

pub within_parts : (n : ℕ) (asks : List Ask) (a : Ask) → AreOfNodes n (asks ++ a ∷ []) → AreOfNodes n asks × (a.node < n) × (a.of < n)
within_parts n [] a within = (tt, within.0.0, within.0.1)
within_parts n (b ∷ asks) a within =
    let rest = within_parts n asks a within.1 in
    ((within.0, rest.0), rest.1, rest.2)
