-- Operators that take their operands.
use Rattle.std.proofs.Common.{◌≡◌, ℕ, ◌<◌, ◌≤◌, Bool, true, false, nat_le, nat_eq, ◌⊎◌, inl, inr, List, [], ◌∷◌, Some, refl, sym, ap, ◌∙◌, subst, arith}
use Rattle.std.proofs.lemmas.Bool.{le-leb, lt-leb, eqb-false, ne_eqb}
use Rattle.expression_text.specs.declared.expr.Binary.{Binary}
use Rattle.expression_text.specs.declared.expr.Binary.TheVariants as binary
use Rattle.expression_text.specs.Expression.{Expression, One, Two}
use Rattle.expression_text.specs.Grammar.{UNARY, operator_level, left_level}
use Rattle.expression_text.specs.Machine.{PendingOperator, Left, Front, Inside, MachineState, Want, Have, settle_operators, compares_left, after_operator, whole_expression, whole}

-- ---- levels

pub tested : (b : Bool) → (b ≡ true) ⊎ (b ≡ false)
tested true = inl refl
tested false = inr refl

-- an operator groups from the left, or compares
pub sides : (op : Binary) → ((left_level op ≡ operator_level op) × (nat_eq (operator_level op) 2 ≡ false)) ⊎ ((operator_level op ≡ 2) × (left_level op ≡ 3))
sides binary.Or = inl (refl, refl)
sides binary.And = inl (refl, refl)
sides binary.Eq = inr (refl, refl)
sides binary.Ne = inr (refl, refl)
sides binary.Lt = inr (refl, refl)
sides binary.Le = inr (refl, refl)
sides binary.Gt = inr (refl, refl)
sides binary.Ge = inr (refl, refl)
sides binary.Add = inl (refl, refl)
sides binary.Sub = inl (refl, refl)
sides binary.Mul = inl (refl, refl)
sides binary.Div = inl (refl, refl)
sides binary.Rem = inl (refl, refl)

pub low : (op : Binary) → operator_level op ≤ 4
low binary.Or = omega arith
low binary.And = omega arith
low binary.Eq = omega arith
low binary.Ne = omega arith
low binary.Lt = omega arith
low binary.Le = omega arith
low binary.Gt = omega arith
low binary.Ge = omega arith
low binary.Add = omega arith
low binary.Sub = omega arith
low binary.Mul = omega arith
low binary.Div = omega arith
low binary.Rem = omega arith

pub left_high : (op : Binary) → operator_level op ≤ left_level op
left_high op = elim (sides op) [ inl p ↦ omega (arith, p.0) | inr p ↦ omega (arith, p.0, p.1) ]

pub left_low : (op : Binary) → left_level op ≤ 4
left_low op = elim (sides op) [ inl p ↦ omega (arith, p.0, low op) | inr p ↦ omega (arith, p.1) ]

-- ---- the stack

-- an operand of this level may be on the stack
abbrev pub Fits : ℕ → List PendingOperator → Type 0
Fits k [] = Unit {0}
Fits k (Left op y ∷ s) = operator_level op < k
Fits k (Front op ∷ s) = UNARY ≤ k
Fits k (Inside o ∷ s) = Unit {0}

pub fits_more : (j k : ℕ) (s : List PendingOperator) → j ≤ k → Fits j s → Fits k s
fits_more j k [] le h = tt
fits_more j k (Left op y ∷ s) le h = omega arith
fits_more j k (Front op ∷ s) le h = omega arith
fits_more j k (Inside o ∷ s) le h = tt

pub fits_unary : (k : ℕ) (s : List PendingOperator) → UNARY ≤ k → Fits k s
fits_unary k [] le = tt
fits_unary k (Left op y ∷ s) le = omega (arith, low op)
fits_unary k (Front op ∷ s) le = le
fits_unary k (Inside o ∷ s) le = tt

pub settle_stops : (k : ℕ) (s : List PendingOperator) (x : Expression) → k ≤ 4 → Fits k s → settle_operators k s x ≡ (s, x)
settle_stops k [] x le h = refl
settle_stops k (Left op y ∷ s) x le h = rw (lt-leb k (operator_level op) h) refl
settle_stops k (Front op ∷ s) x le h = absurd (omega arith)
settle_stops k (Inside o ∷ s) x le h = refl

-- no comparison stands below one
fits_compare : (s : List PendingOperator) → Fits 3 s → compares_left s ≡ false → Fits 2 s
fits_compare [] h c = tt
fits_compare (Left op y ∷ s) h c = omega (arith, eqb-false (operator_level op) 2 c)
fits_compare (Front op ∷ s) h c = absurd (omega arith)
fits_compare (Inside o ∷ s) h c = tt

compares_not : (s : List PendingOperator) → Fits 2 s → compares_left s ≡ false
compares_not [] h = refl
compares_not (Left op y ∷ s) h = ne_eqb (operator_level op) 2 (λ e. omega arith)
compares_not (Front op ∷ s) h = refl
compares_not (Inside o ∷ s) h = refl

pub operator_goes : (op : Binary) (s : List PendingOperator) (x : Expression) → Fits (operator_level op) s → after_operator op (s, x) ≡ Some (Want (Left op x ∷ s))
operator_goes op s x h = elim (sides op) [
  | inl p ↦ rw p.1 refl
  | inr p ↦ let c : compares_left s ≡ false = compares_not s (subst (λ (k : ℕ). Fits k s) p.0 h) in rw (p.0, c) refl
]

pub operator_gave : (op : Binary) (s : List PendingOperator) (x : Expression) (st : MachineState) → Fits (left_level op) s → after_operator op (s, x) ≡ Some st → (Some (Want (Left op x ∷ s)) ≡ Some st) × Fits (operator_level op) s
operator_gave op s x st h e = elim (sides op) [
  | inl p ↦ (rw p.1 at e, subst (λ (k : ℕ). Fits k s) p.0 h)
  | inr p ↦ elim (tested (compares_left s)) [
    | inl c ↦ absurd (let f = rw (p.0, c) at e in cc)
    | inr c ↦ (rw (p.0, c) at e, subst (λ (k : ℕ). Fits k s) (sym p.0) (fits_compare s (subst (λ (k : ℕ). Fits k s) p.1 h) c))
  ]
]

-- settling twice
settle_again : (m : ℕ) (s : List PendingOperator) (x : Expression) → settle_operators 0 (settle_operators m s x).0 (settle_operators m s x).1 ≡ settle_operators 0 s x
settle_again m [] x = refl
settle_again m (Left op y ∷ s) x = elim (tested (nat_le m (operator_level op))) [
  | inl t ↦ rw (t, le-leb 0 (operator_level op) (omega arith)) (settle_again m s (Two op y x))
  | inr f ↦ rw f refl
]
settle_again m (Front op ∷ s) x = settle_again m s (One op x)
settle_again m (Inside o ∷ s) x = refl

pub whole_settled : (m : ℕ) (s : List PendingOperator) (x : Expression) (t : List PendingOperator) (y : Expression) → settle_operators m s x ≡ (t, y) → whole (Have t y) ≡ whole (Have s x)
whole_settled m s x t y e =
    ap (λ (p : List PendingOperator × Expression). whole_expression (settle_operators 0 p.0 p.1)) (sym e) ∙ ap whole_expression (settle_again m s x)
