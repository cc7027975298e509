-- Where points fire and where walks end, by the definitions that compute it.
use Rattle.std.proofs.Common.{◌≡◌, ◌↔◌, ◌⊎◌, ℕ, ℤ, zero, suc, ◌+◌, ◌<◌, ◌≤◌, Bool, true, false, ◌||◌, ◌&&◌, not, cond, nat_le, List, [], ◌∷◌, ◌++◌, Option, Some, None, inl, inr, refl, sym, ap, ◌∙◌, subst, append_assoc, arith}
use Rattle.std.proofs.lemmas.Bool.Decides.{leb_tells}
use Rattle.std.proofs.lemmas.List.{append-nil}
use Rattle.std.proofs.lemmas.List.Elements.{recursion_from_All}
use Rattle.std.proofs.Math.Bool.{or_assoc}
use Rattle.std.specs.List.{AllByRecursion}
use Rattle.std.specs.Prelude.{negsuc, pos}
use Rattle.point_programs.specs.Running.{ProgramSetting, ProgramState, is_nonzero}
use Rattle.point_programs.specs.Tree.{Statements}
use Rattle.point_programs.specs.Variables.{Variable}
use Rattle.page_watch.specs.Firing.{is_same_value}
use Rattle.proc_replay.specs.Replaying.{Replaying}
use Rattle.expression_text.specs.Expression.{Expression}
use Rattle.watch_expr.specs.Value.{equal, is_zero}
use Rattle.shell_points.specs.Firing.{condition_value, firing_line, firing_lines, has_due_point, is_due_at, is_due_point, meets_condition, place_at, point_said_at, value_at_position}
use Rattle.shell_points.specs.Laws.{ExactFiring, IsContinuedTo, IsLastDue, IsNextDue, NoPointBelow, ends, stops}
use Rattle.shell_points.specs.Points.{Point}
use Rattle.shell_points.specs.Returning.{has_stopping_point, last_due}
use Rattle.shell_points.specs.Walking.{Walk, fired_point, last_word, positions_ahead, quiet_program, setting_at, steps_of, treat_point, treat_points, walk_ended, walk_limit, walk_on, walk_over}
use Rattle.shell_points.proofs.LastFiring.{none_at_start, nothing_said}
use Rattle.shell_points.proofs.PointWalks.{not_none, rests_here}

-- ---- values

and_both : (a b : Bool) → (a && b) ≡ true → (a ≡ true) × (b ≡ true)
and_both true b e = (refl, e)
and_both false b e = absurd cc

le_is : (a b : ℕ) → nat_le a b ≡ true → a ≤ b
le_is a b e = elim (leb_tells a b) [ inl t ↦ t.1 | inr f ↦ absurd cc ]

le_self : (a : ℕ) → nat_le a a ≡ true
le_self a = elim (leb_tells a a) [ inl t ↦ t.0 | inr f ↦ absurd (omega (arith, f.1)) ]

one_number : (a b : ℕ) → (nat_le a b && nat_le b a) ≡ true → a ≡ b
one_number a b e =
    let e2 = and_both (nat_le a b) (nat_le b a) e in
    omega (arith, le_is a b e2.0, le_is b a e2.1)

twice : (a : Bool) → a ≡ true → (a && a) ≡ true
twice a e = ap (λ (b : Bool). b && a) e ∙ e

same_equal : (a b : ℤ) → equal a b ≡ true → a ≡ b
same_equal (pos a) (pos b) e = ap pos (one_number a b e)
same_equal (pos a) (negsuc b) e = absurd cc
same_equal (negsuc a) (pos b) e = absurd cc
same_equal (negsuc a) (negsuc b) e = ap negsuc (sym (one_number b a e))

equal_same : (a : ℤ) → equal a a ≡ true
equal_same (pos a) = twice (nat_le a a) (le_self a)
equal_same (negsuc a) = twice (nat_le a a) (le_self a)

same_is : (a b : Option ℤ) → is_same_value a b ≡ true → a ≡ b
same_is None None e = refl
same_is None (Some b) e = absurd cc
same_is (Some a) None e = absurd cc
same_is (Some a) (Some b) e = ap (λ (z : ℤ). Some z) (same_equal a b e)

pub same_again : (a : Option ℤ) → is_same_value a a ≡ true
same_again None = refl
same_again (Some a) = equal_same a

differ : (a b : Option ℤ) → not (is_same_value a b) ≡ true → a ≡ b → ⊥
differ a b e same =
    let again : is_same_value a b ≡ true = ap (λ (c : Option ℤ). is_same_value a c) (sym same) ∙ same_again a in
    let never : ◌≡◌ {A = Bool} false true = sym (ap not again) ∙ e in
    absurd cc

differ_again : (a b : Option ℤ) → (a ≡ b → ⊥) → not (is_same_value a b) ≡ true
differ_again a b other = by (is_same_value a b) (same_is a b)
  where
    by : (c : Bool) → (c ≡ true → a ≡ b) → not c ≡ true
    by true is = absurd (other (is refl))
    by false is = refl

-- ---- the last position below at which some point fires

true_or_false : (b : Bool) → b ≡ true → b ≡ false → ⊥
true_or_false true e f = absurd cc
true_or_false false e f = absurd cc

either_side : (a b : ℕ) → (a < b) ⊎ ((a ≡ b) ⊎ (b < a))
either_side a b = elim (leb_tells a b) [
  | inl t ↦ elim (leb_tells b a) [ inl u ↦ inr (inl (omega (arith, t.1, u.1))) | inr u ↦ inl (omega (arith, u.1)) ]
  | inr f ↦ inr (inr (omega (arith, f.1)))
]

module _ (start : List Replaying) (points : List Point) where
  abbrev due : ℕ → Bool
  due k = has_stopping_point start points k

  some_below : (k : ℕ) → due k ≡ true → 1 ≤ k
  some_below zero is = absurd (true_or_false (due 0) is (none_at_start start points))
  some_below (suc k) is = omega arith

  last_is : (at k : ℕ) → last_due start points at ≡ Some k → IsLastDue start points at k
  last_is zero k e = absurd cc
  last_is (suc n) k e = by (due n) refl e (last_is n k)
    where
      by : (b : Bool) → due n ≡ b → cond b (Some n) (last_due start points n) ≡ Some k → (last_due start points n ≡ Some k → IsLastDue start points n k)
          → IsLastDue start points (suc n) k
      by true is e lower =
          let same : n ≡ k = cc in
          subst (λ (m : ℕ). IsLastDue start points (suc n) m) same (record {
            from_one = some_below n is;
            below = omega arith;
            due = is;
            none_between = λ m low high. absurd (omega (arith, low, high));
          })
      by false is e lower =
          let i = lower e in
          record {
            from_one = i.from_one;
            below = omega (arith, i.below);
            due = i.due;
            none_between = λ m low high. elim (either_side m n) [
              | inl lt ↦ i.none_between m low lt
              | inr ge ↦ elim ge [ inl same ↦ ap (λ (j : ℕ). due j) same ∙ is | inr gt ↦ absurd (omega (arith, high, gt)) ]
            ];
          }

  none_is : (at : ℕ) → last_due start points at ≡ None → NoPointBelow start points at
  none_is zero e m lt = absurd (omega (arith, lt))
  none_is (suc n) e m lt = by (due n) refl e (none_is n)
    where
      by : (b : Bool) → due n ≡ b → cond b (Some n) (last_due start points n) ≡ None → (last_due start points n ≡ None → NoPointBelow start points n) → due m ≡ false
      by true is e lower = absurd cc
      by false is e lower = elim (either_side m n) [
        | inl less ↦ lower e m less
        | inr ge ↦ elim ge [ inl same ↦ ap (λ (j : ℕ). due j) same ∙ is | inr gt ↦ absurd (omega (arith, lt, gt)) ]
      ]

  one_last : (at j k : ℕ) → IsLastDue start points at j → IsLastDue start points at k → j ≡ k
  one_last at j k h i = elim (either_side j k) [
    | inl lt ↦ absurd (true_or_false (due k) i.due (h.none_between k lt i.below))
    | inr ge ↦ elim ge [ inl same ↦ same | inr gt ↦ absurd (true_or_false (due j) h.due (i.none_between j gt h.below)) ]
  ]

  last_again : (at k : ℕ) → IsLastDue start points at k → last_due start points at ≡ Some k
  last_again at k h = by (last_due start points at) refl
    where
      by : (o : Option ℕ) → last_due start points at ≡ o → o ≡ Some k
      by None e = absurd (true_or_false (due k) h.due (none_is at e k h.below))
      by (Some j) e = ap (λ (n : ℕ). Some n) (one_last at j k (last_is at j e) h)

  none_again : (at : ℕ) → NoPointBelow start points at → last_due start points at ≡ None
  none_again at none = by (last_due start points at) refl
    where
      by : (o : Option ℕ) → last_due start points at ≡ o → o ≡ None
      by None e = refl
      by (Some j) e = let h = last_is at j e in absurd (true_or_false (due j) h.due (none j h.below))

-- ---- the first position after at which some point fires

or_false : (b : Bool) → (b || false) ≡ b
or_false true = refl
or_false false = refl

or_true : (b : Bool) → (b || true) ≡ true
or_true true = refl
or_true false = refl

-- a state that has said more, and has been asked to stop or not
abbrev adds : ProgramState → List ℕ → Bool → ProgramState
adds r line asks = record { variables = r.variables; text = r.text ++ line; stopped = r.stopped || asks }

-- what a point without a program does
bare : (here : ProgramSetting) (r : ProgramState) (line : List ℕ) (b : Bool) (program : Option Statements) → program ≡ None → cond b (fired_point here r line program) r ≡ adds r (cond b line []) b
bare here r line b (Some body) e = absurd cc
bare here r line true None e = λ i. record { variables = r.variables; text = r.text ++ line; stopped = sym (or_true r.stopped) i }
bare here r line false None e = λ i. record { variables = r.variables; text = sym (append-nil r.text) i; stopped = sym (or_false r.stopped) i }

module _ (start : List Replaying) (k : ℕ) where
  one_bare : (r : ProgramState) (p : Point) → p.program ≡ None → treat_point start k r p ≡ adds r (point_said_at start k p) (is_due_point start k p)
  one_bare r p e = bare (setting_at (place_at start k)) r (firing_line start k p.number p.trigger) (is_due_point start k p) p.program e

  all_bare : (points : List Point) (r : ProgramState) → AllByRecursion (λ (p : Point). p.program ≡ None) points → treat_points start k r points ≡ adds r (firing_lines start points k) (has_due_point start points k)
  all_bare [] r none = λ i. record { variables = r.variables; text = sym (append-nil r.text) i; stopped = sym (or_false r.stopped) i }
  all_bare (p ∷ points) r none =
      let line = point_said_at start k p in
      let first = is_due_point start k p in
      ap (λ (q : ProgramState). treat_points start k q points) (one_bare r p none.0) ∙ all_bare points (adds r line first) none.1
      ∙ (λ i. record {
        variables = r.variables;
        text = append_assoc r.text line (firing_lines start points k) i;
        stopped = or_assoc r.stopped first (has_due_point start points k) i;
      })

module _ (start : List Replaying) (points : List Point) (limit : ℕ) where
  abbrev After : ℕ → ℕ → List ℕ → Type 0
  After at k text = IsContinuedTo start points at limit k text

  later : (at k : ℕ) → has_due_point start points (suc at) ≡ false → IsNextDue start points (suc at) limit k → IsNextDue start points at limit k
  later at k none h = record {
    after = omega (arith, h.after);
    within = h.within;
    due = h.due;
    none_between = λ m low high. elim (either_side m (suc at)) [
      | inl lt ↦ absurd (omega (arith, low, lt))
      | inr ge ↦ elim ge [ inl same ↦ ap (λ (j : ℕ). has_due_point start points j) same ∙ none | inr gt ↦ h.none_between m gt high ]
    ];
  }

  later_on : (at : ℕ) → has_due_point start points (suc at) ≡ false → {k : ℕ} {text : List ℕ} → After (suc at) k text → After at k text
  later_on at none (stops k h) = stops k (later at k none h)
  later_on at none (ends h) = ends (λ m low high. elim (either_side m (suc at)) [
    | inl lt ↦ absurd (omega (arith, low, lt))
    | inr ge ↦ elim ge [ inl same ↦ ap (λ (j : ℕ). has_due_point start points j) same ∙ none | inr gt ↦ h m gt high ]
  ])

  one_next : (at j k : ℕ) → IsNextDue start points at limit j → IsNextDue start points at limit k → j ≡ k
  one_next at j k h i = elim (either_side j k) [
    | inl lt ↦ absurd (true_or_false (has_due_point start points j) h.due (i.none_between j h.after lt))
    | inr ge ↦ elim ge [ inl same ↦ same | inr gt ↦ absurd (true_or_false (has_due_point start points k) i.due (h.none_between k i.after gt)) ]
  ]

  one_end : (at : ℕ) → {j k : ℕ} {said text : List ℕ} → After at j said → After at k text → (j ≡ k) × (said ≡ text)
  one_end at (stops j h) (stops k i) = let same = one_next at j k h i in (same, ap (firing_lines start points) same)
  one_end at (stops j h) (ends none) = absurd (true_or_false (has_due_point start points j) h.due (none j h.after h.within))
  one_end at (ends none) (stops k i) = absurd (true_or_false (has_due_point start points k) i.due (none k i.after i.within))
  one_end at (ends none) (ends also) = (refl, refl)

  module _ (none : AllByRecursion (λ (p : Point). p.program ≡ None) points) (variables : List Variable) where
    abbrev Comes : ℕ → Walk → Type 0
    Comes at w = (k : ℕ) × (text : List ℕ) × (w ≡ walk_ended k variables text) × After at k text

    comes : (left at : ℕ) → at + left ≡ limit → Comes at (walk_over start points at left variables [])
    comes zero at all =
        let last : at ≡ limit = omega (arith, all) in (
          limit,
          last_word start limit,
          ap (λ (k : ℕ). walk_ended k variables (last_word start k)) last,
          ends (λ m low high. absurd (omega (arith, low, high, last))),
        )
    comes (suc left) at all =
        let next = suc at in
        let rest = walk_over start points next left in
        let did : walk_on rest next [] (treat_points start next (quiet_program variables) points) ≡ walk_on rest next [] (adds (quiet_program variables) (firing_lines start points next) (has_due_point start points next)) =
        ap (walk_on rest next []) (all_bare start next points (quiet_program variables) none) in
        by (has_due_point start points next) refl did (comes left next (omega (arith, all)))
      where
        by : (b : Bool) → has_due_point start points (suc at) ≡ b
            → walk_over start points at (suc left) variables [] ≡ walk_on (walk_over start points (suc at) left) (suc at) [] (adds (quiet_program variables) (firing_lines start points (suc at)) b)
            → Comes (suc at) (walk_over start points (suc at) left variables []) → Comes at (walk_over start points at (suc left) variables [])
        by true is did further = (
          suc at,
          firing_lines start points (suc at),
          did,
          stops (suc at) (record {
            after = omega arith;
            within = omega (arith, all);
            due = is;
            none_between = λ m low high. absurd (omega (arith, low, high));
          }),
        )
        by false is did further =
            let next = suc at in
            let rest = walk_over start points next left in
            let silent : firing_lines start points next ≡ [] = nothing_said start next points is in
            let on : walk_over start points at (suc left) variables [] ≡ rest variables [] =
            did ∙ ap (λ (lines : List ℕ). walk_on rest next [] (adds (quiet_program variables) lines false)) silent
            ∙ rests_here rest next [] (adds (quiet_program variables) [] false) refl (omega arith) in
            (further.0, further.1, on ∙ further.2, later_on at is further.3)

  comes_to : (at left : ℕ) (variables : List Variable) (k : ℕ) (text : List ℕ) → AllByRecursion (λ (p : Point). p.program ≡ None) points
      → at + left ≡ limit → (walk_over start points at left variables [] ≡ walk_ended k variables text) ↔ After at k text
  comes_to at left variables k text none all =
      let walk = walk_over start points at left variables [] in
      let w = comes none variables left at all in (
        λ (e : walk ≡ walk_ended k variables text).
            let one : walk_ended w.0 variables w.1 ≡ walk_ended k variables text = sym w.2 ∙ e in
            subst (λ (v : Walk). After at v.at v.text) one w.3,
        λ (h : After at k text).
            let one = one_end at w.3 h in
            w.2 ∙ (λ i. walk_ended (one.0 i) variables (one.1 i)),
      )

-- ---- conditions

and_true : (a b : Bool) → a ≡ true → b ≡ true → (a && b) ≡ true
and_true true b e f = f
and_true false b e f = absurd cc

and_itself : (a : Bool) → (a && true) ≡ a
and_itself true = refl
and_itself false = refl

number_is : (v : Option ℤ) → is_nonzero v ≡ true → (z : ℤ) × (v ≡ Some z) × (z ≡ pos 0 → ⊥)
number_is None e = absurd cc
number_is (Some z) e = (z, refl, λ same. let never : ◌≡◌ {A = Bool} false true = sym (ap (λ (y : ℤ). not (is_zero y)) same) ∙ e in cc)

no_zero : (z : ℤ) → (z ≡ pos 0 → ⊥) → not (is_zero z) ≡ true
no_zero (pos zero) other = absurd (other refl)
no_zero (pos (suc n)) other = ap not (not_none (suc n) (omega arith))
no_zero (negsuc n) other = refl

module _ (start : List Replaying) (p : Point) (k : ℕ) where
  abbrev due_with : Option Expression → Bool
  due_with c = is_due_at start k p.trigger && meets_condition (place_at start k) c

  always : p.condition ≡ None → is_due_point start k p ≡ is_due_at start k p.trigger
  always none = ap due_with none ∙ and_itself (is_due_at start k p.trigger)

  module _ (x : Expression) (has : p.condition ≡ Some x) where
    abbrev Meets : Type 0
    Meets = (is_due_at start k p.trigger ≡ true) × (z : ℤ) × (condition_value (place_at start k) x ≡ Some z) × (z ≡ pos 0 → ⊥)

    fires : is_due_point start k p ≡ true → Meets
    fires e =
        let b = and_both (is_due_at start k p.trigger) (meets_condition (place_at start k) (Some x)) (sym (ap due_with has) ∙ e) in
        let n = number_is (condition_value (place_at start k) x) b.1 in
        (b.0, n.0, n.1, n.2)

    fires_again : Meets → is_due_point start k p ≡ true
    fires_again m =
        ap due_with has
        ∙ and_true (is_due_at start k p.trigger) (meets_condition (place_at start k) (Some x)) m.0 (ap is_nonzero m.2 ∙ no_zero m.1 m.3)

pub exact : ExactFiring
exact = record {
  changes = λ start x k. (differ (value_at_position start x k) (value_at_position start x (suc k)), differ_again (value_at_position start x k) (value_at_position start x (suc k)));
  always = λ start p k none. always start p k none;
  conditions = λ start p x k has. (fires start p k x has, fires_again start p k x has);
  last = λ start points at k. (last_is start points at k, last_again start points at k);
  none_below = λ start points at. (none_is start points at, none_again start points at);
  next = λ place points variables most k text within none.
      comes_to place.start points (walk_limit place most) place.at (steps_of most (positions_ahead place)) variables k text (recursion_from_All (λ (p : Point). p.program ≡ None) points none) refl;
}
