-- Values and places at one node after the other, where an aggregate goes on after a node without a value.
use Rattle.std.proofs.Common.{◌≡◌, ℕ, ◌+◌, ◌-◌, ◌<◌, ◌≤◌, List, ◌++◌, Option, Some, None, refl, sym, ap, ◌∙◌, arith, FitsSigned, length, append_assoc, w64, ℤ}
use Rattle.std.proofs.lemmas.List.{append-nil}
use Rattle.std.specs.Prelude.{IfSome}
use Rattle.std.specs.List.{flat_map, range_with_len}
use Rattle.expression_text.specs.declared.expr.Agg.{Agg}
use Rattle.watch_expr.specs.declared.reads.Place.{Place}
use Rattle.watch_expr.specs.declared.value.tally.Tally.{Tally}
use Rattle.expression_text.specs.Expression.{Expression, Over}
use Rattle.watch_expr.specs.Reads.{reads_at}
use Rattle.watch_expr.specs.Value.{ExpressionSetting, value_at}
use Rattle.watch_expr.specs.inside.ValueTally.{IsTallyWithin, added_value_if, empty_tally, total}
use Rattle.watch_expr.specs.View.{◌>>=◌}
use Rattle.watch_expr.proofs.ValueTallies.{ending, ending_all, ending_first, ending_none, ending_some, range_next, within_more}

-- what becomes of a tally with the values from the node k on, if there is one
abbrev ending_if : ExpressionSetting → Expression → Option Tally → ℕ → ℕ → Option ℤ
ending_if s x None k n = None
ending_if s x (Some tally) k n = ending s x tally k n

-- what is read at the nodes from k on
abbrev places_from : ExpressionSetting → Expression → ℕ → ℕ → List Place
places_from s x k n = flat_map (λ node. reads_at s (Some node) x) (range_with_len k (n - k))

-- what an aggregate has come to at some node: its tally, and the places that were read
pub record ReadSoFar : Type 0 where
  pub tally : Option Tally
  pub places : List Place

abbrev pub so_far : Option Tally → List Place → ReadSoFar
so_far tally places = record { tally = tally; places = places }

-- what was come to at node k comes to what the aggregate is and reads
pub record IsReadOnTheWay (s : ExpressionSetting) (x : Expression) (first now : ReadSoFar) (k : ℕ) : Type 0 where
  pub within : IfSome now.tally (λ t. IsTallyWithin t k)
  pub values : ending_if s x now.tally k (length s.nodes) ≡ ending_if s x first.tally 0 (length s.nodes)
  pub read : now.places ++ places_from s x k (length s.nodes) ≡ first.places ++ places_from s x 0 (length s.nodes)

ending_next : (s : ExpressionSetting) (x : Expression) (tally : Option Tally) (k n : ℕ) (o : Option ℤ) → k < n → value_at s (Some k) x ≡ o
    → ending_if s x (added_value_if tally o) (k + 1) n ≡ ending_if s x tally k n
ending_next s x None k n o lt e = refl
ending_next s x (Some t) k n None lt e = sym (ending_none s x t k n lt e)
ending_next s x (Some t) k n (Some z) lt e = sym (ending_some s x t k n z lt e)

within_next : (tally : Option Tally) (k : ℕ) (o : Option ℤ) → IfSome o (FitsSigned w64) → IfSome tally (λ t. IsTallyWithin t k)
    → IfSome (added_value_if tally o) (λ t. IsTallyWithin t (k + 1))
within_next None k o fits within = tt
within_next (Some t) k None fits within = tt
within_next (Some t) k (Some z) fits within = within_more t k z fits within

places_next : (s : ExpressionSetting) (x : Expression) (k n : ℕ) → k < n → places_from s x k n ≡ reads_at s (Some k) x ++ places_from s x (k + 1) n
places_next s x k n lt = ap (flat_map (λ node. reads_at s (Some node) x)) (range_next k n lt)

pub reads_on : (s : ExpressionSetting) (x y : Expression) (first tally next : Option Tally) (before places after : List Place) (k : ℕ) (o : Option ℤ)
    → IsReadOnTheWay s x (so_far first before) (so_far tally places) k → k < length s.nodes → IfSome o (FitsSigned w64) → y ≡ x → o ≡ value_at s (Some k) y
    → after ≡ places ++ reads_at s (Some k) y → next ≡ added_value_if tally o
    → IsReadOnTheWay s x (so_far first before) (so_far next after) (k + 1)
reads_on s x y first tally next before places after k o way lt fits at is reads adds =
    let here : value_at s (Some k) x ≡ o = ap (value_at s (Some k)) (sym at) ∙ sym is in
    let read : after ≡ places ++ reads_at s (Some k) x = reads ∙ ap (λ (t : Expression). places ++ reads_at s (Some k) t) at in
    let rest = places_from s x (k + 1) (length s.nodes) in
    record {
      within = rw adds (within_next tally k o fits way.within);
      values = ap (λ (t : Option Tally). ending_if s x t (k + 1) (length s.nodes)) adds ∙ ending_next s x tally k (length s.nodes) o lt here ∙ way.values;
      read =
          ap (λ (l : List Place). l ++ rest) read ∙ append_assoc places (reads_at s (Some k) x) rest
          ∙ ap (λ (l : List Place). places ++ l) (sym (places_next s x k (length s.nodes) lt)) ∙ way.read;
    }

-- what was come to at the end is the value of the aggregate x, and what it reads after the places of before
pub record IsReadWhole (s : ExpressionSetting) (x : Expression) (each : Option ℕ) (before : List Place) (now : ReadSoFar) : Type 0 where
  pub value : (now.tally >>= total) ≡ value_at s each x
  pub read : now.places ≡ before ++ reads_at s each x

total_if : (s : ExpressionSetting) (x : Expression) (tally : Option Tally) (k n : ℕ) → n ≤ k → ending_if s x tally k n ≡ (tally >>= total)
total_if s x None k n le = refl
total_if s x (Some t) k n le = ending_all s x t k n le

pub reads_whole : (s : ExpressionSetting) (x : Expression) (a : Agg) (each : Option ℕ) (first tally : Option Tally) (before places : List Place) (k : ℕ)
    → first ≡ Some (empty_tally a) → IsReadOnTheWay s x (so_far first before) (so_far tally places) k → length s.nodes ≤ k → IsReadWhole s (Over a x) each before (so_far tally places)
reads_whole s x a each first tally before places k begins way le =
    let none : length s.nodes - k ≡ 0 = omega arith in
    let all : length s.nodes - 0 ≡ length s.nodes = omega arith in
    record {
      value =
          sym (total_if s x tally k (length s.nodes) le) ∙ way.values
          ∙ ap (λ (t : Option Tally). ending_if s x t 0 (length s.nodes)) begins ∙ ending_first s x a each;
      read =
          sym (append-nil places)
          ∙ ap (λ (m : ℕ). places ++ flat_map (λ node. reads_at s (Some node) x) (range_with_len k m)) (sym none)
          ∙ way.read
          ∙ ap (λ (m : ℕ). before ++ flat_map (λ node. reads_at s (Some node) x) (range_with_len 0 m)) all;
    }
