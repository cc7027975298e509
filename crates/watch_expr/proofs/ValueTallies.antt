-- Values at one node after the other.
use Rattle.std.proofs.Common.{◌≡◌, ℕ, suc, ◌+◌, ◌-◌, ◌<◌, ◌≤◌, List, [], ◌∷◌, map, fold, Option, Some, None, refl, sym, ap, ◌∙◌, arith, cond, ℤ, pos, ◌+ℤ◌, FitsSigned, length, of_z, to_z, w64}
use Rattle.std.proofs.lemmas.Int.{ints, to_z-of_z}
use Rattle.std.specs.Prelude.{not}
use Rattle.std.specs.Int.{int_max, int_min}
use Rattle.std.specs.List.{range_with_len}
use Rattle.expression_text.specs.declared.expr.Agg.{Agg}
use Rattle.expression_text.specs.declared.expr.Agg.TheVariants as agg
use Rattle.watch_expr.specs.declared.value.tally.Tally.{Tally}
use Rattle.watch_expr.specs.declared.value.tally.Tally.TheVariants.{Sum, Min, Max, Count}
use Rattle.expression_text.specs.Expression.{Expression, Over}
use Rattle.watch_expr.specs.Value.{ExpressionSetting, all_numbers, is_zero, aggregate_over, value_at}
use Rattle.watch_expr.specs.inside.ValueTally.{IsTallyWithin, added_value, empty_tally, total}
use Rattle.watch_expr.specs.View.{◌>>=◌}

-- ---- a whole list of values

sums : (z : ℤ) (ws : List ℤ) → fold added_value (Sum z) ws ≡ Sum (fold ◌+ℤ◌ z ws)
sums z [] = refl
sums z (w ∷ ws) = sums (z +ℤ w) ws

leasts : (z : ℤ) (ws : List ℤ) → fold added_value (Min (Some z)) ws ≡ Min (Some (fold int_min z ws))
leasts z [] = refl
leasts z (w ∷ ws) = leasts (int_min z w) ws

greatests : (z : ℤ) (ws : List ℤ) → fold added_value (Max (Some z)) ws ≡ Max (Some (fold int_max z ws))
greatests z [] = refl
greatests z (w ∷ ws) = greatests (int_max z w) ws

counts : (n : ℕ) (ws : List ℤ) → fold added_value (Count n) ws ≡ Count (fold (λ m w. m + cond (not (is_zero w)) 1 0) n ws)
counts n [] = refl
counts n (w ∷ ws) = counts (n + cond (not (is_zero w)) 1 0) ws

total_says : (a : Agg) (ws : List ℤ) → total (fold added_value (empty_tally a) ws) ≡ aggregate_over a ws
total_says agg.Sum ws = ap total (sums (pos 0) ws)
total_says agg.Min [] = refl
total_says agg.Min (w ∷ ws) = ap total (leasts w ws)
total_says agg.Max [] = refl
total_says agg.Max (w ∷ ws) = ap total (greatests w ws)
total_says agg.Count ws = ap total (counts 0 ws)

-- ---- the nodes from one on

-- what becomes of a tally with the values from the node k on
abbrev pub ending : ExpressionSetting → Expression → Tally → ℕ → ℕ → Option ℤ
ending s x tally k n = all_numbers (map (λ node. value_at s (Some node) x) (range_with_len k (n - k))) >>= λ ws. total (fold added_value tally ws)

pub range_next : (k n : ℕ) → k < n → range_with_len k (n - k) ≡ k ∷ range_with_len (k + 1) (n - (k + 1))
range_next k n lt = let e : n - k ≡ suc (n - (k + 1)) = omega arith in ap (range_with_len k) e

pub front : (tally : Tally) (a : ℤ) (o : Option (List ℤ))
    → ◌≡◌ {A = Option ℤ} ((o >>= λ ws. Some (a ∷ ws)) >>= λ ws. total (fold added_value tally ws)) (o >>= λ ws. total (fold added_value (added_value tally a) ws))
front tally a None = refl
front tally a (Some ws) = refl

pub ending_some : (s : ExpressionSetting) (x : Expression) (tally : Tally) (k n : ℕ) (a : ℤ) → k < n → value_at s (Some k) x ≡ Some a
    → ending s x tally k n ≡ ending s x (added_value tally a) (k + 1) n
ending_some s x tally k n a lt e =
    let rest = all_numbers (map (λ node. value_at s (Some node) x) (range_with_len (k + 1) (n - (k + 1)))) in
    ap (λ (ks : List ℕ). all_numbers (map (λ node. value_at s (Some node) x) ks) >>= λ ws. total (fold added_value tally ws)) (range_next k n lt)
    ∙ ap (λ (o : Option ℤ). all_numbers (o ∷ map (λ node. value_at s (Some node) x) (range_with_len (k + 1) (n - (k + 1)))) >>= λ ws. total (fold added_value tally ws)) e
    ∙ front tally a rest

pub ending_none : (s : ExpressionSetting) (x : Expression) (tally : Tally) (k n : ℕ) → k < n → value_at s (Some k) x ≡ None → ending s x tally k n ≡ None
ending_none s x tally k n lt e =
    ap (λ (ks : List ℕ). all_numbers (map (λ node. value_at s (Some node) x) ks) >>= λ ws. total (fold added_value tally ws)) (range_next k n lt)
    ∙ ap (λ (o : Option ℤ). all_numbers (o ∷ map (λ node. value_at s (Some node) x) (range_with_len (k + 1) (n - (k + 1)))) >>= λ ws. total (fold added_value tally ws)) e

pub ending_all : (s : ExpressionSetting) (x : Expression) (tally : Tally) (k n : ℕ) → n ≤ k → ending s x tally k n ≡ total tally
ending_all s x tally k n le =
    let e : n - k ≡ 0 = omega arith in
    ap (λ (m : ℕ). all_numbers (map (λ node. value_at s (Some node) x) (range_with_len k m)) >>= λ ws. total (fold added_value tally ws)) e

pub begun : (a : Agg) (o : Option (List ℤ)) → ◌≡◌ {A = Option ℤ} (o >>= λ ws. total (fold added_value (empty_tally a) ws)) (o >>= aggregate_over a)
begun a None = refl
begun a (Some ws) = total_says a ws

pub ending_first : (s : ExpressionSetting) (x : Expression) (a : Agg) (each : Option ℕ) → ending s x (empty_tally a) 0 (length s.nodes) ≡ value_at s each (Over a x)
ending_first s x a each =
    let z : length s.nodes - 0 ≡ length s.nodes = omega arith in
    ap (λ (m : ℕ). all_numbers (map (λ node. value_at s (Some node) x) (range_with_len 0 m)) >>= λ ws. total (fold added_value (empty_tally a) ws)) z ∙ begun a _

-- ---- how far a tally can have come

pub within_more : (tally : Tally) (k : ℕ) (a : ℤ) → FitsSigned w64 a → IsTallyWithin tally k → IsTallyWithin (added_value tally a) (k + 1)
within_more (Sum z) k a fit within = (omega (arith, ints, fit, within.0, within.1), omega (arith, ints, fit, within.0, within.1))
within_more (Min o) k a fit within = tt
within_more (Max o) k a fit within = tt
within_more (Count m) k a fit within = grind arith

-- ---- the loop over the nodes

-- the tally at node k comes to the aggregate's value
pub record IsOnTheWay (s : ExpressionSetting) (x : Expression) (first tally : Tally) (k : ℕ) : Type 0 where
  pub within : IsTallyWithin tally k
  pub so_far : ending s x tally k (length s.nodes) ≡ ending s x first 0 (length s.nodes)

pub ends_none : (s : ExpressionSetting) (x y : Expression) (a : Agg) (each : Option ℕ) (first tally : Tally) (k : ℕ)
    → first ≡ empty_tally a → IsOnTheWay s x first tally k → k < length s.nodes → y ≡ x → None ≡ value_at s (Some k) y → None ≡ value_at s each (Over a x)
ends_none s x y a each first tally k begins way lt same none =
    sym (ending_none s x tally k (length s.nodes) lt (sym (none ∙ ap (λ (t : Expression). value_at s (Some k) t) same))) ∙ way.so_far
    ∙ ap (λ (t : Tally). ending s x t 0 (length s.nodes)) begins ∙ ending_first s x a each

pub ends_all : (s : ExpressionSetting) (x : Expression) (a : Agg) (each : Option ℕ) (first tally : Tally) (k : ℕ)
    → first ≡ empty_tally a → IsOnTheWay s x first tally k → length s.nodes ≤ k → total tally ≡ value_at s each (Over a x)
ends_all s x a each first tally k begins way le =
    sym (ending_all s x tally k (length s.nodes) le) ∙ way.so_far
    ∙ ap (λ (t : Tally). ending s x t 0 (length s.nodes)) begins ∙ ending_first s x a each

pub goes_on : (s : ExpressionSetting) (x y : Expression) (first tally next : Tally) (k : ℕ) (z : ℤ)
    → IsOnTheWay s x first tally k → k < length s.nodes → FitsSigned w64 z → y ≡ x → Some z ≡ value_at s (Some k) y
    → next ≡ added_value tally (to_z w64 (of_z w64 z)) → IsOnTheWay s x first next (k + 1)
goes_on s x y first tally next k z way lt fit at some is =
    let here = sym (some ∙ ap (λ (t : Expression). value_at s (Some k) t) at) in
    let same : next ≡ added_value tally z = is ∙ ap (added_value tally) (to_z-of_z w64 z fit) in
    record {
      within = rw same (within_more tally k z fit way.within);
      so_far = ap (λ (t : Tally). ending s x t (k + 1) (length s.nodes)) same ∙ sym (ending_some s x tally k (length s.nodes) z lt here) ∙ way.so_far;
    }
