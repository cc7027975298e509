-- The parts of an expression, and the values of an aggregate's one after the other.
use Rattle.std.proofs.Common.{◌≡◌, ℕ, ◌+◌, ◌<◌, ◌≤◌, List, [], ◌∷◌, ◌++◌, drop, get_or, length, map, Option, Some, None, refl, sym, ap, ◌∙◌, arith, FitsSigned, w64, ℤ, of_z, to_z, fold}
use Rattle.std.proofs.lemmas.Int.{ints, to_z-of_z}
use Rattle.std.proofs.lemmas.List.{append-nil, drop_all, drop_more}
use Rattle.std.proofs.lemmas.List.FromFn.{length-map-range_with_len, map-range_with_len_more}
use Rattle.std.specs.List.{flat_map, range_with_len}
use Rattle.expression_text.specs.declared.expr.Agg.{Agg}
use Rattle.expression_text.specs.declared.expr.Agg.TheVariants as agg
use Rattle.watch_expr.specs.declared.reads.Place.{Place}
use Rattle.watch_expr.specs.declared.value.tally.Tally.{Tally}
use Rattle.expression_text.specs.Expression.{Clock, Events, Expression, Global, HasEnded, LastThread, Load, Number, One, Over, Size, Two, Var}
use Rattle.watch_expr.specs.Parts.{Part, PartsMakeUp, nth_part, places_of_parts}
use Rattle.watch_expr.specs.Reads.{no_variables, reads_at, reads_of_expression}
use Rattle.watch_expr.specs.Value.{aggregate_over, all_numbers, expression_setting, value_at}
use Rattle.watch_expr.specs.View.{Node, ◌>>=◌}
use Rattle.watch_expr.specs.inside.ValueTally.{IsTallyWithin, added_value, empty_tally, total}
use Rattle.watch_expr.proofs.ValueTallies.{begun, front, within_more}

-- ---- what they make up

over_values : (nodes : List Node) (agg : Agg) (x : Expression) (ks : List ℕ)
    → map (λ k. value_at (expression_setting nodes no_variables) (Some k) x) ks ≡ map (λ (p : Part). p.value) (map (nth_part nodes (Over agg x)) ks)
over_values nodes agg x [] = refl
over_values nodes agg x (k ∷ ks) = ap (λ (vs : List (Option ℤ)). value_at (expression_setting nodes no_variables) (Some k) x ∷ vs) (over_values nodes agg x ks)

over_places : (nodes : List Node) (agg : Agg) (x : Expression) (ks : List ℕ)
    → flat_map (λ k. reads_at (expression_setting nodes no_variables) (Some k) x) ks ≡ places_of_parts (map (nth_part nodes (Over agg x)) ks)
over_places nodes agg x [] = refl
over_places nodes agg x (k ∷ ks) = ap (λ (ls : List Place). reads_at (expression_setting nodes no_variables) (Some k) x ++ ls) (over_places nodes agg x ks)

-- the places of a whole
whole : (nodes : List Node) (x : Expression) → reads_of_expression nodes x ≡ reads_of_expression nodes x ++ []
whole nodes x = sym (append-nil (reads_of_expression nodes x))

pub parts_make_up : PartsMakeUp
parts_make_up nodes (Over agg x) =
    let ks = range_with_len 0 (length nodes) in
    (ap (λ (vs : List (Option ℤ)). all_numbers vs >>= aggregate_over agg) (over_values nodes agg x ks), over_places nodes agg x ks)
parts_make_up nodes (Number n) = (refl, refl)
parts_make_up nodes (Var name) = (refl, refl)
parts_make_up nodes (One op x) = (refl, whole nodes (One op x))
parts_make_up nodes (Two op x y) = (refl, whole nodes (Two op x y))
parts_make_up nodes (Load name width x) = (refl, whole nodes (Load name width x))
parts_make_up nodes (Global name n) = (refl, whole nodes (Global name n))
parts_make_up nodes (Clock name) = (refl, whole nodes (Clock name))
parts_make_up nodes (Events name) = (refl, whole nodes (Events name))
parts_make_up nodes (Size name) = (refl, whole nodes (Size name))
parts_make_up nodes (LastThread name) = (refl, whole nodes (LastThread name))
parts_make_up nodes (HasEnded name) = (refl, whole nodes (HasEnded name))

-- ---- an aggregate's value

-- what becomes of a tally with the values of more parts
abbrev pub ending_with : Tally → List Part → Option ℤ
ending_with tally parts = all_numbers (map (λ (p : Part). p.value) parts) >>= λ ws. total (fold added_value tally ws)

-- the tally before the part i comes to the aggregate's value
pub record IsTalliedTo (a : Agg) (parts : List Part) (tally : Tally) (i : ℕ) : Type 0 where
  pub within : IsTallyWithin tally i
  pub comes : ending_with tally (drop i parts) ≡ (all_numbers (map (λ (p : Part). p.value) parts) >>= aggregate_over a)

empty_within : (a : Agg) → IsTallyWithin (empty_tally a) 0
empty_within agg.Sum = (omega (arith, ints), omega (arith, ints))
empty_within agg.Min = tt
empty_within agg.Max = tt
empty_within agg.Count = omega arith

pub tallied_first : (a : Agg) (parts : List Part) (first : Tally) → first ≡ empty_tally a → IsTalliedTo a parts first 0
tallied_first a parts first is = rw is (record { within = empty_within a; comes = begun a _ })

ending_one : (tally : Tally) (v : Option ℤ) (p : Part) (rest : List Part) → p.value ≡ v
    → ending_with tally (p ∷ rest) ≡ ((v >>= λ z. all_numbers (map (λ (p : Part). p.value) rest) >>= λ ws. Some (z ∷ ws)) >>= λ ws. total (fold added_value tally ws))
ending_one tally None p rest is = ap (λ (o : Option ℤ). all_numbers (o ∷ map (λ (p : Part). p.value) rest) >>= λ ws. total (fold added_value tally ws)) is
ending_one tally (Some z) p rest is = ap (λ (o : Option ℤ). all_numbers (o ∷ map (λ (p : Part). p.value) rest) >>= λ ws. total (fold added_value tally ws)) is

module _ (a : Agg) (parts : List Part) (tally : Tally) (i : ℕ) (p : Part) (so_far : IsTalliedTo a parts tally i) (below : i < length parts) (here : get_or parts i p ≡ p) where
  ahead : drop i parts ≡ p ∷ drop (i + 1) parts
  ahead = drop_more parts i p below ∙ ap (λ (q : Part). q ∷ drop (i + 1) parts) here

  pub tallied_none : p.value ≡ None → None ≡ (all_numbers (map (λ (p : Part). p.value) parts) >>= aggregate_over a)
  tallied_none none = sym (ending_one tally None p (drop (i + 1) parts) none) ∙ ap (ending_with tally) (sym ahead) ∙ so_far.comes

  pub tallied_more : (z : ℤ) (next : Tally) → FitsSigned w64 z → p.value ≡ Some z → next ≡ added_value tally (to_z w64 (of_z w64 z)) → IsTalliedTo a parts next (i + 1)
  tallied_more z next fits some is =
      let same : next ≡ added_value tally z = is ∙ ap (added_value tally) (to_z-of_z w64 z fits) in
      let rest = drop (i + 1) parts in
      record {
        within = rw same (within_more tally i z fits so_far.within);
        comes = ap (λ (t : Tally). ending_with t rest) same ∙ sym (front tally z (all_numbers (map (λ (p : Part). p.value) rest)))
            ∙ sym (ending_one tally (Some z) p rest some) ∙ ap (ending_with tally) (sym ahead) ∙ so_far.comes;
      }

pub tallied_all : (a : Agg) (parts : List Part) (tally : Tally) (i : ℕ) → IsTalliedTo a parts tally i → length parts ≤ i
    → total tally ≡ (all_numbers (map (λ (p : Part). p.value) parts) >>= aggregate_over a)
tallied_all a parts tally i so_far end = ap (ending_with tally) (sym (drop_all i parts end)) ∙ so_far.comes

-- ---- one part after the other

pub one_more : (f : ℕ → Part) (n : ℕ) (now after : List Part) (p : Part) → now ≡ map f (range_with_len 0 n) → p ≡ f n → after ≡ now ++ p ∷ []
    → after ≡ map f (range_with_len 0 (n + 1))
one_more f n now after p so_far is adds =
    adds ∙ ap (λ (ps : List Part). ps ++ p ∷ []) so_far ∙ ap (λ (q : Part). map f (range_with_len 0 n) ++ q ∷ []) is
    ∙ sym (map-range_with_len_more f 0 n n (omega arith))

pub so_many : (f : ℕ → Part) (n : ℕ) (parts : List Part) → parts ≡ map f (range_with_len 0 n) → length parts ≡ n
so_many f n parts are = ap (λ (ps : List Part). length ps) are ∙ length-map-range_with_len f 0 n
