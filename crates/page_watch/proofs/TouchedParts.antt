-- The parts of an expression, read again one after the other.
use Rattle.std.proofs.Common.{◌≡◌, ℕ, zero, suc, ◌+◌, ◌<◌, ◌≤◌, Bool, false, List, [], ◌∷◌, ◌++◌, drop, get_or, length, map, set, take, refl, sym, ap, ◌∙◌, add-one, arith}
use Rattle.std.proofs.lemmas.List.{append-nil, drop_all, take_all}
use Rattle.std.proofs.lemmas.List.FromFn.{get_or-map-range_with_len, length-map-range_with_len}
use Rattle.std.proofs.lemmas.List.Folds.{list_any-append, list_any_more}
use Rattle.std.specs.Prelude.{◌||◌}
use Rattle.std.specs.List.{list_any, range_with_len}
use Rattle.watch_expr.specs.declared.reads.Place.{Place}
use Rattle.expression_text.specs.Expression.{Expression}
use Rattle.watch_expr.specs.Parts.{Part, part_count, nth_part, parts_of, places_of_parts}
use Rattle.watch_expr.specs.View.{Node}
use Rattle.page_watch.specs.inside.Places.{AreUnion, CoversPlaces}
use Rattle.page_watch.proofs.AskedWatches.{at_place, neither, set_place}
use Rattle.page_watch.proofs.OneNode.{or-false}

-- ---- lists of which the first ones were replaced

replaced_here : {X : Type 0} (news olds : List X) (n : ℕ) (d : X) → length news ≡ length olds → n < length olds → get_or (take n news ++ drop n olds) n d ≡ get_or olds n d
replaced_here news [] n d even below = absurd (omega (arith, below))
replaced_here [] (o ∷ olds) n d even below = absurd (omega (arith, even))
replaced_here (x ∷ news) (o ∷ olds) zero d even below = refl
replaced_here (x ∷ news) (o ∷ olds) (suc n) d even below = replaced_here news olds n d (omega (arith, even)) (omega (arith, below))

replaced_next : {X : Type 0} (news olds : List X) (n : ℕ) (d : X) → length news ≡ length olds → n < length olds
    → set (take n news ++ drop n olds) n (get_or news n d) ≡ take (suc n) news ++ drop (suc n) olds
replaced_next news [] n d even below = absurd (omega (arith, below))
replaced_next [] (o ∷ olds) n d even below = absurd (omega (arith, even))
replaced_next (x ∷ news) (o ∷ olds) zero d even below = refl
replaced_next (x ∷ news) (o ∷ olds) (suc n) d even below = ap (λ (ys : List _). x ∷ ys) (replaced_next news olds n d (omega (arith, even)) (omega (arith, below)))

replaced_length : {X : Type 0} (news olds : List X) (n : ℕ) → length news ≡ length olds → length (take n news ++ drop n olds) ≡ length olds
replaced_length [] [] zero even = refl
replaced_length [] [] (suc n) even = refl
replaced_length [] (o ∷ olds) n even = absurd (omega (arith, even))
replaced_length (x ∷ news) [] n even = absurd (omega (arith, even))
replaced_length (x ∷ news) (o ∷ olds) zero even = refl
replaced_length (x ∷ news) (o ∷ olds) (suc n) even = ap suc (replaced_length news olds n (omega (arith, even)))

-- ---- part after part

in_parts : (p : Place → Bool) (parts : List Part) → list_any p (places_of_parts parts) ≡ list_any (λ (q : Part). list_any p q.places) parts
in_parts p [] = refl
in_parts p (q ∷ parts) = list_any-append p q.places (places_of_parts parts) ∙ ap (λ (b : Bool). list_any p q.places || b) (in_parts p parts)

-- the places of the first parts are held, with those that were held before
pub record AreHeld (parts : List Part) (first held : List Place) (n : ℕ) : Type 0 where
  pub more : CoversPlaces held first
  pub covers : CoversPlaces held (places_of_parts (take n parts))

pub none_held : (parts : List Part) (first : List Place) → AreHeld parts first first 0
none_held parts first = record { more = λ p none. none; covers = λ p none. refl }

pub next_held : (parts : List Part) (first held more : List Place) (n : ℕ) (q : Part) → AreHeld parts first held n → n < length parts → get_or parts n q ≡ q → AreUnion more held q.places
    → AreHeld parts first more (n + 1)
next_held parts first held more n q so_far below here union = record {
  more = λ p none. so_far.more p (or-false (list_any p held) (list_any p q.places) (sym (union p) ∙ none)).0;
  covers = λ p none.
      let both = or-false (list_any p held) (list_any p q.places) (sym (union p) ∙ none) in
      let first_ones = sym (in_parts p (take n parts)) ∙ so_far.covers p both.0 in
      in_parts p (take (n + 1) parts) ∙ list_any_more (λ (r : Part). list_any p r.places) parts n q below
      ∙ neither _ _ first_ones (ap (λ (r : Part). list_any p r.places) here ∙ both.1);
}

pub all_held : (parts : List Part) (first held : List Place) (n : ℕ) → AreHeld parts first held n → length parts ≤ n → CoversPlaces held (places_of_parts parts)
all_held parts first held n so_far end p none = ap (λ (ps : List Part). list_any p (places_of_parts ps)) (sym (take_all n parts end)) ∙ so_far.covers p none

-- the first of them were read again if they pass the test, and the places of all are held
pub record AreReadAgain (f : ℕ → Part) (test : Place → Bool) (olds : List Part) (first : List Place) (n : ℕ) (now : List Part) (held : List Place) (touched : Bool) : Type 0 where
  pub parts : now ≡ take n (map f (range_with_len 0 (length olds))) ++ drop n olds
  pub touches : touched ≡ list_any (λ (q : Part). list_any test q.places) (take n olds)
  pub more : CoversPlaces held first
  pub covers : CoversPlaces (held ++ places_of_parts olds) (places_of_parts now)

module _ (f : ℕ → Part) (test : Place → Bool) (olds : List Part) (first : List Place) where
  abbrev news : List Part
  news = map f (range_with_len 0 (length olds))

  even : length news ≡ length olds
  even = length-map-range_with_len f 0 (length olds)

  pub none_read : AreReadAgain f test olds first 0 olds first false
  none_read = record { parts = refl; touches = refl; more = λ p none. none; covers = λ p none. (or-false (list_any p first) (list_any p (places_of_parts olds)) (sym (list_any-append p first (places_of_parts olds)) ∙ none)).1 }

  module _ (n : ℕ) (now : List Part) (held : List Place) (touched : Bool) (so_far : AreReadAgain f test olds first n now held touched) (below : n < length olds) where
    pub inside : n < length now
    inside = omega (arith, below, replaced_length news olds n even, ap (λ (ps : List Part). length ps) so_far.parts)

    pub this_part : (d : Part) → get_or now n d ≡ get_or olds n d
    this_part d = ap (λ (ps : List Part). get_or ps n d) so_far.parts ∙ replaced_here news olds n d even below

    pub next_read : (old new : Part) (more : List Place) (b next : Bool) → get_or now n old ≡ old → new ≡ f n → b ≡ list_any test old.places → next ≡ (touched || b)
        → CoversPlaces more held → CoversPlaces (more ++ old.places) new.places → AreReadAgain f test olds first (n + 1) (set now n new) more next
    next_read old new more b next here is says adds all places =
        let at_news : get_or news n new ≡ f n = get_or-map-range_with_len f 0 (length olds) n n new below (omega arith) in
        let same : get_or olds n old ≡ old = sym (this_part old) ∙ here in
        record {
          parts = ap (set now n) (is ∙ sym at_news) ∙ ap (λ (ps : List Part). set ps n (get_or news n new)) so_far.parts ∙ replaced_next news olds n new even below
              ∙ ap (λ (k : ℕ). take k news ++ drop k olds) (sym (add-one n));
          touches = adds ∙ ap (λ (t : Bool). t || b) so_far.touches ∙ ap (λ (t : Bool). list_any (λ (q : Part). list_any test q.places) (take n olds) || t) (says ∙ ap (λ (q : Part). list_any test q.places) (sym same))
              ∙ sym (list_any_more (λ (q : Part). list_any test q.places) olds n old below);
          more = λ p none. so_far.more p (all p none);
          covers = λ p none.
              let both = or-false (list_any p more) (list_any p (places_of_parts olds)) (sym (list_any-append p more (places_of_parts olds)) ∙ none) in
              let before = so_far.covers p (list_any-append p held (places_of_parts olds) ∙ neither (list_any p held) (list_any p (places_of_parts olds)) (all p both.0) both.1) in
              let was : list_any p old.places ≡ false = ap (λ (q : Part). list_any p q.places) (sym here) ∙ at_place (λ (q : Part). q.places) p now n old inside before in
              set_place (λ (q : Part). q.places) p now n new before (places p (list_any-append p more old.places ∙ neither (list_any p more) (list_any p old.places) both.0 was));
        }

  -- all of them were read again
  pub all_read : (n : ℕ) (now : List Part) (held : List Place) (touched : Bool) → AreReadAgain f test olds first n now held touched → length olds ≤ n
      → (now ≡ news) × (touched ≡ list_any test (places_of_parts olds))
  all_read n now held touched so_far end = (
    so_far.parts ∙ ap (λ (ps : List Part). ps ++ drop n olds) (take_all n news (omega (arith, end, even))) ∙ ap (λ (ps : List Part). news ++ ps) (drop_all n olds end) ∙ append-nil news,
    so_far.touches ∙ ap (list_any (λ (q : Part). list_any test q.places)) (take_all n olds end) ∙ sym (in_parts test olds),
  )

-- ---- the parts of an expression in two states

pub part_here : (f : ℕ → Part) (k n : ℕ) (parts : List Part) (d : Part) → parts ≡ map f (range_with_len 0 k) → n < length parts → get_or parts n d ≡ f n
part_here f k n parts d are below =
    let many : length parts ≡ k = ap (λ (ps : List Part). length ps) are ∙ length-map-range_with_len f 0 k in
    ap (λ (ps : List Part). get_or ps n d) are ∙ get_or-map-range_with_len f 0 k n n d (omega (arith, below, many)) (omega arith)

pub so_many : (old new nodes : List Node) (x : Expression) (parts : List Part) (end : ℕ) → parts ≡ parts_of old x → length old ≡ length new → nodes ≡ new → end ≡ part_count (length nodes) x
    → (length parts ≡ end) × (length parts ≡ part_count (length new) x)
so_many old new nodes x parts end are even here ends =
    let many : length parts ≡ part_count (length new) x =
    ap (λ (ps : List Part). length ps) are ∙ length-map-range_with_len (nth_part old x) 0 (part_count (length old) x) ∙ ap (λ (n : ℕ). part_count n x) even in
    (many ∙ ap (λ (ns : List Node). part_count (length ns) x) (sym here) ∙ sym ends, many)
