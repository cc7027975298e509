-- Where nothing that was read is marked, a watch stays as it is.
use Rattle.std.proofs.Common.{◌≡◌, ℕ, ℤ, ◌-◌, ◌<◌, false, List, [], ◌∷◌, length, map, Option, None, refl, sym, ap, ◌∙◌, arith}
use Rattle.std.proofs.lemmas.Bool.Decides.{nat_tests}
use Rattle.std.proofs.lemmas.List.Folds.{list_any-append}
use Rattle.std.specs.Prelude.{nat_eq}
use Rattle.std.specs.List.{AllByRecursion, range_with_len}
use Rattle.watch_expr.specs.declared.reads.Place.{Place}
use Rattle.expression_text.specs.Expression.{Expression}
use Rattle.watch_expr.specs.Parts.{Part, body_of_parts, node_of_part, part_count, nth_part, parts_of, places_of_parts}
use Rattle.watch_expr.specs.Reads.{AreMemories, ReadsTell, SameAtPlace, no_variables, reads_of_expression}
use Rattle.watch_expr.specs.Value.{value}
use Rattle.watch_expr.specs.View.{Node}
use Rattle.page_watch.specs.Touch.{MarksTell, meets}
use Rattle.page_watch.specs.Watched.{WatchStands, Watched}
use Rattle.page_watch.proofs.OneNode.{or-false}

unlike : (m n : ℕ) → nat_eq m n ≡ false → m ≡ n → ⊥
unlike m n h e = grind (arith, nat_tests)

all_same : (old new : List Node) (marks : Place → ℕ) (at : ℕ) → ((l : Place) → (marks l ≡ at → ⊥) → SameAtPlace old new l)
    → (places : List Place) → meets marks at places ≡ false → AllByRecursion (SameAtPlace old new) places
all_same old new marks at same [] h = tt
all_same old new marks at same (l ∷ places) h =
    let o = or-false (nat_eq (marks l) at) (meets marks at places) h in
    (same l (unlike (marks l) at o.0), all_same old new marks at same places o.1)

-- two states at one of which nothing of what is read has the mark
module _ (law : ReadsTell) (states : ℕ → List Node) (at : ℕ) (marks : Place → ℕ) (tells : MarksTell states at marks) (some : 0 < at) (sound : AreMemories (states (at - 1))) (x : Expression) where
  abbrev old : List Node
  old = states (at - 1)

  abbrev new : List Node
  new = states at

  even : length new ≡ length old
  even = sym (tells.even (at - 1) (omega arith))

  untouched : (places : List Place) → meets marks at places ≡ false → AllByRecursion (SameAtPlace old new) places
  untouched places unmet = all_same old new marks at (λ l n. tells.unmarked l some n sound) places unmet

  abbrev made : Option ℤ → List Place → Part
  made v places = record { value = v; places = places }

  -- a part is as it was
  pub part_stays : (n : ℕ) → meets marks at (nth_part old x n).places ≡ false → nth_part new x n ≡ nth_part old x n
  part_stays n unmet =
      let told = law old new (node_of_part x n) (body_of_parts x) even sound tells.sound (untouched (nth_part old x n).places unmet) in
      ap (λ (v : Option ℤ). made v (nth_part new x n).places) told.0 ∙ ap (made (nth_part old x n).value) told.1

  stay_at : (ks : List ℕ) → meets marks at (places_of_parts (map (nth_part old x) ks)) ≡ false → map (nth_part new x) ks ≡ map (nth_part old x) ks
  stay_at [] unmet = refl
  stay_at (k ∷ ks) unmet =
      let both = or-false (meets marks at (nth_part old x k).places) (meets marks at (places_of_parts (map (nth_part old x) ks)))
      (sym (list_any-append (λ l. nat_eq (marks l) at) (nth_part old x k).places (places_of_parts (map (nth_part old x) ks))) ∙ unmet) in
      ap (λ (p : Part). p ∷ map (nth_part new x) ks) (part_stays k both.0) ∙ ap (λ (ps : List Part). nth_part old x k ∷ ps) (stay_at ks both.1)

  -- all parts are as they were
  pub parts_stay : meets marks at (places_of_parts (parts_of old x)) ≡ false → parts_of new x ≡ parts_of old x
  parts_stay unmet =
      ap (λ (n : ℕ). map (nth_part new x) (range_with_len 0 (part_count n x))) even ∙ stay_at (range_with_len 0 (part_count (length old) x)) unmet

  pub value_stays : meets marks at (reads_of_expression old x) ≡ false
      → (value new no_variables x ≡ value old no_variables x) × (reads_of_expression new x ≡ reads_of_expression old x)
  value_stays unmet = law old new None x even sound tells.sound (untouched (reads_of_expression old x) unmet)

-- the watch stands for the state at the position too
pub keeps : ReadsTell → (states : ℕ → List Node) (at : ℕ) (marks : Place → ℕ) (watch : Watched)
    → MarksTell states at marks → 0 < at → WatchStands watch (states (at - 1)) → meets marks at (places_of_parts watch.parts) ≡ false
    → WatchStands watch (states at)
keeps law states at marks watch tells some stood unmet =
    let x = watch.expression in
    let as_before = value_stays law states at marks tells some stood.sound x (ap (meets marks at) (sym stood.places) ∙ unmet) in
    let parts = parts_stay law states at marks tells some stood.sound x (ap (λ (ps : List Part). meets marks at (places_of_parts ps)) (sym stood.parts) ∙ unmet) in
    record {
      value = stood.value ∙ sym as_before.0;
      parts = stood.parts ∙ sym parts;
      places = stood.places ∙ sym as_before.1;
      sound = tells.sound;
    }
