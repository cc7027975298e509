-- What follows of a text that is made of lines, one after the other, which crates above need too.
use Rattle.std.proofs.Common.{◌≡◌, ◌+◌, ◌<◌, ◌≤◌, ◌++◌, ℕ, List, drop, length, slice_index_or, ap, sym, ◌∙◌, append_assoc, append-nil}
use Rattle.std.specs.List.{flat_map}
use Rattle.std.proofs.Math.ListN.{drop_of_length-le}
use Rattle.std.proofs.lemmas.List.{drop_more}

module _ {A : Type 0} (line_of : A → List ℕ) where
  pub next_line_joins : (text whole : List ℕ) (lines : List A) (i : ℕ) (line d : A) → i < length lines → line ≡ slice_index_or lines i d
      → text ++ flat_map line_of (drop i lines) ≡ whole → (text ++ line_of line) ++ flat_map line_of (drop (i + 1) lines) ≡ whole
  next_line_joins text whole lines i line d below is so_far =
      let rest = flat_map line_of (drop (i + 1) lines) in
      append_assoc text (line_of line) rest
      ∙ ap (λ (t : List ℕ). text ++ t) (ap (λ (l : A). line_of l ++ rest) is ∙ sym (ap (flat_map line_of) (drop_more lines i d below)))
      ∙ so_far

  pub all_lines : (text whole : List ℕ) (lines : List A) (i : ℕ) → length lines ≤ i → text ++ flat_map line_of (drop i lines) ≡ whole → text ≡ whole
  all_lines text whole lines i past so_far =
      sym (append-nil text) ∙ ap (λ (l : List A). text ++ flat_map line_of l) (sym (drop_of_length-le lines past)) ∙ so_far
