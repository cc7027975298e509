-- The words and signs with a meaning of their own are read, and only they.
use Rattle.std.proofs.Common.{◌≡◌, ℕ, Bool, true, false, cond, List, [], ◌∷◌, Option, Some, None, refl, sym, ap, ◌∙◌}
use Rattle.std.specs.List.{find}
use Rattle.std.specs.Prelude.{bytes_eq, codes}
use Rattle.std.proofs.lemmas.Slice.Eq.{bytes_eq-Decides}
use Rattle.expression_text.specs.declared.expr.Unary.{Unary}
use Rattle.expression_text.specs.declared.expr.Unary.TheVariants as unary
use Rattle.expression_text.specs.declared.expr.Binary.{Binary}
use Rattle.expression_text.specs.declared.expr.Binary.TheVariants as binary
use Rattle.expression_text.specs.declared.expr.Agg.{Agg}
use Rattle.expression_text.specs.declared.expr.Agg.TheVariants as agg
use Rattle.expression_text.specs.declared.expr.Width.TheVariants as width
use Rattle.expression_text.specs.declared.word.PlaceWord.{PlaceWord}
use Rattle.expression_text.specs.declared.word.PlaceWord.TheVariants as place
use Rattle.expression_text.specs.declared.stack.Half.TheVariants as half
use Rattle.expression_text.specs.declared.stack.Opening.{Opening}
use Rattle.expression_text.specs.declared.stack.Opening.TheVariants as opening
use Rattle.expression_text.specs.Machine.{PendingOperator, Front, Inside, Want, Part, machine_step, closing, is_closed_with}
use Rattle.expression_text.specs.Spelling.{number_of, binary_sign, binaries, binary_of, unary_sign, unaries, unary_of, agg_word, aggs, agg_of, place_word, places, place_of}

-- ---- what is found passes the test

passes_by : {X : Type 0} (test : X → Bool) (first x : X) (rest : Option X) → (rest ≡ Some x → test x ≡ true) → (b : Bool) → test first ≡ b → cond b (Some first) rest ≡ Some x → test x ≡ true
passes_by test first x rest later true is e = let same : first ≡ x = cc in ap test (sym same) ∙ is
passes_by test first x rest later false is e = later e

found_passes : {X : Type 0} (test : X → Bool) (xs : List X) (x : X) → find test xs ≡ Some x → test x ≡ true
found_passes test [] x e = absurd cc
found_passes test (first ∷ xs) x e = passes_by test first x (find test xs) (found_passes test xs x) (test first) refl e

pub same_bytes : (a b : List ℕ) → bytes_eq a b ≡ true → a ≡ b
same_bytes a b e = (bytes_eq-Decides a b).0 e

-- ---- operators

pub binary_is : (text : List ℕ) (op : Binary) → binary_of text ≡ Some op → text ≡ binary_sign op
unfolding binary_of
binary_is text op e = sym (same_bytes (binary_sign op) text (found_passes (λ op. bytes_eq (binary_sign op) text) binaries op e))

pub binary_again : (op : Binary) → binary_of (binary_sign op) ≡ Some op
unfolding binary_of
binary_again binary.Or = refl
binary_again binary.And = refl
binary_again binary.Eq = refl
binary_again binary.Ne = refl
binary_again binary.Lt = refl
binary_again binary.Le = refl
binary_again binary.Gt = refl
binary_again binary.Ge = refl
binary_again binary.Add = refl
binary_again binary.Sub = refl
binary_again binary.Mul = refl
binary_again binary.Div = refl
binary_again binary.Rem = refl

pub unary_is : (text : List ℕ) (op : Unary) → unary_of text ≡ Some op → text ≡ unary_sign op
unfolding unary_of
unary_is text op e = sym (same_bytes (unary_sign op) text (found_passes (λ op. bytes_eq (unary_sign op) text) unaries op e))

-- ---- words

pub agg_is : (word : List ℕ) (a : Agg) → agg_of word ≡ Some a → word ≡ agg_word a
unfolding agg_of
agg_is word a e = sym (same_bytes (agg_word a) word (found_passes (λ a. bytes_eq (agg_word a) word) aggs a e))

pub place_is : (word : List ℕ) (p : PlaceWord) → place_of word ≡ Some p → word ≡ place_word p
unfolding place_of
place_is word p e = sym (same_bytes (place_word p) word (found_passes (λ p. bytes_eq (place_word p) word) places p e))

pub place_again : (p : PlaceWord) → place_of (place_word p) ≡ Some p
unfolding place_of
place_again (place.Load width.U8) = refl
place_again (place.Load width.U16) = refl
place_again (place.Load width.U32) = refl
place_again (place.Load width.I8) = refl
place_again (place.Load width.I16) = refl
place_again (place.Load width.I32) = refl
place_again (place.Load width.I64) = refl
place_again place.Global = refl
place_again place.Clock = refl
place_again place.Events = refl
place_again place.Size = refl
place_again place.Thread = refl
place_again place.Ended = refl

-- ---- what a token that is where an operand is wanted leads to

module _ (names : List (List ℕ)) (s : List PendingOperator) where
  pub sign_read : (op : Unary) → machine_step names (Want s) (unary_sign op) ≡ Some (Want (Front op ∷ s))
  unfolding number_of unary_of
  sign_read unary.Minus = refl
  sign_read unary.Not = refl

  pub agg_read : (a : Agg) → machine_step names (Want s) (agg_word a) ≡ Some (Part s (half.Named a))
  unfolding number_of unary_of agg_of
  agg_read agg.Sum = refl
  agg_read agg.Min = refl
  agg_read agg.Max = refl
  agg_read agg.Count = refl

  pub bracket_read : machine_step names (Want s) (codes "(") ≡ Some (Want (Inside opening.Bracket ∷ s))
  unfolding number_of unary_of agg_of
  bracket_read = refl

  pub dollar_read : machine_step names (Want s) (codes "$") ≡ Some (Part s half.Dollar)
  unfolding number_of unary_of agg_of
  dollar_read = refl

  pub at_read : machine_step names (Want s) (codes "@") ≡ Some (Part s half.At)
  unfolding number_of unary_of agg_of
  at_read = refl

-- ---- signs that close

-- what closes is no operator
pub closing_again : (o : Opening) → (binary_of (closing o) ≡ None) × (is_closed_with o (closing o) ≡ true)
unfolding binary_of
closing_again opening.Bracket = (refl, refl)
closing_again (opening.Call a) = (refl, refl)
closing_again (opening.Load node w) = (refl, refl)

pub zero_is : number_of (codes "0") ≡ Some 0
unfolding number_of
zero_is = refl
