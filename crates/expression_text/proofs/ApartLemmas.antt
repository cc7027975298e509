-- No comma, semicolon, brace or string is in an expression.
use Rattle.std.proofs.Common.{◌≡◌, ℕ, Bool, true, false, not, cond, ◌||◌, ◌==◌, inl, inr, ltb, List, [], ◌∷◌, ◌++◌, length, Option, Some, None, refl, sym, ap, ◌∙◌}
use Rattle.std.specs.Prelude.{bytes_eq, codes, slice_index, is_some}
use Rattle.std.specs.Char.{is_ascii_digit}
use Rattle.std.specs.List.{list_all}
use Rattle.std.proofs.lemmas.Bool.{and_from, and_right, or_cases, and_parts, eqb-true}
use Rattle.fri_text.specs.Decimal.{decimal_of}
use Rattle.expression_text.specs.declared.expr.Unary.{Unary}
use Rattle.expression_text.specs.declared.expr.Unary.TheVariants as unary
use Rattle.expression_text.specs.declared.expr.Binary.{Binary}
use Rattle.expression_text.specs.declared.expr.Binary.TheVariants as binary
use Rattle.expression_text.specs.declared.expr.Agg.{Agg}
use Rattle.expression_text.specs.declared.expr.Agg.TheVariants as agg
use Rattle.expression_text.specs.declared.expr.NodeName.{NodeName}
use Rattle.expression_text.specs.declared.expr.Width.{Width}
use Rattle.expression_text.specs.declared.expr.Width.TheVariants as width
use Rattle.expression_text.specs.declared.word.PlaceWord.TheVariants as place
use Rattle.expression_text.specs.Expression.{Expression}
use Rattle.expression_text.specs.Spelling.{is_word_byte, is_word, node_of_word, node_spelled, number_of, number_at_most, most_number, binary_sign, unary_sign, agg_word, place_word}
use Rattle.expression_text.specs.Grammar.{IsExprAtLevel, higher, two, one, number, variable, brackets, over, load, global, clock, events, size, last_thread, has_ended}
use Rattle.expression_text.specs.Laws.{is_apart_token, NoSeparatorInExpr}
use Rattle.expression_text.proofs.KnownWords.{same_bytes}

-- what no token apart has
pub record Unlike (P : List ℕ → Bool) : Type 0 where
  pub comma : P (codes ",") ≡ false
  pub semicolon : P (codes ";") ≡ false
  pub opening : P (codes "{") ≡ false
  pub closing : P (codes "}") ≡ false
  pub string : (rest : List ℕ) → P (34 ∷ rest) ≡ false
  pub none : P [] ≡ false

true_false : (b : Bool) → b ≡ true → b ≡ false → ⊥
true_false b t f = let e : true ≡ false = sym t ∙ f in cc

quoted : (P : List ℕ → Bool) → Unlike P → (text : List ℕ) → (slice_index text 0 == 34) ≡ true → P text ≡ true → ⊥
quoted P u [] e t = true_false (P []) t u.none
quoted P u (b ∷ text) e t = true_false (P (b ∷ text)) t (ap (λ (x : ℕ). P (x ∷ text)) (eqb-true b 34 e) ∙ u.string text)

apart : (P : List ℕ → Bool) → Unlike P → (text : List ℕ) → P text ≡ true → is_apart_token text ≡ true → ⊥
apart P u text t e =
    let a = bytes_eq text (codes ",") in
    let b = bytes_eq text (codes ";") in
    let c = bytes_eq text (codes "{") in
    let d = bytes_eq text (codes "}") in
    elim (or_cases (a || b || c || d) (slice_index text 0 == 34) e) [
      | inl four ↦ elim (or_cases (a || b || c) d four) [
        | inl three ↦ elim (or_cases (a || b) c three) [
          | inl pair ↦ elim (or_cases a b pair) [
            | inl i ↦ true_false (P text) t (ap P (same_bytes text (codes ",") i) ∙ u.comma)
            | inr i ↦ true_false (P text) t (ap P (same_bytes text (codes ";") i) ∙ u.semicolon)
          ]
          | inr i ↦ true_false (P text) t (ap P (same_bytes text (codes "{") i) ∙ u.opening)
        ]
        | inr i ↦ true_false (P text) t (ap P (same_bytes text (codes "}") i) ∙ u.closing)
      ]
      | inr i ↦ quoted P u text i t
    ]

refuted : (b : Bool) → (b ≡ true → ⊥) → not b ≡ true
refuted true h = absurd (h refl)
refuted false h = refl

words : Unlike is_word
words = record { comma = refl; semicolon = refl; opening = refl; closing = refl; string = λ rest. and_right (ltb 0 (length (34 ∷ rest))) (list_all is_word_byte (34 ∷ rest)) refl; none = refl }

word_apart : (text : List ℕ) → is_word text ≡ true → not (is_apart_token text) ≡ true
word_apart text e = refuted (is_apart_token text) (λ a. apart is_word words text e a)

module _ (names : List (List ℕ)) where
  abbrev is_node : List ℕ → Bool
  is_node text = is_some (node_spelled names text)

  node_apart : (text : List ℕ) (node : NodeName) → node_spelled names text ≡ Some node → not (is_apart_token text) ≡ true
  node_apart text node e = refuted (is_apart_token text) (λ a. apart is_node nodes text (ap is_some e) a)
    where
      nodes : Unlike is_node
      nodes = record { comma = refl; semicolon = refl; opening = refl; closing = refl; string = λ rest. ap (λ (b : Bool). is_some (cond b (Some (node_of_word names (34 ∷ rest))) None)) (words.string rest); none = refl }

abbrev is_number : List ℕ → Bool
is_number text = is_some (number_of text)

no_digits : (rest : List ℕ) → decimal_of (34 ∷ rest) ≡ None
no_digits rest = rw (and_right (ltb 0 (length (34 ∷ rest))) (list_all is_ascii_digit (34 ∷ rest)) refl) refl

numbers : Unlike is_number
unfolding number_of
numbers = record { comma = refl; semicolon = refl; opening = refl; closing = refl; string = λ rest. ap (λ (o : Option ℕ). is_some (number_at_most most_number o)) (no_digits rest); none = refl }

number_apart : (text : List ℕ) (n : ℕ) → number_of text ≡ Some n → not (is_apart_token text) ≡ true
number_apart text n e = refuted (is_apart_token text) (λ a. apart is_number numbers text (ap is_some e) a)

-- ---- the words and signs of the grammar

binary_apart : (op : Binary) → not (is_apart_token (binary_sign op)) ≡ true
binary_apart binary.Or = refl
binary_apart binary.And = refl
binary_apart binary.Eq = refl
binary_apart binary.Ne = refl
binary_apart binary.Lt = refl
binary_apart binary.Le = refl
binary_apart binary.Gt = refl
binary_apart binary.Ge = refl
binary_apart binary.Add = refl
binary_apart binary.Sub = refl
binary_apart binary.Mul = refl
binary_apart binary.Div = refl
binary_apart binary.Rem = refl

unary_apart : (op : Unary) → not (is_apart_token (unary_sign op)) ≡ true
unary_apart unary.Minus = refl
unary_apart unary.Not = refl

agg_apart : (a : Agg) → not (is_apart_token (agg_word a)) ≡ true
agg_apart agg.Sum = refl
agg_apart agg.Min = refl
agg_apart agg.Max = refl
agg_apart agg.Count = refl

width_apart : (w : Width) → not (is_apart_token (place_word (place.Load w))) ≡ true
width_apart width.U8 = refl
width_apart width.U16 = refl
width_apart width.U32 = refl
width_apart width.I8 = refl
width_apart width.I16 = refl
width_apart width.I32 = refl
width_apart width.I64 = refl

-- ---- expressions

abbrev AllIn : List (List ℕ) → Type 0
AllIn ts = list_all (λ t. not (is_apart_token t)) ts ≡ true

in_front : (t : List ℕ) (ts : List (List ℕ)) → not (is_apart_token t) ≡ true → AllIn ts → AllIn (t ∷ ts)
in_front t ts e h = and_from (not (is_apart_token t)) (list_all (λ t. not (is_apart_token t)) ts) e h

joined : (a b : List (List ℕ)) → AllIn a → AllIn b → AllIn (a ++ b)
joined [] b h k = k
joined (t ∷ a) b h k =
    let p = and_parts (not (is_apart_token t)) (list_all (λ t. not (is_apart_token t)) a) h in
    in_front t (a ++ b) p.0 (joined a b p.1 k)

module _ (names : List (List ℕ)) where
  all_in : {k : ℕ} {ts : List (List ℕ)} {x : Expression} → IsExprAtLevel names k ts x → AllIn ts
  all_in (higher h) = all_in h
  all_in (two {a} {b} op p q) = joined a (binary_sign op ∷ b) (all_in p) (in_front (binary_sign op) b (binary_apart op) (all_in q))
  all_in (one {a} op p) = in_front (unary_sign op) a (unary_apart op) (all_in p)
  all_in (number word n e) = in_front word [] (number_apart word n e) refl
  all_in (variable word e) = in_front word [] (word_apart word e) refl
  all_in (brackets {a} p) = joined a (codes ")" ∷ []) (all_in p) refl
  all_in (over {a} agg p) = in_front (agg_word agg) (codes "(" ∷ (a ++ codes ")" ∷ [])) (agg_apart agg) (joined a (codes ")" ∷ []) (all_in p) refl)
  all_in (load {a} name node width e p) =
      in_front name (codes "." ∷ place_word (place.Load width) ∷ codes "[" ∷ (a ++ codes "]" ∷ [])) (node_apart names name node e)
      (in_front (place_word (place.Load width)) (codes "[" ∷ (a ++ codes "]" ∷ [])) (width_apart width) (joined a (codes "]" ∷ []) (all_in p) refl))
  all_in (global name node word n e f) =
      in_front name (codes "." ∷ codes "global" ∷ codes "[" ∷ word ∷ codes "]" ∷ []) (node_apart names name node e) (in_front word (codes "]" ∷ []) (number_apart word n f) refl)
  all_in (clock name node e) = in_front name (codes "." ∷ codes "clock" ∷ []) (node_apart names name node e) refl
  all_in (events name node e) = in_front name (codes "." ∷ codes "events" ∷ []) (node_apart names name node e) refl
  all_in (size name node e) = in_front name (codes "." ∷ codes "size" ∷ []) (node_apart names name node e) refl
  all_in (last_thread name node e) = in_front name (codes "." ∷ codes "thread" ∷ []) (node_apart names name node e) refl
  all_in (has_ended name node e) = in_front name (codes "." ∷ codes "ended" ∷ []) (node_apart names name node e) refl

pub none_in : NoSeparatorInExpr
none_in names ts x h = all_in names h
