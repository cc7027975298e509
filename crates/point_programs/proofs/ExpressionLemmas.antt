-- An expression is read of as many tokens as begin one.
use Rattle.std.proofs.Common.{◌≡◌, ℕ, zero, suc, ◌+◌, ◌<◌, ◌≤◌, Bool, true, false, not, List, [], ◌∷◌, ◌++◌, length, take, drop, Option, Some, None, Ok, codes, if◌then◌else◌, refl, sym, ap, ◌∙◌, subst, append_assoc, append-nil, arith}
use Rattle.std.specs.List.{list_all}
use Rattle.std.proofs.lemmas.Bool.{and_parts, both_ways, not-true}
use Rattle.std.proofs.lemmas.List.{length-append, length_push, length-take-le, take-append-drop, take_at, drop_at}
use Rattle.expression_text.specs.Computed.{expression_spelled, begins_some_expression, viable_tokens}
use Rattle.expression_text.specs.Grammar.{IsExpr, BeginsExpr, TakesExpr, higher, number}
use Rattle.expression_text.specs.Laws.{ExactReading, NoSeparatorInExpr, is_apart_token}
use Rattle.expression_text.specs.Spelling.{number_of}
use Rattle.expression_text.specs.Expression.{Expression, Number}
use Rattle.point_programs.specs.Reading.{LeftTokens, expression_or, expression_in, expression}
use Rattle.point_programs.proofs.TokenSplits.{SameHead, empty_too, headed_too, outcome, Spelled, Split, SpellsSome}

zero_is : number_of (codes "0") ≡ Some 0
unfolding number_of
zero_is = refl

pub some_expression : (names : List (List ℕ)) → SpellsSome (IsExpr names)
some_expression names = (codes "0" ∷ [], Number 0, higher (higher (higher (higher (higher (higher (number (codes "0") 0 zero_is)))))))

-- no tokens are left, or the first one is such
abbrev pub EndsWith : (List ℕ → Bool) → LeftTokens → Type 0
EndsWith is_end [] = Unit {0}
EndsWith is_end (t ∷ ts) = is_end t ≡ true

-- ---- how many tokens begin an expression

goes : (b : Bool) (m n : ℕ) → (if b then suc m else 0) ≡ suc n → (b ≡ true) × (m ≡ n)
goes true m n e = (refl, omega arith)
goes false m n e = absurd (omega arith)

stays : (b : Bool) (m : ℕ) → (if b then suc m else 0) ≡ 0 → b ≡ false
stays true m e = absurd (omega arith)
stays false m e = refl

module _ (exact : ExactReading) (names : List (List ℕ)) where
  viable_within : (before ts : LeftTokens) (n : ℕ) → viable_tokens names before ts ≡ n → n ≤ length ts
  viable_within before [] n e = omega arith
  viable_within before (t ∷ ts) zero e = omega arith
  viable_within before (t ∷ ts) (suc n) e =
      let both = goes (begins_some_expression names (before ++ t ∷ [])) (viable_tokens names (before ++ t ∷ []) ts) n e in
      let rest : n ≤ length ts = viable_within (before ++ t ∷ []) ts n both.1 in
      omega arith

  viable_local : (before ts other : LeftTokens) (n : ℕ) → viable_tokens names before ts ≡ n → SameHead (drop n ts) other → viable_tokens names before (take n ts ++ other) ≡ n
  viable_local before [] other zero e h = empty_too (λ us. viable_tokens names before us ≡ 0) refl other h
  viable_local before [] other (suc n) e h = absurd (omega arith)
  viable_local before (t ∷ ts) other zero e h =
      let none = stays (begins_some_expression names (before ++ t ∷ [])) (viable_tokens names (before ++ t ∷ []) ts) e in
      headed_too (λ us. viable_tokens names before us ≡ 0) t ts (λ us. rw none refl) other h
  viable_local before (t ∷ ts) other (suc n) e h =
      let both = goes (begins_some_expression names (before ++ t ∷ [])) (viable_tokens names (before ++ t ∷ []) ts) n e in
      rw both.0 (ap suc (viable_local (before ++ t ∷ []) ts other n both.1 h))

  viable_begins : (before ts : LeftTokens) (n : ℕ) → viable_tokens names before ts ≡ n → BeginsExpr names before → BeginsExpr names (before ++ take n ts)
  viable_begins before ts zero e h = subst (BeginsExpr names) (sym (append-nil before)) h
  viable_begins before [] (suc n) e h = subst (BeginsExpr names) (sym (append-nil before)) h
  viable_begins before (t ∷ ts) (suc n) e h =
      let both = goes (begins_some_expression names (before ++ t ∷ [])) (viable_tokens names (before ++ t ∷ []) ts) n e in
      let first = (exact.begins names (before ++ t ∷ [])).0 both.0 in
      subst (BeginsExpr names) (append_assoc before (t ∷ []) (take n ts)) (viable_begins (before ++ t ∷ []) ts n both.1 first)

  none_begins : BeginsExpr names []
  none_begins = let some = some_expression names in record { rest = some.0; whole = some.1; spelled = some.2 }

  -- ---- reading one

  tree_outcome : (o : Option Expression) (left : LeftTokens) → expression_or left o ≡ outcome o left
  tree_outcome None left = refl
  tree_outcome (Some x) left = refl

  spelled_so : (front : LeftTokens) (o : Option Expression) → expression_spelled names front ≡ o → BeginsExpr names front → Spelled (IsExpr names) o front
  spelled_so front None e h = (h.rest, h.whole, h.spelled)
  spelled_so front (Some x) e h = (exact.expressions names front x).0 e

  expression_in_is : (front left : LeftTokens) (n : ℕ) → length front ≡ n → expression_in names (front ++ left) n ≡ outcome (expression_spelled names front) left
  expression_in_is front left n e =
      ap (λ (us : LeftTokens). expression_or us (expression_spelled names (take n (front ++ left)))) (drop_at front left n e)
      ∙ ap (λ (us : LeftTokens). expression_or left (expression_spelled names us)) (take_at front left n e)
      ∙ tree_outcome (expression_spelled names front) left

  pub expression_split : (ts : LeftTokens) → Split (expression names) (IsExpr names) ts
  expression_split ts =
      let n = viable_tokens names [] ts in
      let within : n ≤ length ts = viable_within [] ts n refl in
      record {
        front = take n ts;
        left = drop n ts;
        got = expression_spelled names (take n ts);
        parts = sym (take-append-drop n ts);
        spelled = spelled_so (take n ts) (expression_spelled names (take n ts)) refl (viable_begins [] ts n refl none_begins);
        local = λ other same.
            ap (expression_in names (take n ts ++ other)) (viable_local [] ts other n refl same)
            ∙ expression_in_is (take n ts) other n (length-take-le n ts within);
      }

  pub expression_parted : (ts : LeftTokens) → ((expression_split ts).front ≡ take (viable_tokens names [] ts) ts) × ((expression_split ts).left ≡ drop (viable_tokens names [] ts) ts)
  unfolding expression_split
  expression_parted ts = (refl, refl)

-- ---- what is spelled is read

one_more : (a : LeftTokens) (t : List ℕ) (r : LeftTokens) → take (length a + 1) (a ++ t ∷ r) ≡ a ++ t ∷ []
one_more a t r = ap (take (length a + 1)) (sym (append_assoc a (t ∷ []) r)) ∙ take_at (a ++ t ∷ []) r (length a + 1) (length_push a t)

passes_at : (test : List ℕ → Bool) (a : LeftTokens) (t : List ℕ) (r : LeftTokens) → list_all test (a ++ t ∷ r) ≡ true → test t ≡ true
passes_at test [] t r e = (and_parts (test t) (list_all test r) e).0
passes_at test (u ∷ a) t r e = passes_at test a t r (and_parts (test u) (list_all test (a ++ t ∷ r)) e).1

module _ (exact : ExactReading) (apart : NoSeparatorInExpr) (names : List (List ℕ)) where
  begins_no_more : (a : LeftTokens) (t : List ℕ) (r : LeftTokens) → is_apart_token t ≡ true → BeginsExpr names (take (length a + 1) (a ++ t ∷ r)) → ⊥
  begins_no_more a t r e b =
      let spelled : IsExpr names (a ++ t ∷ b.rest) b.whole = subst (λ (us : LeftTokens). IsExpr names us b.whole) (ap (λ (us : LeftTokens). us ++ b.rest) (one_more a t r) ∙ append_assoc a (t ∷ []) b.rest) b.spelled in
      both_ways (is_apart_token t) (not-true (is_apart_token t) (passes_at (λ u. not (is_apart_token u)) a t b.rest (apart names (a ++ t ∷ b.rest) b.whole spelled))) e

  longest : (a rest : LeftTokens) → EndsWith is_apart_token rest → length a < length (a ++ rest) → BeginsExpr names (take (length a + 1) (a ++ rest)) → ⊥
  longest a [] e lt b = absurd (omega (arith, length-append a []))
  longest a (t ∷ r) e lt b = begins_no_more a t r e b

  takes : (a rest : LeftTokens) (x : Expression) → IsExpr names a x → EndsWith is_apart_token rest → TakesExpr names (a ++ rest) (length a)
  takes a rest x h e = record {
    within = omega (arith, length-append a rest);
    begins = subst (BeginsExpr names) (sym (take_at a rest (length a) refl)) (record { rest = []; whole = x; spelled = subst (λ (us : LeftTokens). IsExpr names us x) (sym (append-nil a)) h });
    longest = longest a rest e;
  }

  pub expression_reads : (a rest : LeftTokens) (x : Expression) → IsExpr names a x → EndsWith is_apart_token rest → expression names (a ++ rest) ≡ Ok (x, rest)
  expression_reads a rest x h e =
      ap (expression_in names (a ++ rest)) (exact.viable names (a ++ rest) (length a) (takes a rest x h e))
      ∙ expression_in_is exact names a rest (length a) refl
      ∙ ap (λ (o : Option Expression). outcome o rest) ((exact.expressions names a x).1 h)
