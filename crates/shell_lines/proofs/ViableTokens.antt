-- How many tokens begin an expression, and what all tokens from one on are.
use Rattle.std.proofs.Common.{◌≡◌, ℕ, ◌+◌, ◌-◌, ◌<◌, ◌≤◌, Bool, true, false, nat_lt, List, [], length, take, drop, Option, Some, None, Result, Ok, Err, ◌⊎◌, inl, inr, refl, sym, ap, ◌∙◌, subst, arith, length-drop}
use Rattle.std.proofs.Math.Seq.{take-length}
use Rattle.std.proofs.lemmas.Bool.{ltb-true, ltb-false}
use Rattle.std.proofs.lemmas.List.{take-append-drop}
use Rattle.expression_text.specs.declared.error.ExprError.{ExprError}
use Rattle.expression_text.specs.declared.expr.Expr.{Expr}
use Rattle.expression_text.specs.declared.error.ExprError.TheVariants.{Syntax, NoNode, TooDeep, Nested, NoMemory}
use Rattle.expression_text.specs.Computed.{expression_spelled, viable_tokens}
use Rattle.expression_text.specs.Grammar.{IsExpr, ParsedExpr, TakesExpr}
use Rattle.expression_text.specs.Laws.{ExactReading}
use Rattle.expression_text.specs.Lexing.{LexedLine, token_texts}
use Rattle.expression_text.specs.Expression.{Expression, expression_of}
use Rattle.shell_lines.specs.Lines.{expression_and_end, expression_before, expression_from, expression_or_at}
use Rattle.shell_lines.specs.Reads.{ReadsAs}

tested : (b : Bool) → (b ≡ true) ⊎ (b ≡ false)
tested true = inl refl
tested false = inr refl

le_cases : (a b : ℕ) → a ≤ b → (a < b) ⊎ (a ≡ b)
le_cases a b le = elim (tested (nat_lt a b)) [ inl t ↦ inl (ltb-true a b t) | inr f ↦ inr (omega (arith, ltb-false a b f)) ]

-- where the tokens that begin an expression are none, all of them are none
none_whole : ExactReading → (names ts : List (List ℕ)) (n : ℕ) → TakesExpr names ts n → ((x : Expression) → IsExpr names (take n ts) x → ⊥) ⊎ (n < length ts) → (o : Option Expression) → expression_spelled names ts ≡ o → expression_spelled names ts ≡ None
none_whole law names ts n h short None e = e
none_whole law names ts n h short (Some x) e =
    let spelled : IsExpr names ts x = (law.expressions names ts x).0 e in
    let past : n < length ts → ⊥ = λ lt. h.longest lt (record { rest = drop (n + 1) ts; whole = x; spelled = subst (λ (u : List (List ℕ)). IsExpr names u x) (sym (take-append-drop (n + 1) ts)) spelled }) in
    elim short [
      | inr lt ↦ absurd (past lt)
      | inl never ↦ elim (le_cases n (length ts) h.within) [
        | inl lt ↦ absurd (past lt)
        | inr is ↦ absurd (never x (subst (λ (u : List (List ℕ)). IsExpr names u x) (sym (ap (λ (m : ℕ). take m ts) is ∙ take-length ts)) spelled))
      ]
    ]

-- the first token that no expression has there
pub stops_at : ExactReading → (names ts : List (List ℕ)) (from n : ℕ) → from ≤ n → TakesExpr names (drop from ts) (n - from) → ((x : Expression) → IsExpr names (take (n - from) (drop from ts)) x → ⊥) ⊎ (n < length ts) → expression_from names ts from ≡ Err n
stops_at law names ts from n le h short =
    let inside : n < length ts → n - from < length (drop from ts) = λ lt. omega (arith, length-drop from ts) in
    let behind : ((x : Expression) → IsExpr names (take (n - from) (drop from ts)) x → ⊥) ⊎ (n - from < length (drop from ts)) = elim short [ inl never ↦ inl never | inr lt ↦ inr (inside lt) ] in
    let none : expression_spelled names (drop from ts) ≡ None = none_whole law names (drop from ts) (n - from) h behind (expression_spelled names (drop from ts)) refl in
    let count : from + viable_tokens names [] (drop from ts) ≡ n = rw (law.viable names (drop from ts) (n - from) h) (omega arith) in
    ap (expression_or_at (from + viable_tokens names [] (drop from ts))) none ∙ ap (λ (m : ℕ). Err m) count

-- all tokens are the expression
pub whole_is : ExactReading → (names ts : List (List ℕ)) (from n : ℕ) (x : Expression) → length ts ≤ n → from ≤ n → TakesExpr names (drop from ts) (n - from) → IsExpr names (take (n - from) (drop from ts)) x → expression_from names ts from ≡ Ok x
whole_is law names ts from n x all le h spelled =
    let count : n - from ≡ length (drop from ts) = omega (arith, length-drop from ts, h.within) in
    let taken : take (n - from) (drop from ts) ≡ drop from ts = ap (λ (m : ℕ). take m (drop from ts)) count ∙ take-length (drop from ts) in
    ap (expression_or_at (from + viable_tokens names [] (drop from ts))) ((law.expressions names (drop from ts) x).1 (subst (λ (u : List (List ℕ)). IsExpr names u x) taken spelled))

-- what parsing refuses
pub refused_as : ExactReading → (names : List (List ℕ)) (line : LexedLine) (from : ℕ) (why : ExprError) → ParsedExpr names line from (Err why) → ReadsAs expression_of line (expression_from names (token_texts line) from) (Err why)
refused_as law names line from (Syntax column) h = (h.0, stops_at law names (token_texts line) from h.0 h.2 h.3 (inl h.4), h.1)
refused_as law names line from NoMemory h = tt
refused_as law names line from NoNode h = h
refused_as law names line from TooDeep h = h
refused_as law names line from Nested h = h

-- ---- an expression and the tokens behind it

no_expression : ExactReading → (names ts : List (List ℕ)) → ((x : Expression) → IsExpr names ts x → ⊥) → (o : Option Expression) → expression_spelled names ts ≡ o → o ≡ None
no_expression law names ts never None e = refl
no_expression law names ts never (Some x) e = absurd (never x ((law.expressions names ts x).0 e))

front_stops : ExactReading → (names ts : List (List ℕ)) (from n : ℕ) → from ≤ n → TakesExpr names (drop from ts) (n - from) → ((x : Expression) → IsExpr names (take (n - from) (drop from ts)) x → ⊥) → expression_before names ts from ≡ Err n
front_stops law names ts from n le h never =
    let count = law.viable names (drop from ts) (n - from) h in
    let there : from + (n - from) ≡ n = omega (arith, le) in
    ap (λ (m : ℕ). expression_and_end (from + m) (expression_spelled names (take m (drop from ts)))) count
    ∙ ap (expression_and_end (from + (n - from))) (no_expression law names (take (n - from) (drop from ts)) never (expression_spelled names (take (n - from) (drop from ts))) refl)
    ∙ ap (λ (m : ℕ). Err m) there

-- the expression in front
pub front_is : ExactReading → (names ts : List (List ℕ)) (from n : ℕ) (x : Expression) → from ≤ n → TakesExpr names (drop from ts) (n - from) → IsExpr names (take (n - from) (drop from ts)) x → expression_before names ts from ≡ Ok (x, n)
front_is law names ts from n x le h spelled =
    let count = law.viable names (drop from ts) (n - from) h in
    let there : from + (n - from) ≡ n = omega (arith, le) in
    ap (λ (m : ℕ). expression_and_end (from + m) (expression_spelled names (take m (drop from ts)))) count
    ∙ ap (expression_and_end (from + (n - from))) ((law.expressions names (take (n - from) (drop from ts)) x).1 spelled)
    ∙ ap (λ (m : ℕ). Ok (x, m)) there

-- what parsing gives
pub front_as : ExactReading → (names : List (List ℕ)) (line : LexedLine) (from : ℕ) (r : Result (Expr × ℕ) ExprError) → ParsedExpr names line from r
    → ReadsAs (λ p. (expression_of p.0, p.1)) line (expression_before names (token_texts line) from) r
front_as law names line from (Ok p) h = front_is law names (token_texts line) from p.1 (expression_of p.0) h.0 h.1 h.2
front_as law names line from (Err (Syntax column)) h = (h.0, front_stops law names (token_texts line) from h.0 h.2 h.3 h.4, h.1)
front_as law names line from (Err NoMemory) h = tt
front_as law names line from (Err NoNode) h = h
front_as law names line from (Err TooDeep) h = h
front_as law names line from (Err Nested) h = h
