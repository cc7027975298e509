-- What parsing an expression gives, of the tokens from one on.
use Rattle.std.proofs.Common.{◌≡◌, ℕ, ◌+◌, ◌-◌, ◌≤◌, List, [], take, drop, Option, Some, None, Result, Ok, Err, IfOk, refl, sym, ap, ◌∙◌, arith}
use Rattle.std.proofs.lemmas.List.{drop-drop}
use Rattle.expression_text.specs.declared.error.ExprError.{ExprError}
use Rattle.expression_text.specs.declared.error.ExprError.TheVariants.{Syntax, NoNode, TooDeep, Nested, NoMemory}
use Rattle.expression_text.specs.declared.expr.Expr.{Expr}
use Rattle.expression_text.specs.Computed.{expression_spelled, viable_tokens}
use Rattle.expression_text.specs.Grammar.{IsExpr, ParsedExpr, TakesExpr}
use Rattle.expression_text.specs.Laws.{ExactReading}
use Rattle.expression_text.specs.Lexing.{LexedLine, token_texts}
use Rattle.expression_text.specs.Expression.{Expression, expression_of}
use Rattle.point_programs.specs.inside.Parsed.{ReadAsTokens}
use Rattle.point_programs.specs.Reading.{LeftTokens, expression, expression_in, expression_or}
use Rattle.point_programs.proofs.ReadTokens.{column_here}

past : (ts : LeftTokens) (from next : ℕ) → from ≤ next → drop (next - from) (drop from ts) ≡ drop next ts
past ts from next le = let e : from + (next - from) ≡ next = omega arith in drop-drop (next - from) from ts ∙ ap (λ (m : ℕ). drop m ts) e

-- as many tokens as begin an expression, where they are one and where they are none
counted : ExactReading → (names ts : List (List ℕ)) (from next : ℕ) (o : Option Expression) → from ≤ next → TakesExpr names (drop from ts) (next - from) → expression_spelled names (take (next - from) (drop from ts)) ≡ o → expression names (drop from ts) ≡ expression_or (drop next ts) o
counted law names ts from next o le takes e =
    let count : viable_tokens names [] (drop from ts) ≡ next - from = law.viable names (drop from ts) (next - from) takes in
    ap (expression_in names (drop from ts)) count ∙ (ap (expression_or (drop (next - from) (drop from ts))) e ∙ ap (λ (left : LeftTokens). expression_or left o) (past ts from next le))

-- an expression was read
read_whole : ExactReading → (names ts : List (List ℕ)) (from next : ℕ) (x : Expression) → from ≤ next → TakesExpr names (drop from ts) (next - from) → IsExpr names (take (next - from) (drop from ts)) x → expression names (drop from ts) ≡ Ok (x, drop next ts)
read_whole law names ts from next x le takes spelled =
    counted law names ts from next (Some x) le takes ((law.expressions names (take (next - from) (drop from ts)) x).1 spelled)

never : ExactReading → (names ts : List (List ℕ)) → ((x : Expression) → IsExpr names ts x → ⊥) → (o : Option Expression) → expression_spelled names ts ≡ o → o ≡ None
never law names ts none None e = refl
never law names ts none (Some x) e = absurd (none x ((law.expressions names ts x).0 e))

-- none was read
refused_as : ExactReading → (names : List (List ℕ)) (line : LexedLine) (from : ℕ) (e : ExprError) → ParsedExpr names line from (Err e) → ReadAsTokens expression_of line (expression names (drop from (token_texts line))) (Err e)
refused_as law names line from (Syntax column) h =
    let ts = token_texts line in
    let none : expression_spelled names (take (h.0 - from) (drop from ts)) ≡ None = never law names (take (h.0 - from) (drop from ts)) h.4 _ refl in
    (drop h.0 ts, counted law names ts from h.0 None h.2 h.3 none, h.1 ∙ sym (column_here line h.0))
refused_as law names line from NoMemory h = tt
refused_as law names line from NoNode h = h
refused_as law names line from TooDeep h = h
refused_as law names line from Nested h = h

-- an expression was read, or none
pub parsed_as : ExactReading → (names : List (List ℕ)) (line : LexedLine) (from : ℕ) (r : Result (Expr × ℕ) ExprError) → ParsedExpr names line from r → ReadAsTokens expression_of line (expression names (drop from (token_texts line))) r
parsed_as law names line from (Ok r) h = read_whole law names (token_texts line) from r.1 (expression_of r.0) h.0 h.1 h.2
parsed_as law names line from (Err e) h = refused_as law names line from e h

-- reading goes on and never back
pub parsed_onward : (names : List (List ℕ)) (line : LexedLine) (from : ℕ) (r : Result (Expr × ℕ) ExprError) → ParsedExpr names line from r → IfOk r (λ r. from ≤ r.1)
parsed_onward names line from (Ok r) h = h.0
parsed_onward names line from (Err e) h = tt
