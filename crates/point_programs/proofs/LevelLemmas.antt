-- How deep braces may nest does not matter to what is read, where the bound is no less than how many tokens there are.
use Rattle.std.proofs.Common.{◌≡◌, ℕ, zero, suc, ◌<◌, ◌≤◌, List, [], ◌∷◌, length, Option, Some, None, Ok, bytes_eq, codes, if◌then◌else◌, inl, inr, refl, ap, ◌∙◌, arith}
use Rattle.std.proofs.lemmas.Bool.{cases_Bool}
use Rattle.expression_text.specs.Laws.{ExactReading}
use Rattle.expression_text.specs.Expression.{Expression}
use Rattle.point_programs.specs.declared.keyword.Keyword.{Keyword}
use Rattle.point_programs.specs.declared.keyword.Keyword.TheVariants as keyword
use Rattle.point_programs.specs.Grammar.{IsProgram}
use Rattle.point_programs.specs.Reading.{LeftTokens, ReadOfTokens, then_reads, then_goes_past, after_token, keyword_of, read_or_stays, expression, braced_part, else_part, if_statement, statement_by, statement, program_in}
use Rattle.point_programs.specs.Tree.{Statement, If, Statements, End, sequence}
use Rattle.point_programs.proofs.TokenSplits.{Split}
use Rattle.point_programs.proofs.ExpressionLemmas.{expression_split}
use Rattle.point_programs.proofs.ListLemmas.{then_same, shortens, same_separated}
use Rattle.point_programs.proofs.StatementLemmas.{IsPart, part_split, statement_split, program_split}

-- what these read of fewer tokens than so many is the same
abbrev AgreeBelow : ℕ → (LeftTokens → ReadOfTokens Statements) → (LeftTokens → ReadOfTokens Statements) → Type 0
AgreeBelow n inside other = (ts : LeftTokens) → length ts < n → inside ts ≡ other ts

less : (m n : ℕ) (inside other : LeftTokens → ReadOfTokens Statements) → m ≤ n → AgreeBelow n inside other → AgreeBelow m inside other
less m n inside other le h ts lt = h ts (omega arith)

in_braces : (inside other : LeftTokens → ReadOfTokens Statements) (ts : LeftTokens) → AgreeBelow (length ts) inside other → braced_part inside ts ≡ braced_part other ts
in_braces inside other [] h = refl
in_braces inside other (t ∷ ts) h =
    let close : Statements → LeftTokens → ReadOfTokens Statements = λ body us. then_goes_past (after_token (codes "}") us) (λ left. Ok (body, left)) in
    elim (cases_Bool (bytes_eq t (codes "{"))) [
      | inl e ↦ rw e (ap (λ (r : ReadOfTokens Statements). then_reads r close) (h ts (omega arith)))
      | inr e ↦ rw e refl
    ]

after_else : (inside other : LeftTokens → ReadOfTokens Statements) (ts : LeftTokens) → AgreeBelow (length ts) inside other → else_part inside ts ≡ else_part other ts
after_else inside other [] h = refl
after_else inside other (t ∷ ts) h = ap (λ (r : ReadOfTokens Statements). if bytes_eq t (codes "else") then r else Ok (End, t ∷ ts)) (in_braces inside other ts (less (length ts) (length (t ∷ ts)) inside other (omega arith) h))

module _ (exact : ExactReading) (names : List (List ℕ)) where
  module _ (inside other : LeftTokens → ReadOfTokens Statements) (splits : (ts : LeftTokens) → Split inside (IsProgram names) ts) where
    both_parts : (x : Expression) (ts : LeftTokens) → AgreeBelow (length ts) inside other → then_reads (braced_part inside ts) (λ p us. then_reads (else_part inside us) (λ q left. Ok (If x p q, left))) ≡ then_reads (braced_part other ts) (λ p us. then_reads (else_part other us) (λ q left. Ok (If x p q, left)))
    both_parts x ts h =
        let chosen : Statements → Statements → LeftTokens → ReadOfTokens Statement = λ p q left. Ok (If x p q, left) in
        then_same (braced_part inside ts) (λ p us. then_reads (else_part inside us) (chosen p)) (λ p us. then_reads (else_part other us) (chosen p))
        (λ p us e.
        let le = shortens (braced_part inside) (IsPart names) (part_split names inside splits) ts us p e in
        ap (λ (r : ReadOfTokens Statements). then_reads r (chosen p)) (after_else inside other us (less (length us) (length ts) inside other le h)))
        ∙ ap (λ (r : ReadOfTokens Statements). then_reads r (λ p us. then_reads (else_part other us) (chosen p))) (in_braces inside other ts h)

    choices : (ts : LeftTokens) → AgreeBelow (length ts) inside other → if_statement inside names ts ≡ if_statement other names ts
    choices ts h =
        then_same (expression names ts) _ _
        (λ x us e.
        let le = shortens (expression names) _ (expression_split exact names) ts us x e in
        both_parts x us (less (length us) (length ts) inside other le h))

    by_keyword : (k : Keyword) (ts : LeftTokens) → AgreeBelow (length ts) inside other → statement_by inside names k ts ≡ statement_by other names k ts
    by_keyword keyword.Set ts h = refl
    by_keyword keyword.Say ts h = refl
    by_keyword keyword.Stop ts h = refl
    by_keyword keyword.If ts h = choices ts h

    meant : (o : Option Keyword) (t : List ℕ) (ts : LeftTokens) → AgreeBelow (length ts) inside other → then_reads (read_or_stays o (t ∷ ts) ts) (statement_by inside names) ≡ then_reads (read_or_stays o (t ∷ ts) ts) (statement_by other names)
    meant None t ts h = refl
    meant (Some k) t ts h = by_keyword k ts h

    statements : (ts : LeftTokens) → AgreeBelow (length ts) inside other → statement inside names ts ≡ statement other names ts
    statements [] h = refl
    statements (t ∷ ts) h = meant (keyword_of t) t ts (less (length ts) (length (t ∷ ts)) inside other (omega arith) h)

  pub same_levels : (m n : ℕ) (ts : LeftTokens) → length ts ≤ m → length ts ≤ n → program_in m names ts ≡ program_in n names ts
  same_levels zero zero ts lm ln = refl
  same_levels zero (suc n) [] lm ln = refl
  same_levels zero (suc n) (t ∷ ts) lm ln = absurd (omega arith)
  same_levels (suc m) zero [] lm ln = refl
  same_levels (suc m) zero (t ∷ ts) lm ln = absurd (omega arith)
  same_levels (suc m) (suc n) ts lm ln =
      let splits = program_split names exact m in
      ap (λ (r : ReadOfTokens (List Statement)). then_reads r (λ list left. Ok (sequence list, left)))
      (same_separated (codes ";") (statement (program_in m names) names) (statement (program_in n names) names)
      (shortens _ _ (statement_split names exact (program_in m names) splits)) refl ts
      (λ us le. statements (program_in m names) (program_in n names) splits us (λ vs lt. same_levels m n vs (omega arith) (omega arith))))
