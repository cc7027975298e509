-- What reading all tokens gives.
use Rattle.std.proofs.Common.{◌≡◌, ℕ, ◌-◌, ◌<◌, ◌≤◌, List, [], ◌∷◌, length, drop, Ok, Err, refl, sym, ap, ◌∙◌, arith, length-drop}
use Rattle.std.proofs.lemmas.List.{drop_all, length-map}
use Rattle.std.specs.Global.{Vec}
use Rattle.expression_text.specs.declared.error.ExprError.{ExprError}
use Rattle.expression_text.specs.declared.error.ExprError.TheVariants.{Syntax, NoNode, TooDeep, Nested, NoMemory}
use Rattle.expression_text.specs.Lexing.{LexedLine, token_texts}
use Rattle.point_programs.specs.declared.program.Stmt.{Stmt}
use Rattle.point_programs.specs.Parsing.{ParsedProgram}
use Rattle.point_programs.specs.inside.Parsed.{ReadAsTokens}
use Rattle.point_programs.specs.Reading.{LeftTokens, program_in, program_of, whole_program}
use Rattle.point_programs.specs.Tree.{Statements, statements}

-- as many levels as tokens
levels_are : (line : LexedLine) (from count levels : ℕ) → count ≡ length line.tokens → levels ≡ count - from → levels ≡ length (drop from (token_texts line))
levels_are line from count levels e is = omega (arith, length-drop from (token_texts line), length-map line.tokens (λ t. t.text))

-- reading stopped
pub stopped : (names : List (List ℕ)) (line : LexedLine) (from count levels : ℕ) (e : ExprError) → count ≡ length line.tokens → levels ≡ count - from → ReadAsTokens (λ (v : Vec Stmt). statements v.items) line (program_in levels names (drop from (token_texts line))) (Err e) → ParsedProgram names line from (Err e)
unfolding program_of
stopped names line from count levels (Syntax column) counted is h =
    let ts = drop from (token_texts line) in
    let enough : length ts ≡ levels = sym (levels_are line from count levels counted is) in
    (h.0, ap (λ (n : ℕ). whole_program (program_in n names ts)) enough ∙ ap whole_program h.1, h.2)
stopped names line from count levels NoMemory counted is h = tt
stopped names line from count levels NoNode counted is h = absurd h
stopped names line from count levels TooDeep counted is h = h
stopped names line from count levels Nested counted is h = absurd h

whole_less : (body : Statements) (left : LeftTokens) → 0 < length left → whole_program (Ok (body, left)) ≡ Err left
whole_less body [] some = absurd (omega arith)
whole_less body (t ∷ left) some = refl

-- tokens are left
pub read_less : (names : List (List ℕ)) (line : LexedLine) (from count levels next : ℕ) (body : Statements) → count ≡ length line.tokens → levels ≡ count - from → program_in levels names (drop from (token_texts line)) ≡ Ok (body, drop next (token_texts line)) → next < length line.tokens → program_of names (drop from (token_texts line)) ≡ Err (drop next (token_texts line))
unfolding program_of
read_less names line from count levels next body counted is e there =
    let ts = drop from (token_texts line) in
    let enough : length ts ≡ levels = sym (levels_are line from count levels counted is) in
    let some : 0 < length (drop next (token_texts line)) = omega (arith, length-drop next (token_texts line), length-map line.tokens (λ t. t.text)) in
    ap (λ (n : ℕ). whole_program (program_in n names ts)) enough ∙ (ap whole_program e ∙ whole_less body (drop next (token_texts line)) some)

-- none is left
pub read_all : (names : List (List ℕ)) (line : LexedLine) (from count levels next : ℕ) (body : Statements) → count ≡ length line.tokens → levels ≡ count - from → program_in levels names (drop from (token_texts line)) ≡ Ok (body, drop next (token_texts line)) → length line.tokens ≤ next → program_of names (drop from (token_texts line)) ≡ Ok body
unfolding program_of
read_all names line from count levels next body counted is e end =
    let ts = drop from (token_texts line) in
    let enough : length ts ≡ levels = sym (levels_are line from count levels counted is) in
    let none : drop next (token_texts line) ≡ [] = drop_all next (token_texts line) (omega (arith, length-map line.tokens (λ t. t.text))) in
    ap (λ (n : ℕ). whole_program (program_in n names ts)) enough ∙ (ap whole_program e ∙ ap (λ (left : LeftTokens). whole_program (Ok (body, left))) none)
