-- What a program is refused for, as part of a command.
use Rattle.std.proofs.Common.{◌≡◌, ℕ, ◌-◌, List, length, Result, Ok, Err, ap, subst, sym}
use Rattle.expression_text.specs.declared.error.ExprError.{ExprError}
use Rattle.expression_text.specs.declared.error.ExprError.TheVariants.{Syntax, NoNode, TooDeep, Nested, NoMemory}
use Rattle.expression_text.specs.Lexing.{LexedLine, token_texts}
use Rattle.point_programs.specs.Parsing.{ParsedProgram}
use Rattle.point_programs.specs.Tree.{Statements}
use Rattle.shell_lines.specs.Lines.{LineCommand, Do, located_program, program_from, then_takes}
use Rattle.shell_lines.specs.inside.Reading.{ReadsCommand}

abbrev does_read : List (List ℕ) → ℕ → Result Statements (List (List ℕ)) → Result LineCommand ℕ
does_read ts n r = then_takes (located_program ts r) (λ p. Ok (Do n p))

refused_as : (names : List (List ℕ)) (line : LexedLine) (n : ℕ) (why : ExprError) → ParsedProgram names line 2 (Err why)
    → ReadsCommand line (then_takes (program_from names (token_texts line) 2) (λ p. Ok (Do n p))) (Err why)
refused_as names line n (Syntax column) h = (length (token_texts line) - length h.0, ap (does_read (token_texts line) n) h.1, h.2)
refused_as names line n Nested h = (Do n h.0, ap (does_read (token_texts line) n) h.1, h.2)
refused_as names line n NoNode h = (Do n h.0, ap (does_read (token_texts line) n) h.1, h.2, h.3)
refused_as names line n TooDeep h = h
refused_as names line n NoMemory h = tt

pub program_refused : (names : List (List ℕ)) (line : LexedLine) (number : Result ℕ ℕ) (n : ℕ) (why : ExprError) → number ≡ Ok n → ParsedProgram names line 2 (Err why)
    → ReadsCommand line (then_takes number (λ n. then_takes (program_from names (token_texts line) 2) (λ p. Ok (Do n p)))) (Err why)
program_refused names line number n why is h =
    subst (λ (r : Result ℕ ℕ). ReadsCommand line (then_takes r (λ n. then_takes (program_from names (token_texts line) 2) (λ p. Ok (Do n p)))) (Err why))
    (sym is) (refused_as names line n why h)
