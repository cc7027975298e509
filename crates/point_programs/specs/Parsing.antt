-- What the code's answers about tokens stand for.
use Rattle.std.specs.Prelude.{◌≡◌, ℕ, ◌-◌, true, false, List, length, drop, Result, Ok, Err}
use Rattle.expression_text.specs.declared.error.ExprError.{ExprError}
use Rattle.expression_text.specs.declared.error.ExprError.TheVariants.{Syntax, NoNode, TooDeep, Nested, NoMemory}
use Rattle.expression_text.specs.Lexing.{LexedLine, column_of_token, token_texts}
use Rattle.point_programs.specs.declared.program.Program.{Program}
use Rattle.point_programs.specs.Faulty.{lacks_names, nests_aggregates}
use Rattle.point_programs.specs.Reading.{LeftTokens, program_of}
use Rattle.point_programs.specs.Tree.{Statements, program_body}

-- the column of the first token that is left, and where none is that after the line
abbrev pub column_of : LexedLine → LeftTokens → ℕ
column_of line left = column_of_token line (length (token_texts line) - length left)

-- What parsing all tokens from one on gives, but for memory: the program that they spell, unless something is wrong with
-- it; or the column of the first token that no program could have there.
abbrev pub ParsedProgram : List (List ℕ) → LexedLine → ℕ → Result Program ExprError → Type 0
ParsedProgram names line from (Ok p) = (program_of names (drop from (token_texts line)) ≡ Ok (program_body p)) × (nests_aggregates (program_body p) ≡ false) × (lacks_names (program_body p) ≡ false)
ParsedProgram names line from (Err (Syntax column)) = (left : LeftTokens) × (program_of names (drop from (token_texts line)) ≡ Err left) × (column ≡ column_of line left)
ParsedProgram names line from (Err Nested) = (p : Statements) × (program_of names (drop from (token_texts line)) ≡ Ok p) × (nests_aggregates p ≡ true)
ParsedProgram names line from (Err NoNode) = (p : Statements) × (program_of names (drop from (token_texts line)) ≡ Ok p) × (nests_aggregates p ≡ false) × (lacks_names p ≡ true)
ParsedProgram names line from (Err TooDeep) = ⊥
ParsedProgram names line from (Err NoMemory) = Unit {0}
