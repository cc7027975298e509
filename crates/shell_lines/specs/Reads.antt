-- What is read of single tokens of a line.
use Rattle.std.specs.Prelude.{◌≡◌, ℕ, Result, Ok, Err}
use Rattle.expression_text.specs.declared.error.ExprError.{ExprError}
use Rattle.expression_text.specs.declared.error.ExprError.TheVariants.{Syntax, NoNode, TooDeep, Nested, NoMemory}
use Rattle.expression_text.specs.Lexing.{LexedLine, column_of_token}

-- what was read of tokens: what there is to read, or the column of the token that is none such; or want of memory
abbrev pub ReadsAs : {A B : Type 0} → (A → B) → LexedLine → Result B ℕ → Result A ExprError → Type 0
ReadsAs shown line wanted (Ok a) = wanted ≡ Ok (shown a)
ReadsAs shown line wanted (Err (Syntax column)) = (n : ℕ) × (wanted ≡ Err n) × (column ≡ column_of_token line n)
ReadsAs shown line wanted (Err NoMemory) = Unit {0}
ReadsAs shown line wanted (Err NoNode) = ⊥
ReadsAs shown line wanted (Err TooDeep) = ⊥
ReadsAs shown line wanted (Err Nested) = ⊥
