-- What the functions give that read a program from its tokens.
use Rattle.std.specs.Prelude.{◌≡◌, ℕ, drop, Result, Ok, Err}
use Rattle.expression_text.specs.declared.error.ExprError.{ExprError}
use Rattle.expression_text.specs.declared.error.ExprError.TheVariants.{Syntax, NoNode, TooDeep, Nested, NoMemory}
use Rattle.expression_text.specs.Lexing.{LexedLine, token_texts}
use Rattle.point_programs.specs.Reading.{LeftTokens, ReadOfTokens}
use Rattle.point_programs.specs.Parsing.{column_of}

-- what was read and the number of the token after it, or the column of the token at which reading stopped
abbrev pub ReadAsTokens : {A B : Type 0} → (A → B) → LexedLine → ReadOfTokens B → Result (A × ℕ) ExprError → Type 0
ReadAsTokens shown line wanted (Ok r) = wanted ≡ Ok (shown r.0, drop r.1 (token_texts line))
ReadAsTokens shown line wanted (Err (Syntax column)) = (left : LeftTokens) × (wanted ≡ Err left) × (column ≡ column_of line left)
ReadAsTokens shown line wanted (Err NoMemory) = Unit {0}
ReadAsTokens shown line wanted (Err NoNode) = ⊥
ReadAsTokens shown line wanted (Err TooDeep) = ⊥
ReadAsTokens shown line wanted (Err Nested) = ⊥

-- the same where a token is passed over
abbrev pub SkipsToken : LexedLine → Result LeftTokens LeftTokens → Result ℕ ExprError → Type 0
SkipsToken line wanted (Ok n) = wanted ≡ Ok (drop n (token_texts line))
SkipsToken line wanted (Err (Syntax column)) = (left : LeftTokens) × (wanted ≡ Err left) × (column ≡ column_of line left)
SkipsToken line wanted (Err NoMemory) = ⊥
SkipsToken line wanted (Err NoNode) = ⊥
SkipsToken line wanted (Err TooDeep) = ⊥
SkipsToken line wanted (Err Nested) = ⊥
