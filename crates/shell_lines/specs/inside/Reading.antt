-- What the functions give that read a line.
use Rattle.std.specs.Prelude.{◌≡◌, ℕ, Result, Ok, Err, true, false, List}
use Rattle.expression_text.specs.declared.error.ExprError.{ExprError}
use Rattle.expression_text.specs.declared.error.ExprError.TheVariants.{Syntax, NoNode, TooDeep, Nested, NoMemory}
use Rattle.expression_text.specs.Lexing.{LexedLine, column_of_token}
use Rattle.shell_lines.specs.declared.command.DebuggerCommand.{DebuggerCommand as Spelled}
use Rattle.expression_text.specs.Computed.{cut_tokens}
use Rattle.shell_lines.specs.declared.refusal.LineRefusal.TheVariants as refusal
use Rattle.shell_lines.specs.Lines.{LineCommand, has_nested, names_none}
use Rattle.shell_lines.specs.Spelled.{command}
use Rattle.shell_lines.specs.Meaning.{Refuses, by_cut, judged_command}

-- the command that was read of tokens, or why none was: the column of the token that none has there, or what is wrong with
-- the one that they spell; or want of memory
abbrev pub ReadsCommand : LexedLine → Result LineCommand ℕ → Result Spelled ExprError → Type 0
ReadsCommand line wanted (Ok c) = wanted ≡ Ok (command c)
ReadsCommand line wanted (Err (Syntax column)) = (n : ℕ) × (wanted ≡ Err n) × (column ≡ column_of_token line n)
ReadsCommand line wanted (Err Nested) = (c : LineCommand) × (wanted ≡ Ok c) × (has_nested c ≡ true)
ReadsCommand line wanted (Err NoNode) = (c : LineCommand) × (wanted ≡ Ok c) × (has_nested c ≡ false) × (names_none c ≡ true)
ReadsCommand line wanted (Err TooDeep) = ⊥
ReadsCommand line wanted (Err NoMemory) = Unit {0}

-- what a line is that is neither too long nor silent, by the command that it spells, or by why it spells none; or want of
-- memory
abbrev pub SpellsCommand : List (List ℕ) → List ℕ → Result Spelled ExprError → Type 0
SpellsCommand names bytes (Ok c) = by_cut names bytes (cut_tokens bytes) ≡ judged_command (command c)
SpellsCommand names bytes (Err (Syntax column)) = by_cut names bytes (cut_tokens bytes) ≡ Refuses (refusal.Syntax column)
SpellsCommand names bytes (Err TooDeep) = by_cut names bytes (cut_tokens bytes) ≡ Refuses refusal.TooDeep
SpellsCommand names bytes (Err NoMemory) = Unit {0}
SpellsCommand names bytes (Err Nested) = by_cut names bytes (cut_tokens bytes) ≡ Refuses refusal.Nested
SpellsCommand names bytes (Err NoNode) = by_cut names bytes (cut_tokens bytes) ≡ Refuses refusal.NoNode
