-- What the functions give that read a line of a play.
use Rattle.std.specs.Prelude.{◌≡◌, ℕ, Result, Ok, Err, List}
use Rattle.expression_text.specs.declared.error.ExprError.{ExprError}
use Rattle.expression_text.specs.declared.error.ExprError.TheVariants.{Syntax, NoNode, TooDeep, Nested, NoMemory}
use Rattle.expression_text.specs.Computed.{cut_tokens}
use Rattle.expression_text.specs.Lexing.{LexedLine, column_of_token}
use Rattle.shell_lines.specs.declared.refusal.LineRefusal.TheVariants as line
use Rattle.play_lines.specs.Lines.{PlayCommand}
use Rattle.play_lines.specs.Meaning.{Refuses, judged_play, play_by_cut}
use Rattle.play_lines.specs.Spelled.{player_command}
use Rattle.play_lines.specs.declared.command.PlayerCommand.{PlayerCommand}
use Rattle.play_lines.specs.declared.refusal.PlayRefusal.TheVariants as refusal

-- the command that was read of tokens, or the column of the token that none has there; or want of memory
abbrev pub ReadsPlay : LexedLine → Result PlayCommand ℕ → Result PlayerCommand ExprError → Type 0
ReadsPlay tokens wanted (Ok c) = wanted ≡ Ok (player_command c)
ReadsPlay tokens wanted (Err (Syntax column)) = (n : ℕ) × (wanted ≡ Err n) × (column ≡ column_of_token tokens n)
ReadsPlay tokens wanted (Err Nested) = ⊥
ReadsPlay tokens wanted (Err NoNode) = ⊥
ReadsPlay tokens wanted (Err TooDeep) = ⊥
ReadsPlay tokens wanted (Err NoMemory) = Unit {0}

-- what a line is that is no item, neither silent nor too long, by the command that it spells, or by why it spells none; or want
-- of memory
abbrev pub SpellsPlay : List (List ℕ) → List ℕ → Result PlayerCommand ExprError → Type 0
SpellsPlay names bytes (Ok c) = play_by_cut names bytes (cut_tokens bytes) ≡ judged_play (player_command c)
SpellsPlay names bytes (Err (Syntax column)) = play_by_cut names bytes (cut_tokens bytes) ≡ Refuses (refusal.AsLine (line.Syntax column))
SpellsPlay names bytes (Err TooDeep) = play_by_cut names bytes (cut_tokens bytes) ≡ Refuses (refusal.AsLine line.TooDeep)
SpellsPlay names bytes (Err Nested) = ⊥
SpellsPlay names bytes (Err NoNode) = ⊥
SpellsPlay names bytes (Err NoMemory) = Unit {0}
