-- What a line is: nothing, a line that is refused, or a command.
use Rattle.std.specs.Prelude.{ℕ, ◌+◌, Bool, true, nat_lt, ◌==◌, List, [], ◌∷◌, length, Result, Ok, Err, if◌then◌else◌}
use Rattle.std.specs.List.{list_all}
use Rattle.shell_lines.specs.Limits.{most_line_bytes}
use Rattle.expression_text.specs.Computed.{cut_tokens}
use Rattle.expression_text.specs.Lexing.{LexedLine, PlacedToken, column_of_token, is_blank, is_too_deep, token_texts}
use Rattle.shell_lines.specs.Lines.{LineCommand, command_spelled, has_nested, names_none, watches_variable}
use Rattle.shell_lines.specs.declared.refusal.LineRefusal.{LineRefusal}
use Rattle.shell_lines.specs.declared.refusal.LineRefusal.TheVariants as refusal

pub data LineMeaning : Type 0 where
  Silent : LineMeaning
  Refuses : (why : LineRefusal) → LineMeaning
  Does : (command : LineCommand) → LineMeaning

-- bytes without the blanks in front
abbrev pub without_front_blanks : List ℕ → List ℕ
without_front_blanks [] = []
without_front_blanks (b ∷ bytes) = if is_blank b then without_front_blanks bytes else b ∷ bytes

-- bytes without the blanks at their end
abbrev pub without_end_blanks : List ℕ → List ℕ
without_end_blanks [] = []
without_end_blanks (b ∷ bytes) = if list_all is_blank (b ∷ bytes) then [] else b ∷ without_end_blanks bytes

-- a line without its outer blanks
abbrev pub trimmed : List ℕ → List ℕ
trimmed line = without_end_blanks (without_front_blanks line)

-- a line of blanks, or one whose first byte after blanks is `#`
abbrev pub is_silent : List ℕ → Bool
is_silent [] = true
is_silent (b ∷ bytes) = if is_blank b then is_silent bytes else b == 35

-- a command of the grammar, unless something is wrong with it
abbrev pub judged_command : LineCommand → LineMeaning
judged_command command =
    if has_nested command then Refuses refusal.Nested
    else if names_none command then Refuses refusal.NoNode
    else if watches_variable command then Refuses refusal.NamesVariable
    else Does command

abbrev pub line_by_command : LexedLine → Result LineCommand ℕ → LineMeaning
line_by_command tokens (Err n) = Refuses (refusal.Syntax (column_of_token tokens n))
line_by_command tokens (Ok command) = judged_command command

abbrev pub by_tokens : List (List ℕ) → LexedLine → LineMeaning
by_tokens names tokens =
    if is_too_deep (token_texts tokens) then Refuses refusal.TooDeep
    else line_by_command tokens (command_spelled names (token_texts tokens))

abbrev pub by_cut : List (List ℕ) → List ℕ → Result (List PlacedToken) ℕ → LineMeaning
by_cut names line (Err column) = Refuses (refusal.Syntax column)
by_cut names line (Ok tokens) = by_tokens names (record { tokens = tokens; end = length line + 1 })

-- what a line is, over a group whose processes have these names. The tests come in this order
abbrev pub line_meaning : List (List ℕ) → List ℕ → LineMeaning
line_meaning names line =
    if nat_lt most_line_bytes (length line) then Refuses refusal.TooLong
    else if is_silent line then Silent
    else by_cut names line (cut_tokens line)
