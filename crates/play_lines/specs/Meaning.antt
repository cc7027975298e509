-- What a line of a play is: nothing, a line that is refused, an item, or a command.
use Rattle.std.specs.Prelude.{ℕ, ◌+◌, nat_lt, List, length, Option, Some, None, Result, Ok, Err, if◌then◌else◌}
use Rattle.expression_text.specs.Computed.{cut_tokens}
use Rattle.expression_text.specs.Lexing.{LexedLine, PlacedToken, column_of_token, is_too_deep, token_texts}
use Rattle.schedule_text.specs.ItemLine.{is_item_line, item_of_line}
use Rattle.schedule_text.specs.declared.item.Item.{Item}
use Rattle.shell_lines.specs.Limits.{most_line_bytes}
use Rattle.shell_lines.specs.Meaning.{is_silent}
use Rattle.shell_lines.specs.declared.refusal.LineRefusal.TheVariants as line
use Rattle.play_lines.specs.Limits.{most_item_line_bytes}
use Rattle.play_lines.specs.Lines.{PlayCommand, nests_in_play, lacks_in_play, play_spelled}
use Rattle.play_lines.specs.declared.refusal.PlayRefusal.{PlayRefusal}
use Rattle.play_lines.specs.declared.refusal.PlayRefusal.TheVariants as refusal

pub data PlayMeaning : Type 0 where
  Silent : PlayMeaning
  Refuses : (why : PlayRefusal) → PlayMeaning
  Plays : (item : Item) → PlayMeaning
  Does : (player_command : PlayCommand) → PlayMeaning

-- an item, where a schedule with these processes could have its line
abbrev pub item_meaning : Option Item → PlayMeaning
item_meaning None = Refuses refusal.BadItem
item_meaning (Some item) = Plays item

-- a command of the grammar, unless something is wrong with it
abbrev pub judged_play : PlayCommand → PlayMeaning
judged_play command =
    if nests_in_play command then Refuses (refusal.AsLine line.Nested)
    else if lacks_in_play command then Refuses (refusal.AsLine line.NoNode)
    else Does command

abbrev pub play_by_command : LexedLine → Result PlayCommand ℕ → PlayMeaning
play_by_command tokens (Err n) = Refuses (refusal.AsLine (line.Syntax (column_of_token tokens n)))
play_by_command tokens (Ok command) = judged_play command

abbrev pub play_by_tokens : List (List ℕ) → LexedLine → PlayMeaning
play_by_tokens names tokens =
    if is_too_deep (token_texts tokens) then Refuses (refusal.AsLine line.TooDeep)
    else play_by_command tokens (play_spelled names (token_texts tokens))

abbrev pub play_by_cut : List (List ℕ) → List ℕ → Result (List PlacedToken) ℕ → PlayMeaning
play_by_cut names bytes (Err column) = Refuses (refusal.AsLine (line.Syntax column))
play_by_cut names bytes (Ok tokens) = play_by_tokens names (record { tokens = tokens; end = length bytes + 1 })

-- What a line is, over a group whose processes have these names. The tests come in this order: a line that is no item may have
-- as many bytes as a line of the debugger.
abbrev pub play_meaning : List (List ℕ) → List ℕ → PlayMeaning
play_meaning names bytes =
    if nat_lt most_item_line_bytes (length bytes) then Refuses (refusal.AsLine line.TooLong)
    else if is_silent bytes then Silent
    else if is_item_line bytes then item_meaning (item_of_line (length names) bytes)
    else if nat_lt most_line_bytes (length bytes) then Refuses (refusal.AsLine line.TooLong)
    else play_by_cut names bytes (cut_tokens bytes)
