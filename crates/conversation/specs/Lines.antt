-- The whole lines of an input.
use Rattle.std.specs.Prelude.{ℕ, List, [], ◌∷◌, take, if◌then◌else◌}
use Rattle.std.specs.List.{list_any}
use Rattle.fri_text.specs.Line.{is_line_feed, lines_of}
use Rattle.conversation.specs.Limits.{most_input}

-- the bytes up to the last line feed, and with it
abbrev pub whole_part : List ℕ → List ℕ
whole_part [] = []
whole_part (b ∷ bytes) = if list_any is_line_feed (b ∷ bytes) then b ∷ whole_part bytes else []

-- the lines that end with a line feed
abbrev pub whole_lines : List ℕ → List (List ℕ)
whole_lines bytes = lines_of (whole_part bytes)

-- the lines that end within as many bytes as may be read
abbrev pub early_lines : List ℕ → List (List ℕ)
early_lines input = whole_lines (take most_input input)
