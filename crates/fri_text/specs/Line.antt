-- Lines: each ends with a line feed or with the bytes.
use Rattle.std.specs.Prelude.{ℕ, Bool, ◌==◌, if◌then◌else◌, List, [], ◌∷◌, map, Option, Some, None}
use Rattle.std.specs.List.{before_first, after_first, onto_first}
use Rattle.std.specs.Str.Lines.{strip_carriage_return}

-- the byte that ends a line
abbrev pub is_line_feed : ℕ → Bool
is_line_feed b = b == 10

-- The line at the front of the bytes, without its line feed and without one carriage return at its
-- end, and the bytes after it.
abbrev pub line_at : List ℕ → Option (List ℕ × List ℕ)
line_at [] = None
line_at (b ∷ bytes) = Some (strip_carriage_return (before_first is_line_feed (b ∷ bytes)), after_first is_line_feed (b ∷ bytes))

-- all lines, each without its line feed; a line feed at the end of the bytes begins no further line
abbrev pub pieces_of : List ℕ → List (List ℕ)
pieces_of [] = []
pieces_of (b ∷ bytes) = if is_line_feed b then [] ∷ pieces_of bytes else onto_first b (pieces_of bytes)

-- all lines, each also without one carriage return at its end
abbrev pub lines_of : List ℕ → List (List ℕ)
lines_of bytes = map strip_carriage_return (pieces_of bytes)
