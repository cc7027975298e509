-- The limit of a line of a play.
use Rattle.std.specs.Prelude.{ℕ}

-- how many bytes a line has at most: each item that the schedule of a group's logs has is shorter
abbrev pub most_item_line_bytes : ℕ
most_item_line_bytes = 131072
