-- Fields: what the spaces and tabs of a line separate.
use Rattle.std.specs.Prelude.{ℕ, Bool, true, ◌||◌, ◌==◌, nat_lt, nat_eq, codes, filter, List, [], ◌∷◌, length, Option, Some, None}
use Rattle.std.specs.List.{slice_split, starts_with}

-- a space or a tab
abbrev pub is_separator : ℕ → Bool
is_separator b = (b == 32) || (b == 9)

-- the fields of a line: it is cut at each blank, and the parts without a byte are left out
abbrev pub fields_of : List ℕ → List (List ℕ)
fields_of line = filter (λ part. nat_lt 0 (length part)) (slice_split is_separator line)

-- the first field and those after it
abbrev pub field_at : List (List ℕ) → Option (List ℕ × List (List ℕ))
field_at [] = None
field_at (field ∷ fields) = Some (field, fields)

-- the first field, where it is the last
abbrev pub last_field_of : List (List ℕ) → Option (List ℕ)
last_field_of (field ∷ []) = Some field
last_field_of _ = None

-- A field that begins with # makes the line a comment, where it is the line's first.
abbrev pub is_comment : List ℕ → Bool
is_comment field = starts_with nat_eq field (codes "#")

-- a line with these fields is passed over: it has none, or is a comment
abbrev pub is_passed_over : List (List ℕ) → Bool
is_passed_over [] = true
is_passed_over (field ∷ fields) = is_comment field
