-- An item on a line by itself.
use Rattle.std.specs.Prelude.{ℕ, Bool, false, ◌||◌, codes, List, [], ◌∷◌, Option, None}
use Rattle.std.specs.Str.{bytes_eq}
use Rattle.schedule_text.specs.declared.item.Item.{Item}
use Rattle.schedule_text.specs.Fields.{fields_of}
use Rattle.schedule_text.specs.Reading.{item_by_word}

-- the item of a line with these fields, where there are so many processes
abbrev pub item_of_fields : ℕ → List (List ℕ) → Option Item
item_of_fields processes [] = None
item_of_fields processes (word ∷ fields) = item_by_word processes word fields

-- the item of a line. One without fields has none, and neither has a comment
abbrev pub item_of_line : ℕ → List ℕ → Option Item
item_of_line processes line = item_of_fields processes (fields_of line)

-- the word is the first of an item's line
abbrev pub is_item_word : List ℕ → Bool
is_item_word word =
    bytes_eq word (codes "run") || (bytes_eq word (codes "deliver") || (bytes_eq word (codes "inject") || (bytes_eq word (codes "clock")
    || (bytes_eq word (codes "random") || (bytes_eq word (codes "signal") || bytes_eq word (codes "kill"))))))

-- fields that begin as those of an item do
abbrev pub begin_item : List (List ℕ) → Bool
begin_item [] = false
begin_item (word ∷ fields) = is_item_word word

-- the line begins as that of an item does, whether or not it is one
abbrev pub is_item_line : List ℕ → Bool
is_item_line line = begin_item (fields_of line)
