-- The text of a schedule, as it is written.
use Rattle.std.specs.Prelude.{ℕ, ◌==◌, if◌then◌else◌, codes, decimal, List, [], ◌∷◌, ◌++◌, flat_map}
use Rattle.std.specs.Fmt.{signed_decimal}
use Rattle.std.specs.List.{join_with_byte}
use Rattle.fri_text.specs.Hex.{hex_word}
use Rattle.schedule_text.specs.declared.item.Item.{Item}
use Rattle.schedule_text.specs.declared.item.Item.TheVariants.{Run, Deliver, Inject, Clock, Random, Signal, Kill}
use Rattle.schedule_text.specs.declared.process.ProcessLine.{ProcessLine}
use Rattle.schedule_text.specs.Schedule.{Schedule}

-- the fields of the first line
abbrev pub header_fields : List (List ℕ)
header_fields = codes "friday" ∷ codes "1" ∷ []

-- the fields of a process's line
abbrev pub process_fields : ProcessLine → List (List ℕ)
process_fields line = codes "process" ∷ line.name ∷ line.module ∷ []

-- the last field of a run item, which is left out of a single try
abbrev pub times_fields : ℕ → List (List ℕ)
times_fields times = if times == 1 then [] else decimal times ∷ []

-- the fields of an item's line
abbrev pub item_fields : Item → List (List ℕ)
item_fields (Run process thread times) = codes "run" ∷ decimal process ∷ decimal thread ∷ times_fields times
item_fields (Deliver process number) = codes "deliver" ∷ decimal process ∷ decimal number ∷ []
item_fields (Inject process bytes) = codes "inject" ∷ decimal process ∷ hex_word bytes ∷ []
item_fields (Clock process value) = codes "clock" ∷ decimal process ∷ signed_decimal value ∷ []
item_fields (Random process bytes) = codes "random" ∷ decimal process ∷ hex_word bytes ∷ []
item_fields (Signal process signal) = codes "signal" ∷ decimal process ∷ decimal signal ∷ []
item_fields (Kill process) = codes "kill" ∷ decimal process ∷ []

-- a line: its fields with one space between, and a line feed
abbrev pub line_text : List (List ℕ) → List ℕ
line_text fields = join_with_byte 32 fields ++ 10 ∷ []

-- the line of a process
abbrev pub process_text : ProcessLine → List ℕ
process_text line = line_text (process_fields line)

-- the line of an item
abbrev pub item_text : Item → List ℕ
item_text item = line_text (item_fields item)

-- the lines before the items: the first line, and a line for each process
abbrev pub head_text : List ProcessLine → List ℕ
head_text lines = line_text header_fields ++ flat_map process_text lines

-- the text: those lines, and a line for each item
abbrev pub text_of : Schedule → List ℕ
text_of s = head_text s.processes ++ flat_map item_text s.items
