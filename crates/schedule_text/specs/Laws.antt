-- What holds of the grammar, and of the function that goes over the lines.
use Rattle.std.specs.Prelude.{◌≡◌, ℕ, ◌+◌, ◌<◌, ◌≤◌, ◌⊎◌, ◌↔◌, List, [], ◌∷◌, ◌++◌, length, true, Some, Ok, Err}
use Rattle.schedule_text.specs.declared.item.Item.{Item}
use Rattle.schedule_text.specs.Limits.{most_runs}
use Rattle.schedule_text.specs.Fields.{fields_of}
use Rattle.schedule_text.specs.Grammar.{IsItemLine, SpellsSchedule, SpellsBadLineAt}
use Rattle.schedule_text.specs.ItemLine.{is_item_line, item_of_line}
use Rattle.schedule_text.specs.Reading.{BadLineAt, TooManyRuns, schedule_of}
use Rattle.schedule_text.specs.Schedule.{Schedule, IsInRange, IsWellFormed, IsSchedule, run_count, tries}
use Rattle.schedule_text.specs.Text.{text_of}

-- bytes spell at most one schedule
abbrev pub SpellOne : Type 0
SpellOne = (bytes : List ℕ) (s t : Schedule) → SpellsSchedule bytes s → SpellsSchedule bytes t → s ≡ t

-- bytes spell a schedule or have a bad line
abbrev pub SpellOrBad : Type 0
SpellOrBad = (bytes : List ℕ) → ((s : Schedule) × SpellsSchedule bytes s) ⊎ ((n : ℕ) × SpellsBadLineAt bytes n)

-- they don't do both
abbrev pub NeverSpelledAndBad : Type 0
NeverSpelledAndBad = (bytes : List ℕ) (s : Schedule) (n : ℕ) → SpellsSchedule bytes s → SpellsBadLineAt bytes n → ⊥

-- at most one line is the first bad one
abbrev pub OneBadLine : Type 0
OneBadLine = (bytes : List ℕ) (m n : ℕ) → SpellsBadLineAt bytes m → SpellsBadLineAt bytes n → m ≡ n

-- the function gives exactly the schedules that are spelled and have no more run items than the limit
abbrev pub GivesSchedules : Type 0
GivesSchedules = (bytes : List ℕ) (s : Schedule) → (schedule_of bytes ≡ Ok s) ↔ (SpellsSchedule bytes s × (run_count s.items ≤ most_runs))

-- it refuses those with more
abbrev pub RefusesMoreRuns : Type 0
RefusesMoreRuns = (bytes : List ℕ) → (schedule_of bytes ≡ Err TooManyRuns) ↔ ((s : Schedule) × SpellsSchedule bytes s × (most_runs < run_count s.items))

-- it names exactly the first bad line
abbrev pub NamesBadLine : Type 0
NamesBadLine = (bytes : List ℕ) (n : ℕ) → (schedule_of bytes ≡ Err (BadLineAt n)) ↔ SpellsBadLineAt bytes n

-- the text of a schedule spells it
abbrev pub TextSpells : Type 0
TextSpells = (s : Schedule) → IsWellFormed s → SpellsSchedule (text_of s) s

-- it is read back, where it has no more run items than the limit
abbrev pub TextIsRead : Type 0
TextIsRead = (s : Schedule) → IsSchedule s → schedule_of (text_of s) ≡ Ok s

-- a line gives exactly the item that it writes and that is in range
abbrev pub GivesItems : Type 0
GivesItems = (processes : ℕ) (line : List ℕ) (item : Item) → (item_of_line processes line ≡ Some item) ↔ (IsItemLine (fields_of line) item × IsInRange processes item)

-- such a line begins as that of an item
abbrev pub BeginsAsItem : Type 0
BeginsAsItem = (processes : ℕ) (line : List ℕ) (item : Item) → item_of_line processes line ≡ Some item → is_item_line line ≡ true

-- the schedule with one more item
abbrev pub with_item : Schedule → Item → Schedule
with_item s item = record s { items = s.items ++ item ∷ [] }

-- an item in range may follow those of a schedule
abbrev pub TakesItem : Type 0
TakesItem = (s : Schedule) (item : Item) → IsWellFormed s → IsInRange (length s.processes) item → IsWellFormed (with_item s item)

-- and its tries come to theirs
abbrev pub CountsItem : Type 0
CountsItem = (s : Schedule) (item : Item) → run_count (with_item s item).items ≡ run_count s.items + tries item
