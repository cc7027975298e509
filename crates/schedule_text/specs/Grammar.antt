-- The grammar of schedules: which lines spell one, and which line is the first bad one.
use Rattle.std.specs.Prelude.{◌≡◌, ℕ, ◌+◌, ◌-◌, ◌≤◌, ℤ, not, codes, filter, map, List, [], ◌∷◌, ◌++◌, length, take, Some}
use Rattle.std.specs.List.{AllZip}
use Rattle.fri_text.specs.Decimal.{decimal_of, signed_of}
use Rattle.fri_text.specs.Hex.{hex_of}
use Rattle.fri_text.specs.Line.{lines_of}
use Rattle.schedule_text.specs.declared.item.Item.{Item}
use Rattle.schedule_text.specs.declared.item.Item.TheVariants.{Run, Deliver, Inject, Clock, Random, Signal, Kill}
use Rattle.schedule_text.specs.declared.process.ProcessLine.{ProcessLine}
use Rattle.schedule_text.specs.Fields.{fields_of, is_passed_over}
use Rattle.schedule_text.specs.Schedule.{Schedule, IsWellFormed}

-- ---- one line, by its fields

-- the word writes the number in decimal digits, with any zeros in front
abbrev pub IsNumber : List ℕ → ℕ → Type 0
IsNumber word n = decimal_of word ≡ Some n

-- the same where one minus may be in front
abbrev pub IsSignedNumber : List ℕ → ℤ → Type 0
IsSignedNumber word z = signed_of word ≡ Some z

-- the word writes the bytes in hexadecimal digits of either case, or none by a minus
abbrev pub IsHex : List ℕ → List ℕ → Type 0
IsHex word bytes = hex_of word ≡ Some bytes

-- `friday 1`
abbrev pub IsHeader : List (List ℕ) → Type 0
IsHeader fields = fields ≡ codes "friday" ∷ codes "1" ∷ []

-- `process NAME MODULE`
abbrev pub IsProcessLine : List (List ℕ) → ProcessLine → Type 0
IsProcessLine fields line = fields ≡ codes "process" ∷ line.name ∷ line.module ∷ []

-- `run P T`, which is one try, or `run P T N`
abbrev pub IsRunItem : List (List ℕ) → ℕ → ℕ → ℕ → Type 0
IsRunItem (word ∷ p ∷ t ∷ []) process thread times = (word ≡ codes "run") × IsNumber p process × IsNumber t thread × (times ≡ 1)
IsRunItem (word ∷ p ∷ t ∷ n ∷ []) process thread times = (word ≡ codes "run") × IsNumber p process × IsNumber t thread × IsNumber n times
IsRunItem _ process thread times = ⊥

-- the word of an item, P, and one more field, of which this holds
abbrev pub IsPair : List ℕ → List (List ℕ) → ℕ → (List ℕ → Type 0) → Type 0
IsPair name (word ∷ p ∷ last ∷ []) process IsLast = (word ≡ name) × IsNumber p process × IsLast last
IsPair name _ process IsLast = ⊥

-- `kill P`
abbrev pub IsKill : List (List ℕ) → ℕ → Type 0
IsKill (word ∷ p ∷ []) process = (word ≡ codes "kill") × IsNumber p process
IsKill _ process = ⊥

-- The fields write the item, whatever the ranges are: `deliver P N`, `inject P HEX`, `clock P V`,
-- `random P HEX`, `signal P S` and those above.
abbrev pub IsItemLine : List (List ℕ) → Item → Type 0
IsItemLine fields (Run process thread times) = IsRunItem fields process thread times
IsItemLine fields (Deliver process number) = IsPair (codes "deliver") fields process (λ n. IsNumber n number)
IsItemLine fields (Inject process bytes) = IsPair (codes "inject") fields process (λ h. IsHex h bytes)
IsItemLine fields (Clock process value) = IsPair (codes "clock") fields process (λ v. IsSignedNumber v value)
IsItemLine fields (Random process bytes) = IsPair (codes "random") fields process (λ h. IsHex h bytes)
IsItemLine fields (Signal process signal) = IsPair (codes "signal") fields process (λ s. IsNumber s signal)
IsItemLine fields (Kill process) = IsKill fields process

-- ---- all lines

-- the fields of each line that isn't passed over
abbrev pub lines_kept : List (List ℕ) → List (List (List ℕ))
lines_kept lines = filter (λ fields. not (is_passed_over fields)) (map fields_of lines)

-- the lines, without those passed over, are the header, the processes and the items, which are in range
pub record AreLinesOf (lines : List (List ℕ)) (s : Schedule) : Type 0 where
  pub header : List (List ℕ)
  pub process_lines : List (List (List ℕ))
  pub item_lines : List (List (List ℕ))
  pub in_order : lines_kept lines ≡ header ∷ (process_lines ++ item_lines)
  pub begins : IsHeader header
  pub processes : AllZip IsProcessLine process_lines s.processes
  pub items : AllZip IsItemLine item_lines s.items
  pub formed : IsWellFormed s

-- the bytes spell the schedule, however many run items it has
abbrev pub SpellsSchedule : List ℕ → Schedule → Type 0
SpellsSchedule bytes s = AreLinesOf (lines_of bytes) s

-- with some further lines, or with none, the lines are those of a schedule: so each is allowed at its place
pub record BeginSchedule (lines : List (List ℕ)) : Type 0 where
  pub rest : List (List ℕ)
  pub whole : Schedule
  pub spelled : AreLinesOf (lines ++ rest) whole

-- Line n, counted from 1, is the first that isn't allowed at its place. Where each line is allowed but
-- the header or a process line is still to come, it is the line after the last.
pub record IsFirstBad (lines : List (List ℕ)) (n : ℕ) : Type 0 where
  pub counted : 1 ≤ n
  pub within : n ≤ length lines + 1
  pub good : BeginSchedule (take (n - 1) lines)
  pub bad : n ≤ length lines → BeginSchedule (take n lines) → ⊥
  pub unspelled : (s : Schedule) → AreLinesOf lines s → ⊥

-- line n of the bytes is the first bad one
abbrev pub SpellsBadLineAt : List ℕ → ℕ → Type 0
SpellsBadLineAt bytes n = IsFirstBad (lines_of bytes) n
