-- The schedule that some bytes spell, or why they are refused, as a function that goes over the lines.
use Rattle.std.specs.Prelude.{ℕ, ◌+◌, ◌-◌, Bool, true, false, ◌&&◌, ◌||◌, ◌==◌, nat_lt, nat_le, codes, if◌then◌else◌, List, [], ◌∷◌, ◌++◌, length, Option, Some, None, option_map, Result, Ok, Err}
use Rattle.std.specs.List.{list_any}
use Rattle.std.specs.Option.{option_map_or}
use Rattle.std.specs.Result.{result_ok}
use Rattle.std.specs.Str.{bytes_eq}
use Rattle.fri_text.specs.Decimal.{decimal_of, signed_of, up_to, within_i64}
use Rattle.fri_text.specs.Hex.{hex_of}
use Rattle.fri_text.specs.Line.{lines_of}
use Rattle.fri_text.specs.Name.{is_name}
use Rattle.lamport_tag.specs.Limits.{most_processes}
use Rattle.guest_signals.specs.Signals.{most_signal}
use Rattle.schedule_text.specs.declared.item.Item.{Item}
use Rattle.schedule_text.specs.declared.item.Item.TheVariants.{Run, Deliver, Inject, Clock, Random, Signal, Kill}
use Rattle.schedule_text.specs.Limits.{most_thread_number, most_datagram, most_runs}
use Rattle.schedule_text.specs.declared.process.ProcessLine.{ProcessLine}
use Rattle.schedule_text.specs.Fields.{fields_of, field_at, last_field_of, is_comment}
use Rattle.schedule_text.specs.Schedule.{Schedule, is_module_name, run_count}

-- what comes of something that was found, where anything was
infixl 10 ◌>>=◌
abbrev pub ◌>>=◌ : {A B : Type 0} → Option A → (A → Option B) → Option B
None >>= f = None
(Some x) >>= f = f x

-- why bytes are refused: a bad line, or too many run items
pub data ScheduleRefusal : Type 0 where
  BadLineAt : ℕ → ScheduleRefusal
  TooManyRuns : ScheduleRefusal

-- ---- numbers

-- the number that a word writes, where it is at most `most`
abbrev pub number_up_to : ℕ → List ℕ → Option ℕ
number_up_to most word = result_ok (up_to most (decimal_of word))

-- the same from 1 on
abbrev pub positive_of : ℕ → List ℕ → Option ℕ
positive_of most word = number_up_to most word >>= λ n. if n == 0 then None else Some n

-- the number of a process, where there are so many
abbrev pub process_number_of : ℕ → List ℕ → Option ℕ
process_number_of processes word = if processes == 0 then None else number_up_to (processes - 1) word

-- the fields after P and T: how often is tried
abbrev pub times_of : List (List ℕ) → Option ℕ
times_of [] = Some 1
times_of (word ∷ []) = positive_of most_runs word
times_of _ = None

-- ---- one line

-- whether these are the fields of the header
abbrev pub is_header : List ℕ → List (List ℕ) → Bool
is_header word (version ∷ []) = bytes_eq word (codes "friday") && bytes_eq version (codes "1")
is_header word _ = false

-- the process of the fields after `process`
unfoldable pub process_line_of : List (List ℕ) → Option ProcessLine
process_line_of fields = do
  name ← field_at fields
  file ← last_field_of name.1
  if is_name name.0 && is_module_name file then Some (record { name = name.0; «module» = file }) else None

-- the item of the fields after `run`
unfoldable pub run_item : ℕ → List (List ℕ) → Option Item
run_item processes fields = do
  p ← field_at fields
  process ← process_number_of processes p.0
  t ← field_at p.1
  thread ← number_up_to most_thread_number t.0
  times ← times_of t.1
  Some (Run process thread times)

-- the process of the fields P and one more, which is the last, and that field
unfoldable pub pair_in : ℕ → List (List ℕ) → Option (ℕ × List ℕ)
pair_in processes fields = do
  p ← field_at fields
  process ← process_number_of processes p.0
  last ← last_field_of p.1
  Some (process, last)

-- the item of the fields after `deliver`
unfoldable pub deliver_item : ℕ → List (List ℕ) → Option Item
deliver_item processes fields = do
  pair ← pair_in processes fields
  number ← positive_of most_datagram pair.1
  Some (Deliver pair.0 number)

-- the process and the bytes of the fields P and HEX
unfoldable pub bytes_in : ℕ → List (List ℕ) → Option (ℕ × List ℕ)
bytes_in processes fields = do
  pair ← pair_in processes fields
  bytes ← hex_of pair.1
  Some (pair.0, bytes)

-- the item of the fields after `inject`
unfoldable pub inject_item : ℕ → List (List ℕ) → Option Item
inject_item processes fields = option_map (λ x. Inject x.0 x.1) (bytes_in processes fields)

-- the item of the fields after `clock`
unfoldable pub clock_item : ℕ → List (List ℕ) → Option Item
clock_item processes fields = do
  pair ← pair_in processes fields
  value ← result_ok (within_i64 (signed_of pair.1))
  Some (Clock pair.0 value)

-- the item of the fields after `random`
unfoldable pub random_item : ℕ → List (List ℕ) → Option Item
random_item processes fields = option_map (λ x. Random x.0 x.1) (bytes_in processes fields)

-- the item of the fields after `signal`
unfoldable pub signal_item : ℕ → List (List ℕ) → Option Item
signal_item processes fields = do
  pair ← pair_in processes fields
  number ← positive_of most_signal pair.1
  Some (Signal pair.0 number)

-- the item of the fields after `kill`
unfoldable pub kill_item : ℕ → List (List ℕ) → Option Item
kill_item processes fields = do
  p ← last_field_of fields
  process ← process_number_of processes p
  Some (Kill process)

-- the item of a line, by its first word
unfoldable pub item_by_word : ℕ → List ℕ → List (List ℕ) → Option Item
item_by_word processes word fields =
    if bytes_eq word (codes "run") then run_item processes fields else
    (if bytes_eq word (codes "deliver") then deliver_item processes fields else
    (if bytes_eq word (codes "inject") then inject_item processes fields else
    (if bytes_eq word (codes "clock") then clock_item processes fields else
    (if bytes_eq word (codes "random") then random_item processes fields else
    (if bytes_eq word (codes "signal") then signal_item processes fields else
    (if bytes_eq word (codes "kill") then kill_item processes fields else None))))))

-- ---- lines

-- what has come so far
pub record SchedulePart : Type 0 where
  pub has_header : Bool
  pub processes : List ProcessLine
  pub items : List Item

-- before the first line
abbrev pub nothing_read : SchedulePart
nothing_read = record { has_header = false; processes = []; items = [] }

-- one more process, where no item has come, there is room for it, and its name is new
unfoldable pub with_process : SchedulePart → List (List ℕ) → Option SchedulePart
with_process part fields =
    if nat_lt 0 (length part.items) || nat_le most_processes (length part.processes) then None else
    (process_line_of fields >>= λ line. if list_any (λ other. bytes_eq other.name line.name) part.processes then None else
    Some (record part { processes = part.processes ++ line ∷ [] }))

-- one more item
unfoldable pub with_schedule_item : SchedulePart → List ℕ → List (List ℕ) → Option SchedulePart
with_schedule_item part word fields = option_map (λ item. record part { items = part.items ++ item ∷ [] }) (item_by_word (length part.processes) word fields)

-- one more line that isn't passed over
unfoldable pub with_fields : SchedulePart → List ℕ → List (List ℕ) → Option SchedulePart
with_fields part word fields =
    if part.has_header then (if bytes_eq word (codes "process") then with_process part fields else with_schedule_item part word fields) else
    (if is_header word fields then Some (record part { has_header = true }) else None)

-- one more line with these fields
abbrev pub with_line_of : SchedulePart → List (List ℕ) → Option SchedulePart
with_line_of part [] = Some part
with_line_of part (word ∷ fields) = if is_comment word then Some part else with_fields part word fields

-- one more line
unfoldable pub with_schedule_line : SchedulePart → List ℕ → Option SchedulePart
with_schedule_line part line = with_line_of part (fields_of line)

-- ---- the whole

-- the schedule of what has come
abbrev pub schedule_part : SchedulePart → Schedule
schedule_part part = record { processes = part.processes; items = part.items }

-- all lines have come, and the next would have this number
unfoldable pub whole_schedule_of : ℕ → SchedulePart → Result Schedule ScheduleRefusal
whole_schedule_of number part =
    if nat_lt 0 (length part.processes) then
    (if nat_le (run_count part.items) most_runs then Ok (schedule_part part) else Err TooManyRuns) else
    Err (BadLineAt number)

-- what follows of the lines still to come, the first of which has this number
unfoldable pub outcome_of : ℕ → SchedulePart → List (List ℕ) → Result Schedule ScheduleRefusal
outcome_of number part [] = whole_schedule_of number part
outcome_of number part (line ∷ lines) = option_map_or (λ next. outcome_of (number + 1) next lines) (with_schedule_line part line) (Err (BadLineAt number))

-- the schedule of the bytes, or why there is none
unfoldable pub schedule_of : List ℕ → Result Schedule ScheduleRefusal
schedule_of bytes = outcome_of 1 nothing_read (lines_of bytes)
