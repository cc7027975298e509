-- Which event two words name.
use Rattle.std.specs.Prelude.{ℕ, ◌-◌, ◌^◌, ◌==◌, if◌then◌else◌, List, Option, Some, None, option_and_then}
use Rattle.std.specs.Result.{result_ok}
use Rattle.fri_text.specs.Decimal.{decimal_of, up_to}
use Rattle.lamport_tag.specs.Limits.{most_processes}

abbrev pub most_process_number : ℕ
most_process_number = most_processes - 1

abbrev pub most_event : ℕ
most_event = 2 ^ 63 - 1

-- the number of a process of a group, with any zeros in front
abbrev pub process_of : List ℕ → Option ℕ
process_of word = result_ok (up_to most_process_number (decimal_of word))

abbrev pub event_unless_zero : ℕ → Option ℕ
event_unless_zero n = if n == 0 then None else Some n

-- the number of an event of a process, counted from 1
abbrev pub event_number_of : List ℕ → Option ℕ
event_number_of word = option_and_then event_unless_zero (result_ok (up_to most_event (decimal_of word)))
