-- The limits of what a schedule may say.
use Rattle.std.specs.Prelude.{ℕ, ◌-◌}
use Rattle.coop_threads.specs.Crew.{most_threads}

-- the greatest number of a thread, the first of which is 0
abbrev pub most_thread_number : ℕ
most_thread_number = most_threads - 1

-- the greatest number of a datagram among those that a process sends, from 1
abbrev pub most_datagram : ℕ
most_datagram = 9223372036854775807

-- How many run items a schedule may have, where each counts as often as it tries. So none tries more often.
abbrev pub most_runs : ℕ
most_runs = 1000000

-- how many bytes the text of a schedule has at most
abbrev pub most_schedule : ℕ
most_schedule = 16777216

-- how many rounds the made group may go
abbrev pub most_rounds : ℕ
most_rounds = 100000
