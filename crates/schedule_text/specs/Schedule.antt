-- Schedules as contracts see them, and the ranges of what is in one.
use Rattle.std.specs.Prelude.{◌≢◌, ℕ, ◌<◌, ◌≤◌, FitsSigned, Bool, ◌&&◌, not, nat_le, nat_eq, codes, sum_by, List, length, All, AllPairs, IsTrue}
use Rattle.std.specs.Int.{is_in_range, w64}
use Rattle.std.specs.List.{list_all, ends_with}
use Rattle.fri_bytes.specs.Laws.{AreBytes}
use Rattle.fri_text.specs.Name.{is_name}
use Rattle.lamport_tag.specs.Limits.{most_processes}
use Rattle.guest_signals.specs.Signals.{most_signal}
use Rattle.schedule_text.specs.declared.item.Item.{Item}
use Rattle.schedule_text.specs.declared.item.Item.TheVariants.{Run, Deliver, Inject, Clock, Random, Signal, Kill}
use Rattle.schedule_text.specs.Limits.{most_thread_number, most_datagram, most_runs}
use Rattle.schedule_text.specs.declared.process.ProcessLine.{ProcessLine}

-- the processes, numbered from 0, and what happens to them, in order
pub record Schedule : Type 0 where
  pub processes : List ProcessLine
  pub items : List Item

-- a byte from ! to ~ of ASCII
abbrev pub is_visible : ℕ → Bool
is_visible b = is_in_range 33 126 b

-- 1 to 255 visible bytes that don't end as the files do which a recording writes
abbrev pub is_module_name : List ℕ → Bool
is_module_name word = nat_le 1 (length word) && nat_le (length word) 255 && list_all is_visible word
    && not (ends_with nat_eq word (codes ".log")) && not (ends_with nat_eq word (codes ".mem")) && not (ends_with nat_eq word (codes ".out"))

-- a process may have this name and this module
pub record IsProcess (line : ProcessLine) : Type 0 where
  pub name : IsTrue (is_name line.name)
  pub file : IsTrue (is_module_name line.module)

-- the item is in range where there are this many processes
abbrev pub IsInRange : ℕ → Item → Type 0
IsInRange processes (Run process thread times) = (process < processes) × (thread ≤ most_thread_number) × (1 ≤ times) × (times ≤ most_runs)
IsInRange processes (Deliver process number) = (process < processes) × (1 ≤ number) × (number ≤ most_datagram)
IsInRange processes (Inject process bytes) = (process < processes) × AreBytes bytes
IsInRange processes (Clock process value) = (process < processes) × FitsSigned w64 value
IsInRange processes (Random process bytes) = (process < processes) × AreBytes bytes
IsInRange processes (Signal process signal) = (process < processes) × (1 ≤ signal) × (signal ≤ most_signal)
IsInRange processes (Kill process) = process < processes

-- the lines and the items are in range, and no two processes have one name
pub record IsWellFormed (s : Schedule) : Type 0 where
  pub some : 1 ≤ length s.processes
  pub most : length s.processes ≤ most_processes
  pub lines : All IsProcess s.processes
  pub names : AllPairs (λ a b. a.name ≢ b.name) s.processes
  pub items : All (IsInRange (length s.processes)) s.items

-- how often an item tries to run a thread
abbrev pub tries : Item → ℕ
tries (Run process thread times) = times
tries _ = 0

-- the run items, repeats counted
abbrev pub run_count : List Item → ℕ
run_count items = sum_by tries items

-- a schedule that may be run: it is well formed, and has no more run items than the limit
pub record IsSchedule (s : Schedule) : Type 0 where
  pub formed : IsWellFormed s
  pub runs : run_count s.items ≤ most_runs
