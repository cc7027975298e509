-- The schedule of a group of four processes, each of which takes a number from the one before it and hands it on.
use Rattle.std.specs.Prelude.{ℕ, ◌+◌, ◌-◌, ◌/◌, ◌%◌, ◌==◌, if◌then◌else◌, codes, List, [], ◌∷◌, ◌++◌}
use Rattle.std.specs.List.{flat_map, range_with_len}
use Rattle.schedule_text.specs.declared.item.Item.{Item}
use Rattle.schedule_text.specs.declared.item.Item.TheVariants.{Run, Deliver}
use Rattle.schedule_text.specs.declared.process.ProcessLine.{ProcessLine}
use Rattle.schedule_text.specs.Schedule.{Schedule}

-- a process of this name, of the module `ring`
abbrev pub ring_line : List ℕ → ProcessLine
ring_line name = record { name = name; «module» = codes "ring" }

abbrev pub drill_processes : List ProcessLine
drill_processes = ring_line (codes "n0") ∷ ring_line (codes "n1") ∷ ring_line (codes "n2") ∷ ring_line (codes "n3") ∷ []

-- each process begins and asks for its number, and the first sends
abbrev pub drill_start : List Item
drill_start = Run 0 0 3 ∷ Run 1 0 2 ∷ Run 2 0 2 ∷ Run 3 0 2 ∷ []

-- a try at which nothing has come yet, in each third round
abbrev pub idle_try : ℕ → List Item
idle_try h = if h % 3 == 0 then Run (h % 4) 0 1 ∷ [] else []

-- round h, from 1: what the process before sent comes to the next one, which takes it and sends it on
abbrev pub drill_round : ℕ → List Item
drill_round h = idle_try h ++ (Deliver ((h - 1) % 4) ((h - 1) / 4 + 1) ∷ Run (h % 4) 0 2 ∷ [])

-- the schedule of so many rounds
abbrev pub drill_schedule : ℕ → Schedule
drill_schedule rounds = record { processes = drill_processes; items = drill_start ++ flat_map drill_round (range_with_len 1 rounds) }
