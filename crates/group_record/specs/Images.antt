-- The images of a group's processes: what each has in its memory, and what it printed.
use Rattle.std.specs.Prelude.{ℕ, suc, Bool, ◌&&◌, is_none, List, [], ◌∷◌, ◌++◌, Option, Some, None, if◌then◌else◌}
use Rattle.lib_calls.specs.Traffic.{prints}
use Rattle.guest_process.specs.State.{State}
use Rattle.process_files.specs.Images.{image_files}
use Rattle.group_record.specs.Run.{GroupStart, RunProgress, RunStep, entries_of_steps, process_after}

-- ---- one process

-- the bytes of the memory in a state
abbrev pub memory_of_process : Option State → List ℕ
memory_of_process None = []
memory_of_process (Some S) = S.store.memory.bytes

-- ---- all processes

-- the files of the processes from p on, which have these names, after some steps
abbrev pub images_from : GroupStart → List RunStep → ℕ → List (List ℕ) → List (List ℕ × List ℕ)
images_from group steps p [] = []
images_from group steps p (name ∷ names) =
    image_files name (memory_of_process (process_after group steps p)) (prints (entries_of_steps steps p)) ++ images_from group steps (suc p) names

abbrev pub images : GroupStart → List RunStep → List (List ℕ × List ℕ)
images group steps = images_from group steps 0 group.names

-- the images that a recording leaves: none where they were not asked for, or where a log was full
abbrev pub images_of : Bool → GroupStart → RunProgress → List (List ℕ × List ℕ)
images_of asked group done = if asked && is_none done.full then images group done.steps else []
