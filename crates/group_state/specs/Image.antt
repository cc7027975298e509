-- What a process leaves.
use Rattle.std.specs.Prelude.{◌≡◌, ℕ, List, [], ◌∷◌, Option, None, Some}
use Rattle.call_log.specs.declared.head.LogHead.{LogHead}
use Rattle.call_log.specs.Head.{head_of}
use Rattle.call_log.specs.Log.{entries_of}
use Rattle.guest_process.specs.Replay.{last_state}
use Rattle.lib_calls.specs.Traffic.{prints}
use Rattle.proc_replay.specs.Course.{entries_ahead}
use Rattle.proc_replay.specs.Replaying.{Replaying}
use Rattle.group_state.specs.declared.image.Image.{Image}
use Rattle.group_state.specs.Report.{Reporting}

-- the bytes of the memory after all accepted events of a log
abbrev pub memory_of_image : Replaying → List ℕ
memory_of_image r = (last_state r.state (entries_of r.left)).store.memory.bytes

-- what they printed
abbrev pub print_of_image : Replaying → List ℕ
print_of_image r = prints (entries_ahead r)

abbrev pub image_of : Replaying → Image
image_of r = record { memory = memory_of_image r; printed = print_of_image r }

-- the image of the next log was given, if one was left, and what is said of all logs is the same
abbrev pub GivesImage : Reporting → Reporting → Option (LogHead × Image) → Type 0
GivesImage old new None = (old.left ≡ []) × (new ≡ old)
GivesImage old new (Some x) = (r : Replaying) × (old ≡ record new { left = r ∷ new.left }) × ((head_of x.0 ≡ r.head) × (x.1 ≡ image_of r))
