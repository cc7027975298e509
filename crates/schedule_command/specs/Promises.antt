-- What `schedule` promises beyond what holds of all commands.
use Rattle.std.specs.Prelude.{◌≡◌, ◌++◌, ℕ, List}
use Rattle.fri_outside.specs.Outside.{Folder, WhenTold}
use Rattle.command_run.specs.declared.status.Status.{Status}
use Rattle.command_run.specs.declared.status.Status.TheVariants as ends
use Rattle.command_run.specs.Run.{LeavesInput, Outside}
use Rattle.log_pairs.specs.Pairs.{Pair}
use Rattle.schedule_command.specs.Laws.{RecordsToLogs}

-- the schedule that was printed, after what had been printed, records to the logs that it was made of
abbrev pub PrintsConverse : List Pair → Folder → List ℕ → List ℕ → Type 0
PrintsConverse pairs folder before after = (text : List ℕ) × (after ≡ before ++ text) × RecordsToLogs pairs folder text

pub record SchedulePromises (pairs : List Pair) (old new : Outside) (answer : Status) : Type 0 where
  pub input : LeavesInput old new answer
  -- the schedule that is printed of a whole group's logs: wherever a file holds it and the modules stand as they stood,
  -- recording it comes to work in which no item is idle, and leaves logs with the same heads but for the version and the same
  -- entries, byte for byte where the logs were of the version of recordings; and the images of that run where they are asked for
  pub converse : answer ≡ ends.Done → WhenTold old.told (λ folder. WhenTold old.taken (λ before. WhenTold new.taken (PrintsConverse pairs folder before)))
