-- What `cut` promises beyond what holds of all commands.
use Rattle.std.specs.Prelude.{◌≡◌, ℕ, List}
use Rattle.fri_outside.specs.Outside.{WhenTold}
use Rattle.fri_outside.specs.Several.{AreFirstMade}
use Rattle.command_run.specs.declared.status.Status.{Status}
use Rattle.command_run.specs.declared.status.Status.TheVariants as ends
use Rattle.command_run.specs.Outcome.{writes_of}
use Rattle.command_run.specs.Run.{LeavesInput, Outside}
use Rattle.log_pairs.specs.Pairs.{Pair}
use Rattle.cut_command.specs.Cut.{cut_outcome}
use Rattle.cut_command.specs.Laws.{CutsToPast}

pub record CutPromises (process event : ℕ) (pairs : List Pair) (old new : Outside) (answer : Status) : Type 0 where
  pub input : LeavesInput old new answer
  -- whatever the status, the first of the files are made, each with all its bytes, and the others are as before
  pub whole : WhenTold old.told (λ folder. AreFirstMade (writes_of (cut_outcome process event pairs folder)) old.told new.told)
  -- the logs that are cut: the least closed family that holds the event, of each log its first events, whose replay makes
  -- what the log's replay does
  pub past : answer ≡ ends.Done → WhenTold old.told (CutsToPast process event pairs)
