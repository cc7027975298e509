-- What a run of `play` says, from one state of the outside to another.
use Rattle.std.specs.Prelude.{ℕ, List}
use Rattle.fri_outside.specs.Outside.{WhenTold}
use Rattle.command_run.specs.declared.status.Status.{Status}
use Rattle.command_run.specs.Run.{Outside}
use Rattle.conversation.specs.Opening.{OpenedPromises, OpenedRun}
use Rattle.play_command.specs.Laws.{RecordsAsPlayed}
use Rattle.play_command.specs.Outcome.{play_opener}

-- what it promises over this schedule file beyond what holds of all commands
pub record PlayPromises (name : List ℕ) (old new : Outside) (answer : Status) : Type 0 where
  -- its input is read by turns, and no further than it must be
  pub session : OpenedPromises (play_opener name) old new answer
  -- what was played is recorded: at each moment `record`, of a file that spells the schedule that was played so far, comes to the
  -- run that was played. So what its logs show is what was seen
  pub played : WhenTold old.told (RecordsAsPlayed name)

-- it ran over this schedule file. It makes no file
abbrev pub PlayRun : List ℕ → Outside → Outside → Status → Type 0
PlayRun name old new answer = OpenedRun (play_opener name) old new answer
