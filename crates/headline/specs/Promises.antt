-- What `record` promises beyond what holds of all commands. It stands here, as `replay` and `debug` show what a recording leaves.
use Rattle.std.specs.Prelude.{ℕ, Bool, List}
use Rattle.fri_outside.specs.Outside.{WhenTold}
use Rattle.command_run.specs.declared.status.Status.{Status}
use Rattle.command_run.specs.Run.{LeavesInput, Outside}
use Rattle.record_command.specs.Agreement.{AgreesWithRun, IsRecordable, LeavesMoment}
use Rattle.headline.specs.Headline.{ShowsRun}

pub record RecordPromises (images : Bool) (schedule_name : List ℕ) (old new : Outside) (answer : Status) : Type 0 where
  pub input : LeavesInput old new answer
  -- the logs of the run, also of one that was stopped, hold its events: replay accepts each, and makes the recorded states of
  -- them. So it is where a log was full, too. Each datagram that was taken came from outside or is one that was sent
  pub recorded : WhenTold old.told (AgreesWithRun schedule_name)
  -- wherever a recording was stopped, its logs are those of a moment of its run, but after one of them a first part
  -- of the next entry may stand; or the logs hold a first part of their heads, or are not made yet; or the whole logs
  -- stand, and after them the first ones of the images, each of them whole
  pub moment : WhenTold old.told (λ before. LeavesMoment images schedule_name before new.told)
  -- those logs and the modules, and these alone, make `replay` and `debug` show the recorded calls, replies and memories: in
  -- every folder, under any names, for some or all of the processes, in any order. After an answer that is the whole run, unless
  -- the schedule was refused since its own file would be made; and elsewhere a moment of it, unless the recording was stopped in the heads
  pub shown : WhenTold old.told (λ before. WhenTold new.told (λ after. (r : IsRecordable before schedule_name) → ShowsRun images r answer after))
