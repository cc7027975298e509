-- What each command promises beyond what holds of all.
use Rattle.std.specs.Prelude.{Option, Some, None}
use Rattle.command_run.specs.declared.status.Status.{Status}
use Rattle.command_run.specs.Run.{LeavesInput, LeavesWholeFiles, Outside}
use Rattle.headline.specs.Promises.{RecordPromises}
use Rattle.debug_command.specs.Run.{DebugPromises}
use Rattle.migrate_command.specs.Migrate.{migrate_outcome}
use Rattle.replay_command.specs.Report.{replay_outcome}
use Rattle.schedule_command.specs.Promises.{SchedulePromises}
use Rattle.cut_command.specs.Promises.{CutPromises}
use Rattle.play_command.specs.Run.{PlayPromises}
use Rattle.friday_app.specs.Command.{Command, Cut, Debug, Drill, Migrate, Play, Record, Replay, Schedule, Streams}

-- a record of the command's own crate; of a command that has none, that it reads no input, and that the files which it makes
-- are whole
abbrev pub Promises : Option Command → Outside → Outside → Status → Type 0
Promises None old new answer = LeavesInput old new answer
Promises (Some (Record images schedule_name)) old new answer = RecordPromises images schedule_name old new answer
Promises (Some (Replay images pairs)) old new answer = LeavesWholeFiles (replay_outcome images pairs) old new answer
Promises (Some (Debug pairs)) old new answer = DebugPromises pairs old new answer
Promises (Some (Drill rounds)) old new answer = LeavesInput old new answer
Promises (Some (Migrate log_name new_name)) old new answer = LeavesWholeFiles (migrate_outcome log_name new_name) old new answer
Promises (Some (Schedule pairs)) old new answer = SchedulePromises pairs old new answer
Promises (Some (Cut process event pairs)) old new answer = CutPromises process event pairs old new answer
Promises (Some (Streams pairs)) old new answer = LeavesInput old new answer
Promises (Some (Play schedule_name)) old new answer = PlayPromises schedule_name old new answer
