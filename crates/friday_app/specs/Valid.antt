-- Words, files and an input at which a command does its work. A drill needs no more than its words.
use Rattle.std.specs.Prelude.{ℕ, List, Option, Some, None}
use Rattle.fri_outside.specs.Outside.{Folder}
use Rattle.log_pairs.specs.Valid.{IsGroup}
use Rattle.record_command.specs.Valid.{RecordsApart}
use Rattle.replay_command.specs.Valid.{CanBeReplayed}
use Rattle.debug_command.specs.Valid.{IsSession}
use Rattle.migrate_command.specs.Valid.{IsMigration}
use Rattle.schedule_command.specs.Valid.{CanBeScheduled}
use Rattle.cut_command.specs.Valid.{HasEventOfProcess}
use Rattle.play_command.specs.Valid.{IsPlay}
use Rattle.friday_app.specs.Command.{Command, Cut, Debug, Drill, Migrate, Play, Record, Replay, Schedule, Streams}

abbrev pub IsValidCall : Option Command → Folder → Option (List ℕ) → Type 0
IsValidCall None folder left = ⊥
IsValidCall (Some (Record images schedule_name)) folder left = RecordsApart images folder schedule_name
IsValidCall (Some (Replay images pairs)) folder left = CanBeReplayed images folder pairs
IsValidCall (Some (Debug pairs)) folder left = IsSession folder pairs left
IsValidCall (Some (Drill rounds)) folder left = Unit {0}
IsValidCall (Some (Migrate log_name new_name)) folder left = IsMigration folder log_name
IsValidCall (Some (Schedule pairs)) folder left = CanBeScheduled folder pairs
IsValidCall (Some (Cut process event pairs)) folder left = HasEventOfProcess folder pairs process event
IsValidCall (Some (Streams pairs)) folder left = IsGroup folder pairs
IsValidCall (Some (Play schedule_name)) folder left = IsPlay folder schedule_name left
