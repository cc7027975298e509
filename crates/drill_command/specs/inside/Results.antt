-- The results of the parts of the drill.
use Rattle.std.specs.Prelude.{◌≡◌, ℕ, ◌<◌, List, length, Some}
use Rattle.std.specs.FinMap.{get}
use Rattle.fri_outside.specs.Memory.{FilesInMemory}
use Rattle.proc_replay.specs.Replaying.{Replaying}
use Rattle.group_state.specs.Place.{events_of_replays}
use Rattle.group_record.specs.Logs.{TellsEvents, log_name}
use Rattle.group_record.specs.Run.{RunStep, log_of, name_of_process}
use Rattle.shell_points.specs.Firing.{value_at_position}
use Rattle.drill_command.specs.declared.recording.Recording.{Recording}
use Rattle.drill_command.specs.declared.watching.Watched.{Watched}
use Rattle.drill_command.specs.Drill.{drill_group, drill_run, drill_watch, firing_count}

-- ---- the recording

-- the files are the group's logs after some steps, and each tells the events of its process
pub record HoldLogs (steps : List RunStep) (files : FilesInMemory) : Type 0 where
  pub logs : (p : ℕ) → p < 4 → get files.folder (log_name (name_of_process drill_group p)) ≡ Some (log_of drill_group steps p)
  pub tells : (p : ℕ) → p < 4 → TellsEvents drill_group steps p

-- all rounds were recorded
pub record HasAllRounds (rounds : ℕ) (r : Recording) : Type 0 where
  pub idle : r.idle ≡ (drill_run rounds).idle
  pub logs : HoldLogs (drill_run rounds).steps r.files

-- ---- the walk

-- all positions were walked
pub record IsWatchedDrill (start : List Replaying) (w : Watched) : Type 0 where
  pub walked : w.events ≡ length (events_of_replays start)
  pub firings : w.firings ≡ firing_count start
  pub last : w.last ≡ value_at_position start drill_watch (length (events_of_replays start))
