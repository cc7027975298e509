-- What is expected of each command, given the files and the input: its outcome, the files that it may write, those that it reads,
-- and whether it may tell that a log diverged.
use Rattle.std.specs.Prelude.{ℕ, List, [], ◌∷◌, Option, Some, None, option_map, option_and_then, true, false, Err}
use Rattle.fri_outside.specs.Outside.{Folder}
use Rattle.command_run.specs.Outcome.{NotACommand}
use Rattle.command_run.specs.Run.{Expectation, expectation, expected_by_folder}
use Rattle.log_pairs.specs.Pairs.{pair_inputs}
use Rattle.record_command.specs.Expected.{record_inputs, record_outcome}
use Rattle.replay_command.specs.Report.{replay_outcome}
use Rattle.debug_command.specs.Debug.{debug_outcome}
use Rattle.drill_command.specs.Drill.{drill_outcome}
use Rattle.migrate_command.specs.Migrate.{migrate_outcome}
use Rattle.schedule_command.specs.Schedule.{schedule_outcome}
use Rattle.cut_command.specs.Cut.{cut_outcome}
use Rattle.streams_command.specs.Streams.{streams_outcome}
use Rattle.play_command.specs.Outcome.{play_outcome}
use Rattle.friday_app.specs.Command.{Command, Cut, Debug, Drill, Migrate, Play, Record, Replay, Schedule, Streams}

-- The outcome is known as far as the folder and the input tell what it depends on. Only `replay` answers whether a log diverges
abbrev pub expected : Option Command → Option Folder → Option (List ℕ) → Expectation
expected None told left = expectation (Some (Err NotACommand)) (λ folder. []) (λ folder. []) false
expected (Some (Record images schedule_name)) told left = expected_by_folder (record_outcome images schedule_name) told (record_inputs schedule_name) false
expected (Some (Replay images pairs)) told left = expected_by_folder (replay_outcome images pairs) told (λ folder. pair_inputs pairs) true
expected (Some (Debug pairs)) told left = expectation (option_and_then (debug_outcome pairs left) told) (λ folder. []) (λ folder. pair_inputs pairs) false
expected (Some (Drill rounds)) told left = expectation (Some (drill_outcome rounds)) (λ folder. []) (λ folder. []) false
expected (Some (Migrate log_name new_name)) told left = expected_by_folder (migrate_outcome log_name new_name) told (λ folder. log_name ∷ []) false
expected (Some (Schedule pairs)) told left = expectation (option_map (schedule_outcome pairs) told) (λ folder. []) (λ folder. pair_inputs pairs) false
expected (Some (Cut process event pairs)) told left = expected_by_folder (cut_outcome process event pairs) told (λ folder. pair_inputs pairs) false
expected (Some (Streams pairs)) told left = expectation (option_map (streams_outcome pairs) told) (λ folder. []) (λ folder. pair_inputs pairs) false
expected (Some (Play schedule_name)) told left = expectation (option_and_then (play_outcome schedule_name left) told) (λ folder. []) (record_inputs schedule_name) false
