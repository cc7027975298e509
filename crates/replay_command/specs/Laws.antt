-- What is so of all replays.
use Rattle.std.specs.Prelude.{◌≡◌, Bool, List, Ok}
use Rattle.fri_outside.specs.Outside.{Folder}
use Rattle.command_run.specs.Outcome.{CommandWork}
use Rattle.log_pairs.specs.Pairs.{Pair}
use Rattle.replay_command.specs.Report.{replay_outcome}
use Rattle.replay_command.specs.Valid.{CanBeReplayed}

-- the modules and logs of a group have an outcome that is work, unless an image would be made in the place of one of them
abbrev pub ReplaysWork : Type 0
ReplaysWork = (images : Bool) (pairs : List Pair) (folder : Folder) → CanBeReplayed images folder pairs
    → (work : CommandWork) × (replay_outcome images pairs folder ≡ Ok work)
