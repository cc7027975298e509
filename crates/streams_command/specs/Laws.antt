-- What is so of the streams of all groups.
use Rattle.std.specs.Prelude.{◌≡◌, List, Ok}
use Rattle.fri_outside.specs.Outside.{Folder}
use Rattle.command_run.specs.Outcome.{CommandWork}
use Rattle.log_pairs.specs.Pairs.{Pair}
use Rattle.log_pairs.specs.Valid.{IsGroup}
use Rattle.streams_command.specs.Streams.{streams_outcome}

-- the files of a group have an outcome that is work
abbrev pub StreamsWork : Type 0
StreamsWork = (pairs : List Pair) (folder : Folder) → IsGroup folder pairs → (work : CommandWork) × (streams_outcome pairs folder ≡ Ok work)
