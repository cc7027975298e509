-- What is so of the files of all groups.
use Rattle.std.specs.Prelude.{◌≡◌, List, Ok}
use Rattle.fri_outside.specs.Outside.{Folder}
use Rattle.proc_replay.specs.Replaying.{Replaying}
use Rattle.log_pairs.specs.Pairs.{Pair, replays_of_pairs}
use Rattle.log_pairs.specs.Valid.{IsGroup}

-- the replays of a group begin
abbrev pub OpensGroups : Type 0
OpensGroups = (folder : Folder) (pairs : List Pair) → IsGroup folder pairs → (start : List Replaying) × (replays_of_pairs folder pairs ≡ Ok start)
