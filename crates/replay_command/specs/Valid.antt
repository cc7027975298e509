-- Files at which `replay` does its work.
use Rattle.std.specs.Prelude.{◌≡◌, Bool, List, map, Ok}
use Rattle.fri_outside.specs.Outside.{Folder}
use Rattle.proc_replay.specs.Replaying.{Replaying}
use Rattle.command_run.specs.Apart.{AreApart}
use Rattle.log_pairs.specs.Pairs.{Pair, names_of_pairs, replays_of_pairs}
use Rattle.log_pairs.specs.Valid.{IsGroup}
use Rattle.replay_command.specs.Report.{replay_work}

-- the pairs are modules and logs of a group, and no file of theirs has the name of an image that is asked for
pub record CanBeReplayed (images : Bool) (folder : Folder) (pairs : List Pair) : Type 0 where
  pub group : IsGroup folder pairs
  pub apart : (start : List Replaying) → replays_of_pairs folder pairs ≡ Ok start → AreApart (names_of_pairs pairs) (map (λ file. file.0) (replay_work images start).writes)
