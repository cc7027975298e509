-- Files at which `cut` does its work.
use Rattle.std.specs.Prelude.{◌≡◌, ◌≤◌, ℕ, List, length, map, slice_get, Some, Ok}
use Rattle.fri_outside.specs.Outside.{Folder}
use Rattle.proc_replay.specs.Course.{entries_ahead}
use Rattle.proc_replay.specs.Replaying.{Replaying}
use Rattle.command_run.specs.Apart.{AreApart}
use Rattle.log_pairs.specs.Pairs.{Pair, names_of_pairs, replays_of_pairs}
use Rattle.log_pairs.specs.Valid.{IsGroup}
use Rattle.cut_command.specs.Cut.{cut_name, node_of_process}

-- a log is of the process, and so many of its events are accepted
pub record IsEventOfLog (process event : ℕ) (start : List Replaying) : Type 0 where
  pub node : ℕ
  pub at : node_of_process process start ≡ Some node
  pub replay : Replaying
  pub is : slice_get start node ≡ Some replay
  pub within : event ≤ length (entries_ahead replay)

-- the pairs are modules and logs of a group, the process has the event, and no file of the pairs has the name of one that is made
pub record HasEventOfProcess (folder : Folder) (pairs : List Pair) (process event : ℕ) : Type 0 where
  pub group : IsGroup folder pairs
  pub event_is : (start : List Replaying) → replays_of_pairs folder pairs ≡ Ok start → IsEventOfLog process event start
  pub apart : (start : List Replaying) → replays_of_pairs folder pairs ≡ Ok start → AreApart (names_of_pairs pairs) (map (λ r. cut_name r.head.name) start)
