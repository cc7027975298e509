-- What is so of all cuts.
use Rattle.std.specs.Prelude.{◌≡◌, ℕ, List, length, slice_get, Some, Ok}
use Rattle.fri_outside.specs.Outside.{Folder}
use Rattle.proc_replay.specs.Replaying.{Replaying}
use Rattle.command_run.specs.Outcome.{CommandWork}
use Rattle.log_pairs.specs.Pairs.{Pair, replays_of_pairs}
use Rattle.causal_cut.specs.Laws.{IsFront, IsLeastPast}
use Rattle.cut_command.specs.Cut.{cut_name, cut_outcome, log_front_of, node_of_process}
use Rattle.cut_command.specs.Valid.{HasEventOfProcess}

-- Of each log of a group a file is made, of the least closed family that holds the event: it has the first events of its
-- log, of which its replay makes what the log's replay does.
pub record IsCutLog (process event : ℕ) (start : List Replaying) (work : CommandWork) : Type 0 where
  pub node : ℕ
  pub at : node_of_process process start ≡ Some node
  pub kept : List ℕ
  pub least : IsLeastPast start node event kept
  pub count : length work.writes ≡ length start
  pub files : (i n : ℕ) (r : Replaying) → slice_get start i ≡ Some r → slice_get kept i ≡ Some n
      → (slice_get work.writes i ≡ Some (cut_name r.head.name, log_front_of r n)) × IsFront r n (log_front_of r n)

-- so are the files of these pairs cut
pub record CutsToPast (process event : ℕ) (pairs : List Pair) (folder : Folder) : Type 0 where
  pub start : List Replaying
  pub opened : replays_of_pairs folder pairs ≡ Ok start
  pub work : CommandWork
  pub is : cut_outcome process event pairs folder ≡ Ok work
  pub cut : IsCutLog process event start work

-- the files of a group whose process has the event have an outcome that is work
abbrev pub CutsWork : Type 0
CutsWork = (process event : ℕ) (pairs : List Pair) (folder : Folder) → HasEventOfProcess folder pairs process event → (work : CommandWork) × (cut_outcome process event pairs folder ≡ Ok work)
