-- Files that are logs.
use Rattle.std.specs.Prelude.{ℕ, List, ◌++◌}
use Rattle.fri_outside.specs.Outside.{Folder}
use Rattle.call_log.specs.Head.{Head, IsHead, head_bytes}
use Rattle.call_log.specs.Limits.{most_log}
use Rattle.command_run.specs.Valid.{IsFileWithin}

-- a file is a log, whatever is after its head
pub record IsLogFile (folder : Folder) (name : List ℕ) : Type 0 where
  pub head : Head
  pub in_range : IsHead head
  pub left : List ℕ
  pub stands : IsFileWithin folder name most_log (head_bytes head ++ left)
