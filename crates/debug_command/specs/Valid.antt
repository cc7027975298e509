-- Files and an input at which `debug` does its work.
use Rattle.std.specs.Prelude.{◌≡◌, ℕ, false, List, Option, Some, Ok}
use Rattle.fri_outside.specs.Outside.{Folder}
use Rattle.proc_replay.specs.Replaying.{Replaying}
use Rattle.log_pairs.specs.Pairs.{Pair, replays_of_pairs}
use Rattle.log_pairs.specs.Valid.{IsGroup}
use Rattle.conversation.specs.Outcome.{is_large_input}
use Rattle.debug_command.specs.Session.{shell_talker}

-- the pairs are those of a group, and the input is told, and is not too large
pub record IsSession (folder : Folder) (pairs : List Pair) (left : Option (List ℕ)) : Type 0 where
  pub group : IsGroup folder pairs
  pub input : List ℕ
  pub told : left ≡ Some input
  pub within : (start : List Replaying) → replays_of_pairs folder pairs ≡ Ok start → is_large_input (shell_talker start) input ≡ false
