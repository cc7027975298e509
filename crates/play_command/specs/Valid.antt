-- Files and an input at which `play` does its work.
use Rattle.std.specs.Prelude.{◌≡◌, ℕ, false, List, Option, Some, Ok}
use Rattle.fri_outside.specs.Outside.{Folder}
use Rattle.record_command.specs.Valid.{RecordsWhole}
use Rattle.conversation.specs.Outcome.{is_large_input}
use Rattle.play_command.specs.Outcome.{play_in, play_talker}
use Rattle.play_command.specs.Play.{PlayState}

-- the file's group could be recorded whole, and the input is told, and is not too large
pub record IsPlay (folder : Folder) (schedule_name : List ℕ) (left : Option (List ℕ)) : Type 0 where
  pub recorded : RecordsWhole folder schedule_name
  pub input : List ℕ
  pub told : left ≡ Some input
  pub within : (begun : PlayState) → play_in schedule_name folder ≡ Ok begun → is_large_input (play_talker begun) input ≡ false
