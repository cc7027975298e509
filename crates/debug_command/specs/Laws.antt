-- What is so of all sessions.
use Rattle.std.specs.Prelude.{◌≡◌, ℕ, List, Option, Some, Ok}
use Rattle.fri_outside.specs.Outside.{Folder}
use Rattle.command_run.specs.Outcome.{CommandWork}
use Rattle.proc_replay.specs.Replaying.{Replaying}
use Rattle.friday_shell.specs.SameGroup.{SameGroup}
use Rattle.log_pairs.specs.Pairs.{Pair}
use Rattle.debug_command.specs.Debug.{debug_outcome}
use Rattle.debug_command.specs.Session.{session_outcome}
use Rattle.debug_command.specs.Valid.{IsSession}

-- a group and an input within the limit have an outcome that is work
abbrev pub SessionsWork : Type 0
SessionsWork = (pairs : List Pair) (folder : Folder) (left : Option (List ℕ)) → IsSession folder pairs left
    → (work : CommandWork) × (debug_outcome pairs left folder ≡ Some (Ok work))

-- Sessions over groups with the same names, order of events and states come to the same, whatever is typed.
abbrev pub SessionsOfOneGroup : Type 0
SessionsOfOneGroup = (a b : List Replaying) → SameGroup a b → (input : List ℕ) → session_outcome a input ≡ session_outcome b input
