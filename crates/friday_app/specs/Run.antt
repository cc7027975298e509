-- What the top call promises of all commands: each field is one promise, and has its name here and nowhere else. What a command
-- promises of its own is in `Promises`.
use Rattle.std.specs.Prelude.{◌≡◌, ◌⊎◌, ℕ, IsTrue, List, Option, Some, None, Ok}
use Rattle.fri_outside.specs.Outside.{Folder, WhenTold}
use Rattle.command_run.specs.declared.status.Status.{Status}
use Rattle.command_run.specs.declared.status.Status.TheVariants as ends
use Rattle.command_run.specs.Asked.{AsksInputs}
use Rattle.command_run.specs.Call.{IsAnswerStatus}
use Rattle.command_run.specs.Outcome.{CommandWork, outcome_status}
use Rattle.command_run.specs.Run.{CallEnds, NoFault, Outside}
use Rattle.friday_app.specs.Command.{Command}
use Rattle.friday_app.specs.Expected.{expected}
use Rattle.friday_app.specs.Promises.{Promises}
use Rattle.friday_app.specs.Valid.{IsValidCall}

-- Usage comes exactly where the words name no command, but for a fault or want of memory in its place
pub record IsExactUsage (command : Option Command) (answer : Status) : Type 0 where
  pub only : answer ≡ ends.Usage → command ≡ None
  pub always : command ≡ None → IsAnswerStatus answer → answer ≡ ends.Usage

-- a command ran from one state of the outside to another, and gave this status
pub record CommandRun (command : Option Command) (old new : Outside) (answer : Status) : Type 0 where
  -- status, text, files, faults and their causes
  pub call : CallEnds (expected command old.told old.hearing.left).outcome (expected command old.told old.hearing.left).written old new answer
  pub usage : IsExactUsage command answer
  -- the files that were asked for are the first of its inputs, in their order, and all of them if its work was done
  pub asks : WhenTold old.told (λ folder. AsksInputs ((expected command old.told old.hearing.left).inputs folder) old.counts new.counts answer)
  pub diverged : answer ≡ ends.Diverged → IsTrue (expected command old.told old.hearing.left).may_diverge
  pub promises : Promises command old new answer

-- the command has work to do, and the status is that of the work, or want of memory
pub record CompletesWork (command : Option Command) (told : Option Folder) (left : Option (List ℕ)) (answer : Status) : Type 0 where
  pub work : CommandWork
  pub is_expected : (expected command told left).outcome ≡ Some (Ok work)
  pub status : (answer ≡ outcome_status (Ok work)) ⊎ (answer ≡ ends.NoMemory)

-- with valid words, files and input, and no fault, the work is done, unless memory runs out
abbrev pub DoesValidWork : Option Command → Outside → Outside → Status → Type 0
DoesValidWork command old new answer =
    WhenTold old.told (λ folder. IsValidCall command folder old.hearing.left → NoFault old new → CompletesWork command old.told old.hearing.left answer)
