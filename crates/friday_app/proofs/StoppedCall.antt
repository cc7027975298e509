-- What a recording leaves on files on which only the first calls were made.
use Rattle.std.proofs.Common.{◌≡◌, ℕ, Bool, List, Option, Some, subst, sym}
use Rattle.fri_outside.specs.Outside.{Folder}
use Rattle.command_run.specs.declared.status.Status.{Status}
use Rattle.command_run.specs.Run.{Outside}
use Rattle.friday_app.specs.Command.{Command, Record}
use Rattle.friday_app.specs.Promises.{Promises}
use Rattle.friday_app.specs.Run.{CommandRun}
use Rattle.friday_app.specs.Stopped.{IsLeftAtMoment}

left_at_moment : (command : Option Command) (old new : Outside) (answer : Status) → CommandRun command old new answer → IsLeftAtMoment command old.told new.told answer
left_at_moment command old new answer run = λ images name is.
    let promises = subst (λ (k : Option Command). Promises k old new answer) is run.promises in
    record { moment = promises.moment; shown = promises.shown }

-- the same of files that tell what those do on which the call was made
pub left_on_files : (command : Option Command) (old new : Outside) (answer : Status) (before after : Option Folder) → before ≡ old.told → after ≡ new.told
    → CommandRun command old new answer → IsLeftAtMoment command before after answer
left_on_files command old new answer before after first last run =
    subst (λ (t : Option Folder). IsLeftAtMoment command t after answer) (sym first)
    (subst (λ (t : Option Folder). IsLeftAtMoment command old.told t answer) (sym last) (left_at_moment command old new answer run))
