-- A recording whose program is killed between two calls of its files.
use Rattle.std.specs.Prelude.{◌≡◌, ℕ, Bool, List, Option, Some}
use Rattle.fri_outside.specs.Outside.{Folder, WhenTold}
use Rattle.command_run.specs.declared.status.Status.{Status}
use Rattle.record_command.specs.Agreement.{IsRecordable, LeavesMoment}
use Rattle.headline.specs.Headline.{ShowsRun}
use Rattle.friday_app.specs.Command.{Command, Record}

-- what is left of it is a moment of its run, as where a write failed, and that moment is shown
pub record LeavesShownMoment (images : Bool) (schedule_name : List ℕ) (before after : Option Folder) (answer : Status) : Type 0 where
  pub moment : WhenTold before (λ folder. LeavesMoment images schedule_name folder after)
  pub shown : WhenTold before (λ folder. WhenTold after (λ left. (r : IsRecordable folder schedule_name) → ShowsRun images r answer left))

-- this holds of every command that records
abbrev pub IsLeftAtMoment : Option Command → Option Folder → Option Folder → Status → Type 0
IsLeftAtMoment command before after answer =
    (images : Bool) (schedule_name : List ℕ) → command ≡ Some (Record images schedule_name) → LeavesShownMoment images schedule_name before after answer
