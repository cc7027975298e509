-- The schedule that the answer of the code stands for.
use Rattle.std.specs.Prelude.{◌≡◌, List, Ok}
use Rattle.command_run.specs.declared.refusal.WorkText.{WorkText}
use Rattle.command_run.specs.declared.refusal.WorkText.TheVariants as answered
use Rattle.log_pairs.specs.Pairs.{Loaded, Pair}
use Rattle.proc_replay.specs.Replaying.{Replaying}
use Rattle.schedule_command.specs.Schedule.{prints_text, unless_incomplete}

-- the schedule of these logs was made, and nothing diverged
abbrev pub IsScheduleText : List Pair → List Loaded → List Replaying → WorkText → Type 0
IsScheduleText pairs ls start (answered.Done text) = unless_incomplete pairs ls start ≡ Ok (prints_text text)
IsScheduleText pairs ls start (answered.Diverged text) = ⊥
