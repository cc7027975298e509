-- The texts of the code's answer: each records to the logs again.
use Rattle.std.specs.Prelude.{List}
use Rattle.fri_outside.specs.Outside.{Folder}
use Rattle.command_run.specs.declared.refusal.WorkText.{WorkText}
use Rattle.command_run.specs.declared.refusal.WorkText.TheVariants as answered
use Rattle.log_pairs.specs.Pairs.{Pair}
use Rattle.schedule_command.specs.Laws.{RecordsToLogs}

-- what is printed records to the logs again
abbrev pub AnswerRecordsBack : List Pair → Folder → WorkText → Type 0
AnswerRecordsBack pairs folder (answered.Done text) = RecordsToLogs pairs folder text
AnswerRecordsBack pairs folder (answered.Diverged text) = RecordsToLogs pairs folder text
