-- What `record` prints and writes.
use Rattle.std.specs.Prelude.{ℕ, List, [], ◌++◌, Bool, true, false, length, decimal, codes, Option, Some, None, Ok, Err}
use Rattle.std.specs.List.{flat_map}
use Rattle.guest_process.specs.declared.end.End.{End}
use Rattle.group_record.specs.declared.summary.SummaryLine.{SummaryLine}
use Rattle.group_record.specs.Answer.{summary_lines}
use Rattle.group_record.specs.Images.{images_of}
use Rattle.group_record.specs.Logs.{logs_of_steps}
use Rattle.group_record.specs.Run.{GroupStart, RunProgress}
use Rattle.command_run.specs.declared.refusal.Reason.TheVariants as reason
use Rattle.guest_process.specs.Ends.{end_text}
use Rattle.command_run.specs.Outcome.{CommandOutcome, Refuses, CommandWork}

-- how a process stands, and `killed` where it was killed
abbrev pub state_text : Bool → End → List ℕ
state_text true end = codes "killed"
state_text false end = end_text end

abbrev pub process_line : SummaryLine → List ℕ
process_line line = line.name ++ (codes ": " ++ (decimal line.events ++ (codes " events, " ++ (state_text line.killed line.end ++ codes "\n"))))

abbrev pub items_line : ℕ → ℕ → List ℕ
items_line acted idle = codes "items: " ++ (decimal acted ++ (codes " acted, " ++ (decimal idle ++ codes " idle\n")))

-- a line for each process, and the counts of what acted and of what was idle
abbrev pub summary_text : List SummaryLine → ℕ → ℕ → List ℕ
summary_text lines acted idle = flat_map process_line lines ++ items_line acted idle

-- the work of a run that was recorded whole: the logs, and after them the images that were asked for
abbrev pub recorded_work : Bool → GroupStart → RunProgress → CommandWork
recorded_work images group done = record {
  text = summary_text (summary_lines group done.steps 0 group.names) (length done.steps) done.idle;
  writes = logs_of_steps group done.steps ++ images_of images group done;
  diverged = false;
}

-- what was written up to an item for which a log had no room: no image; and nothing was printed
abbrev pub written_before : GroupStart → RunProgress → CommandWork
written_before group done = record { text = []; writes = logs_of_steps group done.steps; diverged = false }

abbrev pub outcome_by_room : Bool → List ℕ → GroupStart → RunProgress → Option ℕ → CommandOutcome
outcome_by_room images schedule_name group done None = Ok (recorded_work images group done)
outcome_by_room images schedule_name group done (Some item) = Err (Refuses schedule_name (reason.LogFull item) (written_before group done))

-- the outcome of the run of a schedule whose file has this name
abbrev pub run_outcome : Bool → List ℕ → GroupStart → RunProgress → CommandOutcome
run_outcome images schedule_name group done = outcome_by_room images schedule_name group done done.full
