-- What the draft of a schedule is.
use Rattle.std.specs.Prelude.{◌≡◌, ◌<◌, ◌≤◌, ℕ, List, length, Option, Some, None}
use Rattle.lib_calls.specs.declared.entry.Entry.{Entry}
use Rattle.group_order.specs.Order.{NodeEvent}
use Rattle.schedule_text.specs.Limits.{most_schedule}
use Rattle.schedule_text.specs.Text.{text_of}
use Rattle.schedule_text.specs.declared.process.ProcessLine.{ProcessLine}
use Rattle.schedule_back.specs.Back.{schedule_of_events}

-- the text of the schedule of these events, or none where it is longer than a schedule may be
abbrev pub IsDraft : List ProcessLine → List (NodeEvent Entry) → Option (List ℕ) → Type 0
IsDraft lines es (Some text) = (text ≡ text_of (schedule_of_events lines es)) × (length text ≤ most_schedule)
IsDraft lines es None = most_schedule < length (text_of (schedule_of_events lines es))
