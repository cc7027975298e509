-- What is said of a group's logs.
use Rattle.std.specs.Prelude.{◌≡◌, List, map}
use Rattle.std.specs.List.{flat_map}
use Rattle.call_log.specs.Log.{entries_of, rest_of_log}
use Rattle.guest_process.specs.declared.verdict.Verdict.{Verdict}
use Rattle.guest_process.specs.Replay.{accepted, last_state, verdict}
use Rattle.proc_replay.specs.Course.{entries_ahead}
use Rattle.proc_replay.specs.Replaying.{Replaying}
use Rattle.group_state.specs.declared.report.Report.{Report}
use Rattle.group_state.specs.declared.report.ReportLine.{ReportLine}
use Rattle.group_state.specs.declared.tally.GroupCounts.{GroupCounts}
use Rattle.group_state.specs.Place.{group_count}
use Rattle.group_state.specs.Tally.{AcceptedEvent, of_process, tally_of_events}

-- the verdict on a log, whatever the other logs hold
abbrev pub verdict_on : Replaying → Verdict
verdict_on r = verdict r.state (entries_of r.left) (rest_of_log r.left)

-- a log to its first entry that is not legal: no other log has a part in it
abbrev pub report_line : Replaying → ReportLine
report_line r =
    let es = entries_of r.left in
    record {
      name = r.head.name;
      events = accepted r.state es;
      end = (last_state r.state es).end;
      verdict = verdict_on r;
    }

-- the accepted events of a log, and of all logs
abbrev pub accepted_in : Replaying → List AcceptedEvent
accepted_in r = of_process r.head.process (entries_ahead r)

abbrev pub all_accepted_events : List Replaying → List AcceptedEvent
all_accepted_events start = flat_map accepted_in start

abbrev pub counts_in : Report → GroupCounts
counts_in report = record { sends = report.sends; receives = report.receives; unmatched = report.unmatched; untagged = report.untagged }

-- A report that is made log after log: the replays of the logs that are left, and the lines and counts of all logs.
pub record Reporting : Type 0 where
  pub left : List Replaying
  pub lines : List ReportLine
  pub counts : GroupCounts

-- a line for each log, and the counts of all accepted events
abbrev pub reporting : List Replaying → Reporting
reporting start = record { left = start; lines = map report_line start; counts = tally_of_events (group_count start) (all_accepted_events start) }

-- the report says that
pub record IsReport (made : Reporting) (report : Report) : Type 0 where
  pub lines : report.lines.items ≡ made.lines
  pub counts : counts_in report ≡ made.counts
