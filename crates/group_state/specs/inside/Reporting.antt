-- A report while it is made: what it comes to with the logs that are left.
use Rattle.std.specs.Prelude.{◌≡◌, ℕ, Bool, List, [], ◌∷◌, ◌++◌, All, Option, None, Some, length, map}
use Rattle.std.specs.Vec.Iter.{into_iter_items, into_iter_len}
use Rattle.proc_replay.specs.Course.{entries_ahead}
use Rattle.proc_replay.specs.Replaying.{Replaying}
use Rattle.lib_calls.specs.Traffic.{prints}
use Rattle.group_state.specs.declared.report.ReportCourse.{ReportCourse as Course}
use Rattle.group_state.specs.declared.report.Reporter.TheInside.{Inside}
use Rattle.group_state.specs.Report.{Reporting, all_accepted_events, report_line}
use Rattle.group_state.specs.inside.Tallying.{AreNewEvents, HasTallyRoomFor, counts_of, with_all_accepted}
use Rattle.group_state.specs.inside.Turns.{EndsAtReplay, kept_after}

abbrev pub left_of : Course → List Replaying
left_of c = into_iter_items c.left

-- the lines and counts of the logs so far, and of those that are left
abbrev pub reporting_of_course : Course → Reporting
reporting_of_course c = record {
  left = left_of c;
  lines = c.lines.items ++ map report_line (left_of c);
  counts = counts_of (with_all_accepted c.tally (all_accepted_events (left_of c)));
}

abbrev pub reporting_of : Inside → Reporting
reporting_of r = reporting_of_course r.course

-- the events of the logs that are left can be counted
pub record IsReportCourse (c : Course) : Type 0 where
  pub len : into_iter_len c.left ≡ length (left_of c)
  pub new : AreNewEvents c.tally (all_accepted_events (left_of c))
  pub room : HasTallyRoomFor c.tally (all_accepted_events (left_of c))
  pub fresh : All (λ r. r.state.events ≡ 0) (left_of c)

abbrev pub IsReporter : Inside → Type 0
IsReporter r = IsReportCourse r.course

-- the next log was replayed to its end, if one was left, and with images what its events print came after these bytes
abbrev pub ReplaysNext : Bool → Course → Course → List ℕ → List ℕ → Option Replaying → Type 0
ReplaysNext images old new before after None = (left_of old ≡ []) × (reporting_of_course new ≡ reporting_of_course old)
ReplaysNext images old new before after (Some last) =
    (first : Replaying) × ((reporting_of_course old ≡ record (reporting_of_course new) { left = first ∷ left_of new })
    × ((first.state.events ≡ 0) × (EndsAtReplay first last × (after ≡ kept_after images before (prints (entries_ahead first))))))
