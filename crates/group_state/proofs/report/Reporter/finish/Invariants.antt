use Rattle.std.proofs.Common.{◌≡◌, length}
use Rattle.group_state.specs.inside.Reporting.{IsReportCourse, left_of, reporting_of_course}
use Rattle.group_state.proofs.report.Reporter.finish.Given as goal

abbrev pub invariant-logs : goal.invariant-logs
invariant-logs l =
    IsReportCourse l.course × (((reporting_of_course l.course).lines ≡ l.fn.self.lines) × ((reporting_of_course l.course).counts ≡ l.fn.self.counts))

abbrev pub decreases-logs : goal.decreases-logs
decreases-logs l = length (left_of l.course)
