use Rattle.group_state.proofs.LogReports.{course_more, next_fresh, next_new, next_room, reporting_more}
use Rattle.group_state.proofs.report.ReportCourse.replay_next.Goals as goal

pub replay_log-requires-clause-new : goal.replay_log-requires-clause-new
replay_log-requires-clause-new c = next_new c.args.self.now c.in-Some.replayer _ c.requires c.in-Some.ensures.cases.0

pub replay_log-requires-clause-room : goal.replay_log-requires-clause-room
replay_log-requires-clause-room c = next_room c.args.self.now c.in-Some.replayer _ c.requires c.in-Some.ensures.cases.0

pub line_of-requires : goal.line_of-requires
line_of-requires c = (c.in-Some.replayer, (next_fresh c.args.self.now c.in-Some.replayer _ c.requires c.in-Some.ensures.cases.0, c.in_ok-last.ensures.ends))

pub returns-clause-sound : goal.returns-clause-sound
returns-clause-sound c =
    course_more c.args.self.now _ c.in-Some.replayer c.requires c.in-Some.ensures.cases.0 c.in_ok-last.ensures.tally c.in-Some.ensures.cases.1

pub returns-clause-next : goal.returns-clause-next
returns-clause-next c =
    let fresh = next_fresh c.args.self.now c.in-Some.replayer _ c.requires c.in-Some.ensures.cases.0 in
    let said = c.in_ok-line.ensures c.in-Some.replayer fresh c.in_ok-last.ensures.ends in (
      c.in-Some.replayer,
      (reporting_more c.args.self.now (record { left = c.next.new.self; tally = c.replay_log.new.tally; lines = c.push.new.self }) c.in-Some.replayer c.requires c.in-Some.ensures.cases.0 c.in_ok-last.ensures.tally c.in_ok-line.line c.in_ok-push.ensures.items said, (fresh, (c.in_ok-last.ensures.ends, c.in_ok-last.ensures.out))),
    )
