use Rattle.std.proofs.Common.{List}
use Rattle.group_record.specs.Run.{RunStep}
use Rattle.drill_command.specs.inside.Results.{HoldLogs}
use Rattle.drill_command.proofs.LogReplays.{parts_are, replays_are}
use Rattle.drill_command.proofs.replays.begin_all.Goals as goal

pub returns-clause-replayers : goal.returns-clause-replayers
returns-clause-replayers c =
    let r0 = c.in_ok-n0.ensures in
    let r1 = c.in_ok-n1.ensures in
    let r2 = c.in_ok-n2.ensures in
    let r3 = c.in_ok-n3.ensures in
    let steps = c.requires.held.0 in
    let holds = c.requires.held.1 in
    parts_are c.counting.ensures.begun steps c.args.files.now holds r0.0 r1.0 r2.0 r3.0 c.in_ok-n0.n0 c.in_ok-n1.n1 c.in_ok-n2.n2 c.in_ok-n3.n3
    r0.1 r1.1 r2.1 r3.1 (r0.2 steps holds) (r1.2 steps holds) (r2.2 steps holds) (r3.2 steps holds) c.in_ok-vec.field-0.items c.in_ok-vec.ensures.items

pub returns-clause-replays : goal.returns-clause-replays
returns-clause-replays c = λ (steps : List RunStep) (holds : HoldLogs steps c.args.files.now).
    let r0 = c.in_ok-n0.ensures in
    let r1 = c.in_ok-n1.ensures in
    let r2 = c.in_ok-n2.ensures in
    let r3 = c.in_ok-n3.ensures in
    replays_are steps r0.0 r1.0 r2.0 r3.0 c.in_ok-n0.n0 c.in_ok-n1.n1 c.in_ok-n2.n2 c.in_ok-n3.n3
    r0.1 r1.1 r2.1 r3.1 (r0.2 steps holds) (r1.2 steps holds) (r2.2 steps holds) (r3.2 steps holds) c.in_ok-vec.field-0.items c.in_ok-vec.ensures.items
