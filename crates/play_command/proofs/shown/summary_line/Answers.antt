use Rattle.play_command.proofs.shown.summary_line.Goals as goal

pub returns : goal.returns
returns c = λ group steps lives.
    let line = c.live_groups.ensures.summary group steps c.args.live.now lives c.args.p c.process-process.result.now c.process-process.ensures.state c.args.name.now in
    let killed = c.is_killed.ensures group steps lives in
    cc (c.in_ok-from_slice.ensures, c.events.ensures.count, c.end.ensures)
