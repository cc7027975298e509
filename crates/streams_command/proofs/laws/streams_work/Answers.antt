use Rattle.std.proofs.Common.{List, Result, Ok, ap}
use Rattle.proc_replay.specs.Replaying.{Replaying}
use Rattle.command_run.specs.Outcome.{CommandStop, and_then}
use Rattle.streams_command.specs.Streams.{work_of_streams}
use Rattle.streams_command.proofs.laws.streams_work.Goals as goal

pub returns : goal.returns
returns c = λ pairs folder h.
    let opened = c.opens_groups.ensures folder pairs h in
    (work_of_streams opened.0, ap (λ (r : Result (List Replaying) CommandStop). and_then r (λ start. Ok (work_of_streams start))) opened.1)
