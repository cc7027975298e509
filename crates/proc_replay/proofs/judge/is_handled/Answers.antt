use Rattle.std.proofs.Common.{◌∙◌, sym}
use Rattle.lib_calls.specs.Answer.{answer_of}
use Rattle.lib_calls.specs.Entry.{entry_of}
use Rattle.proc_replay.proofs.JudgeTests.{handled}
use Rattle.proc_replay.proofs.judge.is_handled.Goals as goal

pub returns-then-entry-le-MOST_SIGNAL : goal.returns-then-entry-le-MOST_SIGNAL
returns-then-entry-le-MOST_SIGNAL c =
    let e = entry_of c.args.entry.now in
    handled c.args.process.now e.thread c.args.call.now (answer_of e) e.signal _ c.requires c.if-entry-eq0.false (sym c.ends_process.ensures ∙ c.if-not-ends_process.true) c.if-entry-le-MOST_SIGNAL.true
    (c.handles_after.ensures (answer_of e))
