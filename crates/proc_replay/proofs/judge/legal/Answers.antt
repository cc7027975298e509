use Rattle.std.proofs.Common.{◌∙◌, sym}
use Rattle.lib_calls.specs.Entry.{entry_of}
use Rattle.proc_replay.proofs.JudgeTests.{judged}
use Rattle.proc_replay.proofs.judge.legal.Goals as goal

pub returns-in-Some : goal.returns-in-Some
returns-in-Some c = c.judge.ensures ∙ sym (judged c.args.process.now (entry_of c.args.entry.now) c.in-Some.call.now (sym c.in-Some.ensures))
