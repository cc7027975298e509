use Rattle.std.proofs.Common.{◌++◌, ◌+◌, ◌<◌, length, refl, arith}
use Rattle.group_text.specs.Texts.{thread_lines}
use Rattle.group_text.proofs.TextPieces.{lines_more}
use Rattle.group_text.proofs.event.push_lines.Goals as goal

pub loop-t-preserved : goal.loop-t-preserved
loop-t-preserved c =
    let i = c.loop-t.invariant in
    let threads = c.args.process.now.crew.threads in
    let t = c.loop-t.t in
    let within : t < length threads = omega (arith, c.loop-t-test.true, i.end) in
    record {
      written = lines_more c.loop-t.text c.push_thread.new.text (c.args.text.now ++ thread_lines 0 threads) threads t (t + 1) within refl c.in_ok-push_thread.ensures i.written;
      end = i.end;
      runs = i.runs;
    }
