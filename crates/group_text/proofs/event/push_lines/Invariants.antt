use Rattle.std.proofs.Common.{◌≡◌, ◌++◌, drop, length, true}
use Rattle.guest_process.specs.State.{is_running}
use Rattle.group_text.specs.Texts.{thread_lines}
use Rattle.group_text.proofs.event.push_lines.Given as goal

-- what is written, with the lines of the threads still to come, is the whole
abbrev pub invariant-loop-t : goal.invariant-loop-t
invariant-loop-t l = record {
  written : l.text ++ thread_lines l.t (drop l.t l.process.crew.threads) ≡ l.fn.text ++ thread_lines 0 l.process.crew.threads;
  end : l.t-end ≡ length l.process.crew.threads;
  runs : is_running l.process ≡ true;
}
