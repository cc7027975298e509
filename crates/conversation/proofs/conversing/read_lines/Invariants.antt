use Rattle.std.proofs.Common.{◌≡◌, ◌-◌, ◌≤◌}
use Rattle.conversation.specs.Conversing.{terminal_at}
use Rattle.conversation.specs.Limits.{most_input}
use Rattle.conversation.specs.inside.Reader.{session_reader_of}
use Rattle.conversation.proofs.WholeSessions.{ListensFrom}
use Rattle.conversation.proofs.conversing.read_lines.Given as goal

abbrev pub invariant-hearing : goal.invariant-hearing
invariant-hearing g l = record {
  within : l.reader.count ≤ most_input;
  stands : ListensFrom g.S.LineSession.stands g.S.LineSession.answer (terminal_at g.T.Sink.hearing g.T.Sink.taken g.T.Sink.faults l.fn.io) (terminal_at g.T.Sink.hearing g.T.Sink.taken g.T.Sink.faults l.io) (session_reader_of l.fn.reader) (session_reader_of l.reader);
  counted : g.T.Sink.faults l.io ≡ g.T.Sink.faults l.fn.io;
  reads : (g.T.Sink.hearing l.io).faults ≡ (g.T.Sink.hearing l.fn.io).faults;
}

abbrev pub decreases-hearing : goal.decreases-hearing
decreases-hearing g l = most_input - l.reader.count
