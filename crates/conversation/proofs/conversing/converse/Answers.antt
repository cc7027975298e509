use Rattle.std.proofs.Common.{◌∙◌, ap}
use Rattle.command_run.specs.Call.{failed_says_after}
use Rattle.conversation.specs.Conversing.{terminal_at}
use Rattle.conversation.specs.inside.Reader.{session_begun}
use Rattle.conversation.proofs.SessionEnds.{ends_done, ends_large, ends_memory, ends_read, ends_write}
use Rattle.conversation.proofs.conversing.converse.Goals as goal

pub returns-in-Ok : goal.returns-in-Ok
returns-in-Ok g c =
    let terminal = terminal_at g.T.Sink.hearing g.T.Sink.taken g.T.Sink.faults in
    ends_done g.S.LineSession.stands g.S.LineSession.answer (session_begun c.args.session c.args.opening) (terminal c.args.io.now) (terminal c.run_session.new.io) c.in-Ok.ensures.said c.in-Ok.ensures.reads c.in-Ok.ensures.counted

pub returns-in-Err-Done : goal.returns-in-Err-Done
returns-in-Err-Done g c =
    let terminal = terminal_at g.T.Sink.hearing g.T.Sink.taken g.T.Sink.faults in
    let e = rw c.in-Err-Done.field-0-is at c.in-Err-Done.ensures in
    ends_done g.S.LineSession.stands g.S.LineSession.answer (session_begun c.args.session c.args.opening) (terminal c.args.io.now) (terminal c.run_session.new.io) e.said e.reads e.counted

pub returns-in-Err-TooLarge : goal.returns-in-Err-TooLarge
returns-in-Err-TooLarge g c =
    let terminal = terminal_at g.T.Sink.hearing g.T.Sink.taken g.T.Sink.faults in
    let e = rw c.in-Err-TooLarge.field-0-is at c.in-Err-TooLarge.ensures in
    let s = c.say_refused.ensures in
    ends_large g.S.LineSession.stands g.S.LineSession.answer (session_begun c.args.session c.args.opening) (terminal c.args.io.now) (terminal c.say_refused.new.out) (terminal c.run_session.new.io) c.say_refused.result e.said s.heard e.reads s.status s.text s.read_fault
    (s.counted ∙ ap (λ n. failed_says_after n c.say_refused.result) e.counted)

pub returns-in-Err-ReadFault : goal.returns-in-Err-ReadFault
returns-in-Err-ReadFault g c =
    let terminal = terminal_at g.T.Sink.hearing g.T.Sink.taken g.T.Sink.faults in
    let e = rw c.in-Err-ReadFault.field-0-is at c.in-Err-ReadFault.ensures in
    ends_read g.S.LineSession.stands g.S.LineSession.answer (session_begun c.args.session c.args.opening) (terminal c.args.io.now) (terminal c.run_session.new.io) e.said e.reads e.counted

pub returns-in-Err-WriteFault : goal.returns-in-Err-WriteFault
returns-in-Err-WriteFault g c =
    let terminal = terminal_at g.T.Sink.hearing g.T.Sink.taken g.T.Sink.faults in
    let e = rw c.in-Err-WriteFault.field-0-is at c.in-Err-WriteFault.ensures in
    ends_write g.S.LineSession.stands g.S.LineSession.answer (session_begun c.args.session c.args.opening) (terminal c.args.io.now) (terminal c.run_session.new.io) e.said e.reads e.counted

pub returns-in-Err-NoMemory : goal.returns-in-Err-NoMemory
returns-in-Err-NoMemory g c =
    let terminal = terminal_at g.T.Sink.hearing g.T.Sink.taken g.T.Sink.faults in
    let e = rw c.in-Err-NoMemory.field-0-is at c.in-Err-NoMemory.ensures in
    ends_memory g.S.LineSession.stands g.S.LineSession.answer (session_begun c.args.session c.args.opening) (terminal c.args.io.now) (terminal c.run_session.new.io) e.said e.reads e.counted
