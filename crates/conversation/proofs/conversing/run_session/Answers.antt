use Rattle.std.proofs.Common.{◌∙◌, ℕ, ap, sym}
use Rattle.std.proofs.lemmas.Result.{err_from_is_err_and}
use Rattle.fri_outside.specs.Terminal.{Hearing}
use Rattle.conversation.specs.Conversing.{terminal_at}
use Rattle.conversation.specs.inside.Reader.{session_begun, session_reader_of, why_session_ended}
use Rattle.conversation.proofs.WholeSessions.{held, held_unopened, none_counted, opens_read}
use Rattle.conversation.proofs.conversing.run_session.Goals as goal

pub returns-in_err-reader-clause-said : goal.returns-in_err-reader-clause-said
returns-in_err-reader-clause-said g c =
    let p = err_from_is_err_and c.from_residual.result c.from_residual.ensures.1 in
    let terminal = terminal_at g.T.Sink.hearing g.T.Sink.taken g.T.Sink.faults in
    rw (p.1, p.2) (held_unopened g.S.LineSession.stands g.S.LineSession.answer (session_begun c.args.session c.args.opening) (terminal c.args.io.now) (terminal c.begin.new.out) c.in_err-reader.field-0.0 c.begin.ensures.heard c.in_err-reader.ensures.said)

pub returns-in_err-reader-clause-reads : goal.returns-in_err-reader-clause-reads
returns-in_err-reader-clause-reads g c =
    let why = c.in_err-reader.field-0.0 in
    let p = err_from_is_err_and c.from_residual.result c.from_residual.ensures.1 in
    rw (p.1, p.2) (ap (λ (h : Hearing). h.faults) c.begin.ensures.heard
    ∙ sym (none_counted ℕ (g.T.Sink.hearing c.args.io.now).faults why (λ is. opens_read g.S.LineSession.stands g.S.LineSession.answer (session_begun c.args.session c.args.opening) (g.T.Sink.taken c.args.io.now) (g.T.Sink.taken c.begin.new.out) why c.in_err-reader.ensures.said is)))

pub returns-clause-said : goal.returns-clause-said
returns-clause-said g c =
    let terminal = terminal_at g.T.Sink.hearing g.T.Sink.taken g.T.Sink.faults in
    held g.S.LineSession.stands g.S.LineSession.answer (session_begun c.args.session c.args.opening) (terminal c.args.io.now) (terminal c.begin.new.out) (terminal c.read_lines.new.io) (session_reader_of c.in_ok-reader.reader) (why_session_ended c.read_lines.result) c.begin.ensures.heard c.in_ok-reader.ensures.said c.read_lines.ensures.said
