use Rattle.std.proofs.Common.{◌+◌, ◌≤◌, List, ℕ, length, length-take, refl, sym, ap, ◌∙◌, subst, take, arith}
use Rattle.std.specs.Prelude.{Ok, Err}
use Rattle.std.proofs.lemmas.Result.{err_from_is_err_and}
use Rattle.fri_text.specs.Line.{lines_of}
use Rattle.fri_outside.specs.Terminal.{Hearing}
use Rattle.conversation.specs.Conversing.{terminal_at}
use Rattle.conversation.specs.Limits.{most_input}
use Rattle.conversation.specs.inside.Reader.{WasTold, heard_of, listened_after, failed_says_of_session, session_reader_of}
use Rattle.conversation.proofs.WholeSessions.{listens_all, listens_broken, listens_error, listens_more, listens_none, none_counted, reads_on}
use Rattle.conversation.proofs.conversing.read_lines.Goals as goal

pub hearing-init : goal.hearing-init
hearing-init g c = record {
  within = omega (arith, c.requires);
  stands = listens_none g.S.LineSession.stands g.S.LineSession.answer (terminal_at g.T.Sink.hearing g.T.Sink.taken g.T.Sink.faults c.args.io.now) (session_reader_of c.args.reader);
  counted = refl;
  reads = refl;
}

pub returns-in_err-next-clause-said : goal.returns-in_err-next-clause-said
returns-in_err-next-clause-said g c =
    let p = err_from_is_err_and c.from_residual.result c.from_residual.ensures.1 in
    let terminal = terminal_at g.T.Sink.hearing g.T.Sink.taken g.T.Sink.faults in
    let room = c.min-room.result in
    let size = length (take room c.hearing.piece) in
    let short : size ≤ 4096 = omega (arith, length-take room c.hearing.piece, c.min-room.ensures) in
    let within : c.hearing.reader.count + size ≤ most_input + 1 = omega (arith, length-take room c.hearing.piece, c.min-room.ensures, c.hearing.invariant.within) in
    rw (p.1, p.2) (listens_broken g.S.LineSession.stands g.S.LineSession.answer (terminal c.args.io.now) (terminal c.hearing.io) (session_reader_of c.args.reader) (session_reader_of c.hearing.reader) c.hearing.invariant.stands (terminal c.read_piece.new.io) size c.in_err-next.field-0.0 short within c.in_err-next.ensures.said)

pub returns-in_err-next-clause-reads : goal.returns-in_err-next-clause-reads
returns-in_err-next-clause-reads g c =
    let p = err_from_is_err_and c.from_residual.result c.from_residual.ensures.1 in
    rw (p.1, p.2) (c.in_err-next.ensures.reads ∙ ap (λ (n : ℕ). listened_after {T = ℕ} n (Err c.in_err-next.field-0.0)) c.hearing.invariant.reads)

pub returns-in_err-next-clause-counted : goal.returns-in_err-next-clause-counted
returns-in_err-next-clause-counted g c =
    let p = err_from_is_err_and c.from_residual.result c.from_residual.ensures.1 in
    rw (p.1, p.2) (c.in_err-next.ensures.counted ∙ ap (λ (n : ℕ). failed_says_of_session {T = ℕ} n (Err c.in_err-next.field-0.0)) c.hearing.invariant.counted)

pub returns-in_err-answer_lines-clause-said : goal.returns-in_err-answer_lines-clause-said
returns-in_err-answer_lines-clause-said g c =
    let p = err_from_is_err_and c.from_residual-in_err-answer_lines.result c.from_residual-in_err-answer_lines.ensures.1 in
    let why = c.in_err-answer_lines.field-0.0 in
    let terminal = terminal_at g.T.Sink.hearing g.T.Sink.taken g.T.Sink.faults in
    let next = c.in_ok-next.next in
    let old = g.T.Sink.taken c.read_piece.new.io in
    let new = g.T.Sink.taken c.answer_lines.new.out in
    let size = length (take c.min-room.result c.hearing.piece) in
    let short : size ≤ 4096 = omega (arith, length-take c.min-room.result c.hearing.piece, c.min-room.ensures) in
    rw (p.1, p.2) (listens_error g.S.LineSession.stands g.S.LineSession.answer (terminal c.args.io.now) (terminal c.hearing.io) (session_reader_of c.args.reader) (session_reader_of c.hearing.reader) c.hearing.invariant.stands
    (terminal c.read_piece.new.io) (heard_of (next, c.in_ok-next.more)) size short c.if-not-more.true c.in_ok-next.ensures.said (terminal c.answer_lines.new.out) why c.answer_lines.ensures.heard
    (subst (λ (l : List ℕ). WasTold g.S.LineSession.stands g.S.LineSession.answer next.session (lines_of l) old new (Err why)) c.as_slice.ensures.value c.in_err-answer_lines.ensures.said))

pub returns-in_err-answer_lines-clause-reads : goal.returns-in_err-answer_lines-clause-reads
returns-in_err-answer_lines-clause-reads g c =
    let p = err_from_is_err_and c.from_residual-in_err-answer_lines.result c.from_residual-in_err-answer_lines.ensures.1 in
    let why = c.in_err-answer_lines.field-0.0 in
    rw (p.1, p.2) (ap (λ (h : Hearing). h.faults) c.answer_lines.ensures.heard ∙ c.in_ok-next.ensures.reads ∙ c.hearing.invariant.reads
    ∙ sym (none_counted ℕ (g.T.Sink.hearing c.args.io.now).faults why (λ is. reads_on why c.in_err-answer_lines.ensures.reads is)))

pub returns-in_err-answer_lines-clause-counted : goal.returns-in_err-answer_lines-clause-counted
returns-in_err-answer_lines-clause-counted g c =
    let p = err_from_is_err_and c.from_residual-in_err-answer_lines.result c.from_residual-in_err-answer_lines.ensures.1 in
    rw (p.1, p.2) (c.in_err-answer_lines.ensures.counted ∙ ap (λ (n : ℕ). failed_says_of_session {T = ℕ} n (Err c.in_err-answer_lines.field-0.0)) (c.in_ok-next.ensures.counted ∙ c.hearing.invariant.counted))

pub returns-then-not-more-clause-said : goal.returns-then-not-more-clause-said
returns-then-not-more-clause-said g c =
    let terminal = terminal_at g.T.Sink.hearing g.T.Sink.taken g.T.Sink.faults in
    let next = c.in_ok-next.next in
    let old = g.T.Sink.taken c.read_piece.new.io in
    let new = g.T.Sink.taken c.answer_lines.new.out in
    let size = length (take c.min-room.result c.hearing.piece) in
    let short : size ≤ 4096 = omega (arith, length-take c.min-room.result c.hearing.piece, c.min-room.ensures) in
    listens_all g.S.LineSession.stands g.S.LineSession.answer (terminal c.args.io.now) (terminal c.hearing.io) (session_reader_of c.args.reader) (session_reader_of c.hearing.reader) c.hearing.invariant.stands
    (terminal c.read_piece.new.io) (heard_of (next, c.in_ok-next.more)) size short c.if-not-more.true c.in_ok-next.ensures.said (terminal c.answer_lines.new.out) c.in_ok-answer_lines.field-0 c.answer_lines.ensures.heard
    (subst (λ (l : List ℕ). WasTold g.S.LineSession.stands g.S.LineSession.answer next.session (lines_of l) old new (Ok c.in_ok-answer_lines.field-0)) c.as_slice.ensures.value c.in_ok-answer_lines.ensures.said)

pub returns-then-not-more-clause-reads : goal.returns-then-not-more-clause-reads
returns-then-not-more-clause-reads g c = ap (λ (h : Hearing). h.faults) c.answer_lines.ensures.heard ∙ c.in_ok-next.ensures.reads ∙ c.hearing.invariant.reads

pub returns-then-not-more-clause-counted : goal.returns-then-not-more-clause-counted
returns-then-not-more-clause-counted g c = c.in_ok-answer_lines.ensures.counted ∙ c.in_ok-next.ensures.counted ∙ c.hearing.invariant.counted

pub hearing-preserved : goal.hearing-preserved
hearing-preserved g c =
    let terminal = terminal_at g.T.Sink.hearing g.T.Sink.taken g.T.Sink.faults in
    let next = c.in_ok-next.next in
    let size = length (take c.min-room.result c.hearing.piece) in
    let short : size ≤ 4096 = omega (arith, length-take c.min-room.result c.hearing.piece, c.min-room.ensures) in
    record {
      within = c.in_ok-next.ensures.within;
      stands = listens_more g.S.LineSession.stands g.S.LineSession.answer (terminal c.args.io.now) (terminal c.hearing.io) (session_reader_of c.args.reader) (session_reader_of c.hearing.reader) c.hearing.invariant.stands
          (terminal c.read_piece.new.io) (heard_of (next, c.in_ok-next.more)) size short c.in_ok-next.ensures.said;
      counted = c.in_ok-next.ensures.counted ∙ c.hearing.invariant.counted;
      reads = c.in_ok-next.ensures.reads ∙ c.hearing.invariant.reads;
    }
