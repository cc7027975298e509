use Rattle.std.proofs.Common.{◌≡◌, ◌≤◌, ℕ, List, Option, length, length-take, take, ap, sym, subst, ◌∙◌, arith}
use Rattle.std.proofs.lemmas.Bool.{ltb-false}
use Rattle.std.proofs.lemmas.Result.{err_from_is_err_and}
use Rattle.fri_outside.specs.Outside.{WhenTold}
use Rattle.fri_outside.specs.Terminal.{Hearing, with_asking}
use Rattle.conversation.specs.Input.{TakesOfInput}
use Rattle.conversation.specs.Conversing.{terminal_at}
use Rattle.conversation.specs.inside.Reader.{SessionGoesOn, SessionStopsIn, exchange_of, session_reader_of}
use Rattle.conversation.proofs.WholeSessions.{breaks_in, breaks_read, hears, none_counted, stops_read}
use Rattle.conversation.proofs.conversing.read_piece.Goals as goal

pub returns-in_err-count-clause-said : goal.returns-in_err-count-clause-said
returns-in_err-count-clause-said g c =
    let old = terminal_at g.T.Sink.hearing g.T.Sink.taken g.T.Sink.faults c.args.io.now in
    let new = terminal_at g.T.Sink.hearing g.T.Sink.taken g.T.Sink.faults c.read.new.self in
    let exchange = exchange_of (length c.args.piece.now) old new in
    let p = err_from_is_err_and c.from_residual.result c.from_residual.ensures.1 in
    rw (p.1, p.2) (breaks_read g.S.LineSession.stands g.S.LineSession.answer exchange (session_reader_of c.args.reader) c.in_err-count.ensures.same c.in_err-count.ensures.asked c.read.ensures.taken)

pub returns-in_err-reader-clause-said : goal.returns-in_err-reader-clause-said
returns-in_err-reader-clause-said g c =
    let old = terminal_at g.T.Sink.hearing g.T.Sink.taken g.T.Sink.faults c.args.io.now in
    let new = terminal_at g.T.Sink.hearing g.T.Sink.taken g.T.Sink.faults c.take_piece.new.out in
    let exchange = exchange_of (length c.args.piece.now) old new in
    let n = c.in_ok-count.count in
    let piece = take n c.read.new.buf in
    let heard : new.hearing ≡ g.T.Sink.hearing c.read.new.self = c.take_piece.ensures.heard in
    let read : WhenTold old.hearing.left (λ input. TakesOfInput input new.hearing.left piece) =
    λ input told. let b = c.in_ok-count.ensures.bytes input told in record { rest = b.0; left = ap (λ (h : Hearing). h.left) heard ∙ b.1; whole = b.2 } in
    let noted : new.hearing.asked ≡ with_asking old.taken piece old.hearing.asked = ap (λ (h : Hearing). h.asked) heard ∙ c.in_ok-count.ensures.asked in
    let short : length piece ≤ length c.args.piece.now = omega (arith, length-take n c.read.new.buf, c.in_ok-count.ensures.bound) in
    let why = c.in_err-reader.field-0.0 in
    let stops = subst (λ (o : Option (List ℕ)). SessionStopsIn g.S.LineSession.stands g.S.LineSession.answer piece o new.taken (session_reader_of c.args.reader) why) c.read.ensures.taken c.in_err-reader.ensures.said in
    let p = err_from_is_err_and c.from_residual-in_err-reader.result c.from_residual-in_err-reader.ensures.1 in
    rw (p.1, p.2) (breaks_in g.S.LineSession.stands g.S.LineSession.answer exchange (session_reader_of c.args.reader) piece why short read noted stops)

pub returns-in_err-reader-clause-reads : goal.returns-in_err-reader-clause-reads
returns-in_err-reader-clause-reads g c =
    let why = c.in_err-reader.field-0.0 in
    let p = err_from_is_err_and c.from_residual-in_err-reader.result c.from_residual-in_err-reader.ensures.1 in
    rw (p.1, p.2) (ap (λ (h : Hearing). h.faults) c.take_piece.ensures.heard ∙ c.in_ok-count.ensures.counted
    ∙ sym (none_counted ℕ (g.T.Sink.hearing c.args.io.now).faults why
    (λ is. stops_read g.S.LineSession.stands g.S.LineSession.answer (g.T.Sink.taken c.read.new.self) (g.T.Sink.taken c.take_piece.new.out) (session_reader_of c.args.reader) (take c.in_ok-count.count c.read.new.buf) why c.in_err-reader.ensures.said is)))

pub returns-clause-said : goal.returns-clause-said
returns-clause-said g c =
    let old = terminal_at g.T.Sink.hearing g.T.Sink.taken g.T.Sink.faults c.args.io.now in
    let new = terminal_at g.T.Sink.hearing g.T.Sink.taken g.T.Sink.faults c.take_piece.new.out in
    let exchange = exchange_of (length c.args.piece.now) old new in
    let n = c.in_ok-count.count in
    let piece = take n c.read.new.buf in
    let heard : new.hearing ≡ g.T.Sink.hearing c.read.new.self = c.take_piece.ensures.heard in
    let read : WhenTold old.hearing.left (λ input. TakesOfInput input new.hearing.left piece) =
    λ input told. let b = c.in_ok-count.ensures.bytes input told in record { rest = b.0; left = ap (λ (h : Hearing). h.left) heard ∙ b.1; whole = b.2 } in
    let noted : new.hearing.asked ≡ with_asking old.taken piece old.hearing.asked = ap (λ (h : Hearing). h.asked) heard ∙ c.in_ok-count.ensures.asked in
    let short : length piece ≤ length c.args.piece.now = omega (arith, length-take n c.read.new.buf, c.in_ok-count.ensures.bound) in
    let next = session_reader_of c.in_ok-reader.reader in
    let goes = subst (λ (o : Option (List ℕ)). SessionGoesOn g.S.LineSession.stands g.S.LineSession.answer piece o new.taken (session_reader_of c.args.reader) next) c.read.ensures.taken c.in_ok-reader.ensures.said in
    hears g.S.LineSession.stands g.S.LineSession.answer exchange (session_reader_of c.args.reader) (record { reader = next; more = _ }) piece short read noted goes
    (λ none. let z : n ≡ 0 = omega (arith, ltb-false 0 n none) in (ap (λ (k : ℕ). take k c.read.new.buf) z, c.in_ok-count.ensures.end z))
