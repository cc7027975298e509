use Rattle.std.proofs.Common.{◌+◌, ◌++◌, ◌≤◌, ◌∙◌, List, ℕ, ap, arith, length, length-append, subst, sym}
use Rattle.std.proofs.lemmas.Result.{err_from_is_err_and}
use Rattle.conversation.specs.Limits.{most_input}
use Rattle.conversation.specs.Lines.{whole_part}
use Rattle.conversation.specs.declared.conversing.Ended.TheVariants as cause
use Rattle.conversation.specs.inside.Reader.{SessionGoesOn, SessionStopsIn, session_reader_of}
use Rattle.conversation.proofs.InputPieces.{goes_on_more, stops_after, stops_before}
use Rattle.conversation.proofs.PrintedSoFar.{with_bytes}
use Rattle.conversation.proofs.SessionBytes.{stops_memory, takes_open}
use Rattle.conversation.proofs.WholeLines.{open_behind, whole_part-whole}
use Rattle.conversation.proofs.conversing.take_bytes.Goals as goal

pub end_lines-requires-clause-whole : goal.end_lines-requires-clause-whole
end_lines-requires-clause-whole g c = ap whole_part c.split_whole.ensures.whole ∙ whole_part-whole c.args.bytes.now ∙ sym c.split_whole.ensures.whole

pub returns-in_err-session-clause-said : goal.returns-in_err-session-clause-said
returns-in_err-session-clause-said g c =
    let old = g.K.Sink.taken c.args.out.now in
    let now = g.K.Sink.taken c.end_lines.new.out in
    let reader = session_reader_of c.args.reader in
    let why = c.in_err-session.field-0.0 in
    let p = err_from_is_err_and c.from_residual.result c.from_residual.ensures.1 in
    rw (p.1, p.2) (subst (λ (l : List ℕ). SessionStopsIn g.S.LineSession.stands g.S.LineSession.answer l old now reader why) (sym c.split_whole.ensures.parts)
    (stops_before g.S.LineSession.stands g.S.LineSession.answer c.split_whole.result.0.now c.split_whole.result.1.now old now reader why c.in_err-session.ensures.said))

pub returns-in_err-extend_from_slice-clause-said : goal.returns-in_err-extend_from_slice-clause-said
returns-in_err-extend_from_slice-clause-said g c =
    let old = g.K.Sink.taken c.args.out.now in
    let now = g.K.Sink.taken c.end_lines.new.out in
    let reader = session_reader_of c.args.reader in
    let next = session_reader_of c.in_ok-session.field-0 in
    let open_line = c.split_whole.result.1.now in
    let p = err_from_is_err_and c.from_residual-in_err-extend_from_slice.result c.from_residual-in_err-extend_from_slice.ensures.1 in
    rw (p.1, p.2) (subst (λ (l : List ℕ). SessionStopsIn g.S.LineSession.stands g.S.LineSession.answer l old now reader cause.NoMemory) (sym c.split_whole.ensures.parts)
    (stops_after g.S.LineSession.stands g.S.LineSession.answer c.split_whole.result.0.now open_line old now now reader next cause.NoMemory c.in_ok-session.ensures.said
    (stops_memory g.S.LineSession.stands g.S.LineSession.answer next open_line now)))

pub returns-clause-said : goal.returns-clause-said
returns-clause-said g c =
    let old = g.K.Sink.taken c.args.out.now in
    let now = g.K.Sink.taken c.end_lines.new.out in
    let reader = session_reader_of c.args.reader in
    let next = session_reader_of c.in_ok-session.field-0 in
    let whole = c.split_whole.result.0.now in
    let open_line = c.split_whole.result.1.now in
    let parts = c.split_whole.ensures.parts in
    let none = open_behind c.args.bytes.now whole open_line c.split_whole.ensures.whole parts in
    let room : next.count + length open_line ≤ most_input = omega (arith, c.requires.room, c.in_ok-session.ensures.count, ap length parts, length-append whole open_line) in
    let taken = goes_on_more g.S.LineSession.stands g.S.LineSession.answer whole open_line old now now reader next (with_bytes next open_line) c.in_ok-session.ensures.said
    (takes_open g.S.LineSession.stands g.S.LineSession.answer next open_line now none room) in
    subst (λ (l : List ℕ). SessionGoesOn g.S.LineSession.stands g.S.LineSession.answer l old now reader (session_reader_of (record { session = next.session; begun = c.extend_from_slice.new.self; count = next.count + length open_line }))) (sym parts)
    (subst (λ (l : List ℕ). SessionGoesOn g.S.LineSession.stands g.S.LineSession.answer (whole ++ open_line) old now reader (record { session = next.session; begun = l; count = next.count + length open_line })) (sym c.in_ok-extend_from_slice.ensures.items) taken)
