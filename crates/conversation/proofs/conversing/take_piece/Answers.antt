use Rattle.std.proofs.Common.{◌<◌, ◌≤◌, List, ℕ, arith, length, rules, subst, sym}
use Rattle.std.proofs.lemmas.Result.{err_from_is_err_and}
use Rattle.conversation.specs.declared.conversing.Ended.TheVariants as cause
use Rattle.conversation.specs.Limits.{most_input}
use Rattle.conversation.specs.inside.Reader.{SessionStopsIn, session_reader_of}
use Rattle.conversation.proofs.InputPieces.{stops_after, stops_before}
use Rattle.conversation.proofs.SessionBytes.{stops_large}
use Rattle.conversation.proofs.conversing.take_piece.Goals as goal

pub returns-in_err-reader-clause-said : goal.returns-in_err-reader-clause-said
returns-in_err-reader-clause-said g c =
    let old = g.K.Sink.taken c.args.out.now in
    let now = g.K.Sink.taken c.take_bytes.new.out in
    let reader = session_reader_of c.args.reader in
    let why = c.in_err-reader.field-0.0 in
    let p = err_from_is_err_and c.from_residual.result c.from_residual.ensures.1 in
    rw (p.1, p.2) (subst (λ (l : List ℕ). SessionStopsIn g.S.LineSession.stands g.S.LineSession.answer l old now reader why) (sym c.split_at.ensures.by_index.0)
    (stops_before g.S.LineSession.stands g.S.LineSession.answer c.split_at.result.0.now c.split_at.result.1.now old now reader why c.in_err-reader.ensures.said))

pub returns-then-not-is_empty-clause-said : goal.returns-then-not-is_empty-clause-said
returns-then-not-is_empty-clause-said g c =
    let old = g.K.Sink.taken c.args.out.now in
    let now = g.K.Sink.taken c.take_bytes.new.out in
    let reader = session_reader_of c.args.reader in
    let next = session_reader_of c.in_ok-reader.reader in
    let past = c.split_at.result.1.now in
    let some : 0 < length past = search rules in
    let full : most_input ≤ next.count = omega (arith, some, c.requires, c.min-room.ensures, c.split_at.ensures.front_len, c.split_at.ensures.back_len, c.in_ok-reader.ensures.count) in
    subst (λ (l : List ℕ). SessionStopsIn g.S.LineSession.stands g.S.LineSession.answer l old now reader cause.TooLarge) (sym c.split_at.ensures.by_index.0)
    (stops_after g.S.LineSession.stands g.S.LineSession.answer c.split_at.result.0.now past old now now reader next cause.TooLarge c.in_ok-reader.ensures.said
    (stops_large g.S.LineSession.stands g.S.LineSession.answer next past now full some))
