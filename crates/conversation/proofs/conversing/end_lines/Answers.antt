use Rattle.std.proofs.Common.{◌≡◌, ◌<◌, ◌+◌, ◌∙◌, ℕ, List, length, rules, subst, sym}
use Rattle.std.specs.Prelude.{Err, Ok}
use Rattle.std.proofs.lemmas.List.{nil_from_length}
use Rattle.std.proofs.lemmas.Result.{err_from_is_err_and}
use Rattle.fri_text.specs.Line.{lines_of}
use Rattle.conversation.specs.inside.Reader.{SessionGoesOn, WasTold, session_reader_of}
use Rattle.conversation.proofs.InputPieces.{goes_on_none}
use Rattle.conversation.proofs.SessionBytes.{stops_lines, stops_memory, takes_lines}
use Rattle.conversation.proofs.WholeLines.{whole-has_feed}
use Rattle.conversation.proofs.conversing.end_lines.Goals as goal

pub returns-then-is_empty-clause-said : goal.returns-then-is_empty-clause-said
returns-then-is_empty-clause-said g c =
    let reader = session_reader_of c.args.reader in
    let now = g.K.Sink.taken c.args.out.now in
    let none : length c.args.whole.now ≡ 0 = search rules in
    subst (λ (l : List ℕ). SessionGoesOn g.S.LineSession.stands g.S.LineSession.answer l now now reader reader) (sym (nil_from_length c.args.whole.now none))
    (goes_on_none g.S.LineSession.stands g.S.LineSession.answer now reader)

pub returns-in_err-extend_from_slice-clause-said : goal.returns-in_err-extend_from_slice-clause-said
returns-in_err-extend_from_slice-clause-said g c =
    let p = err_from_is_err_and c.from_residual.result c.from_residual.ensures.1 in
    rw (p.1, p.2) (stops_memory g.S.LineSession.stands g.S.LineSession.answer (session_reader_of c.args.reader) c.args.whole.now (g.K.Sink.taken c.args.out.now))

pub returns-in_err-session-clause-said : goal.returns-in_err-session-clause-said
returns-in_err-session-clause-said g c =
    let old = g.K.Sink.taken c.args.out.now in
    let new = g.K.Sink.taken c.answer_lines.new.out in
    let why = c.in_err-session.field-0.0 in
    let some : 0 < length c.args.whole.now = search rules in
    let bytes = c.as_slice.ensures.value ∙ c.in_ok-extend_from_slice.ensures.items in
    let p = err_from_is_err_and c.from_residual-in_err-session.result c.from_residual-in_err-session.ensures.1 in
    rw (p.1, p.2) (stops_lines g.S.LineSession.stands g.S.LineSession.answer (session_reader_of c.args.reader) c.args.whole.now old new c.requires.whole (whole-has_feed c.args.whole.now c.requires.whole some) c.requires.room why c.in_err-session.ensures.reads
    (subst (λ (l : List ℕ). WasTold g.S.LineSession.stands g.S.LineSession.answer c.args.reader.session (lines_of l) old new (Err why)) bytes c.in_err-session.ensures.said))

pub returns-clause-said : goal.returns-clause-said
returns-clause-said g c =
    let old = g.K.Sink.taken c.args.out.now in
    let new = g.K.Sink.taken c.answer_lines.new.out in
    let whole = c.args.whole.now in
    let next = c.in_ok-session.session in
    let some : 0 < length whole = search rules in
    let bytes = c.as_slice.ensures.value ∙ c.in_ok-extend_from_slice.ensures.items in
    subst (λ (l : List ℕ). SessionGoesOn g.S.LineSession.stands g.S.LineSession.answer whole old new (session_reader_of c.args.reader) (record { session = next; begun = l; count = c.args.reader.count + length whole })) (sym c.clear.ensures.items)
    (takes_lines g.S.LineSession.stands g.S.LineSession.answer (session_reader_of c.args.reader) whole old new c.requires.whole (whole-has_feed whole c.requires.whole some) c.requires.room next
    (subst (λ (l : List ℕ). WasTold g.S.LineSession.stands g.S.LineSession.answer c.args.reader.session (lines_of l) old new (Ok next)) bytes c.in_ok-session.ensures.said))
