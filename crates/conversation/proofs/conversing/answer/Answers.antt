use Rattle.std.proofs.Common.{List, ℕ, [], ◌∷◌, ap, take, ◌∙◌}
use Rattle.std.specs.Io.KnownBytes.{append_known}
use Rattle.std.proofs.lemmas.Result.{err_from_is_err_and}
use Rattle.conversation.specs.Talker.{is_quit}
use Rattle.conversation.proofs.InputPieces.{told_last, told_nothing, told_on, told_part}
use Rattle.conversation.proofs.conversing.answer.Goals as goal

pub returns-in_err-write_whole-clause-said : goal.returns-in_err-write_whole-clause-said
returns-in_err-write_whole-clause-said g c =
    let p = err_from_is_err_and c.from_residual-in_err-write_whole.result c.from_residual-in_err-write_whole.ensures.1 in
    let wrote = c.in_err-write_whole.ensures.err in
    let old = g.K.Sink.taken c.args.out.now in
    rw (p.1, p.2) (told_part g.S.LineSession.stands g.S.LineSession.answer c.args.session c.args.line.now old (g.K.Sink.taken c.write_whole.new.out)
    c.in_ok-session.session (g.S.LineSession.text c.in_ok-session.session) c.in_ok-session.goes wrote.0 _ c.in_ok-session.ensures
    (wrote.1 ∙ ap (λ (l : List ℕ). append_known old (take wrote.0 l)) c.said.ensures))

pub returns-in_err-session-clause-said : goal.returns-in_err-session-clause-said
returns-in_err-session-clause-said g c =
    let p = err_from_is_err_and c.from_residual.result c.from_residual.ensures.1 in
    rw (p.1, p.2) (told_nothing g.S.LineSession.stands g.S.LineSession.answer c.args.session (c.args.line.now ∷ []) (g.K.Sink.taken c.args.out.now))

pub returns-in-On-clause-said : goal.returns-in-On-clause-said
returns-in-On-clause-said g c =
    let old = g.K.Sink.taken c.args.out.now in
    told_on g.S.LineSession.stands g.S.LineSession.answer c.args.session c.args.line.now old (g.K.Sink.taken c.write_whole.new.out)
    c.in_ok-session.session (g.S.LineSession.text c.in_ok-session.session) c.in_ok-session.goes c.in_ok-session.ensures (ap is_quit c.in-On.is)
    (c.in_ok-write_whole.ensures.ok ∙ ap (append_known old) c.said.ensures)

pub returns-in-Quit-clause-said : goal.returns-in-Quit-clause-said
returns-in-Quit-clause-said g c =
    let old = g.K.Sink.taken c.args.out.now in
    told_last g.S.LineSession.stands g.S.LineSession.answer c.args.session c.args.line.now old (g.K.Sink.taken c.write_whole.new.out)
    c.in_ok-session.session (g.S.LineSession.text c.in_ok-session.session) c.in_ok-session.goes c.in_ok-session.ensures (ap is_quit c.in-Quit.is)
    (c.in_ok-write_whole.ensures.ok ∙ ap (append_known old) c.said.ensures)
