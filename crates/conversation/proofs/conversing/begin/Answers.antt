use Rattle.std.proofs.Common.{◌∙◌, List, ℕ, take, ap}
use Rattle.std.specs.Io.KnownBytes.{append_known}
use Rattle.std.proofs.lemmas.Result.{err_from_is_err_and}
use Rattle.conversation.specs.inside.Reader.{session_begun}
use Rattle.conversation.proofs.WholeSessions.{opens, opens_failed}
use Rattle.conversation.proofs.conversing.begin.Goals as goal

pub returns-in_err-write_whole-clause-said : goal.returns-in_err-write_whole-clause-said
returns-in_err-write_whole-clause-said g c =
    let p = err_from_is_err_and c.from_residual.result c.from_residual.ensures.1 in
    let wrote = c.in_err-write_whole.ensures.err in
    rw (p.1, p.2) (opens_failed g.S.LineSession.stands g.S.LineSession.answer (session_begun c.args.session c.args.opening) (g.K.Sink.taken c.args.out.now) (g.K.Sink.taken c.write_whole.new.out) wrote.0 _
    (wrote.1 ∙ ap (λ (l : List ℕ). append_known (g.K.Sink.taken c.args.out.now) (take wrote.0 l)) c.bytes.ensures))

pub returns-clause-said : goal.returns-clause-said
returns-clause-said g c =
    rw c.new.ensures.items (opens g.S.LineSession.stands g.S.LineSession.answer (session_begun c.args.session c.args.opening) (g.K.Sink.taken c.args.out.now) (g.K.Sink.taken c.write_whole.new.out)
    (c.in_ok-write_whole.ensures.ok ∙ ap (append_known (g.K.Sink.taken c.args.out.now)) c.bytes.ensures))
