use Rattle.std.proofs.Common.{◌∙◌, ℕ, List, [], ◌∷◌, refl, subst, sym}
use Rattle.std.specs.Prelude.{Err, Ok}
use Rattle.std.proofs.lemmas.Result.{err_from_is_err_and}
use Rattle.fri_text.specs.Line.{lines_of}
use Rattle.conversation.specs.inside.Reader.{WasTold}
use Rattle.conversation.proofs.InputPieces.{told_more, told_none, told_stopped}
use Rattle.conversation.proofs.conversing.answer_lines.Goals as goal

pub loop-line-init : goal.loop-line-init
loop-line-init g c = record {
  told = λ now result t. subst (λ (l : List ℕ). WasTold g.S.LineSession.stands g.S.LineSession.answer c.args.session (lines_of l) (g.K.Sink.taken c.args.out.now) now result) c.new-lines.ensures.left t;
  counted = refl;
  heard = refl;
}

pub returns-in_err-session-clause-said : goal.returns-in_err-session-clause-said
returns-in_err-session-clause-said g c =
    let p = err_from_is_err_and c.from_residual.result c.from_residual.ensures.1 in
    let why = c.in_err-session.field-0.0 in
    let old = g.K.Sink.taken c.loop-line.out in
    let now = g.K.Sink.taken c.answer.new.out in
    rw (p.1, p.2) (c.loop-line.invariant.told now (Err why)
    (subst (λ (ls : List (List ℕ)). WasTold g.S.LineSession.stands g.S.LineSession.answer c.loop-line.session ls old now (Err why)) (sym c.in-Some.ensures.lines)
    (told_stopped g.S.LineSession.stands g.S.LineSession.answer c.loop-line.session (c.in-Some.line.now ∷ []) (lines_of c.next_line.new.from.left) old now why c.in_err-session.ensures.said)))

pub loop-line-preserved : goal.loop-line-preserved
loop-line-preserved g c =
    let old = g.K.Sink.taken c.loop-line.out in
    let mid = g.K.Sink.taken c.answer.new.out in
    record {
      told = λ now result t. c.loop-line.invariant.told now result
          (subst (λ (ls : List (List ℕ)). WasTold g.S.LineSession.stands g.S.LineSession.answer c.loop-line.session ls old now result) (sym c.in-Some.ensures.lines)
          (told_more g.S.LineSession.stands g.S.LineSession.answer c.loop-line.session (c.in-Some.line.now ∷ []) (lines_of c.next_line.new.from.left) old mid c.in_ok-session.session now result c.in_ok-session.ensures.said t));
      counted = c.in_ok-session.ensures.counted ∙ c.loop-line.invariant.counted;
      heard = c.answer.ensures.heard ∙ c.loop-line.invariant.heard;
    }

pub returns-clause-said : goal.returns-clause-said
returns-clause-said g c =
    let now = g.K.Sink.taken c.loop-line.out in
    c.loop-line.invariant.told now (Ok c.loop-line.session)
    (subst (λ (ls : List (List ℕ)). WasTold g.S.LineSession.stands g.S.LineSession.answer c.loop-line.session ls now now (Ok c.loop-line.session)) (sym c.in_default.ensures.lines)
    (told_none g.S.LineSession.stands g.S.LineSession.answer c.loop-line.session now))
