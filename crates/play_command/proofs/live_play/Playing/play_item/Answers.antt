use Rattle.std.proofs.Common.{◌∙◌, ◌+◌, ap, arith, sym}
use Rattle.std.proofs.lemmas.Result.{IfOk-weaker}
use Rattle.play_lines.specs.Refusals.{play_refusal_line}
use Rattle.play_lines.specs.declared.refusal.PlayRefusal.TheVariants as refusal
use Rattle.play_command.specs.Play.{plays_item}
use Rattle.play_command.specs.declared.live_play.Play.{Play}
use Rattle.play_command.specs.declared.live_play.Playing.{Playing}
use Rattle.play_command.specs.inside.Answers.{AnswersOnce, StaysAndSays}
use Rattle.play_command.specs.inside.Said.{said_of}
use Rattle.play_command.proofs.ItemAnswers.{refuses_full, refuses_many}
use Rattle.play_command.proofs.live_play.Playing.play_item.Goals as goal

pub returns-then-tries-gt-MOST_RUNS : goal.returns-then-tries-gt-MOST_RUNS
returns-then-tries-gt-MOST_RUNS c =
    let old = c.args.self.play.value in
    let i = c.args.item.now in
    IfOk-weaker c.refusing.result (λ (playing : Playing). StaysAndSays old (play_refusal_line refusal.TooManyTries) playing.play.value) (λ (playing : Playing). AnswersOnce old (λ state. plays_item state i) playing.play.value (said_of playing.play.value))
    (λ playing stays. refuses_many old playing.play.value i (c.deref.result.now.tries + c.tries.result) (ap (λ (play : Play). play.tries + c.tries.result) c.deref.ensures ∙ ap (λ n. old.tries + n) c.tries.ensures) c.if-tries-gt-MOST_RUNS.true stays)
    c.refusing.ensures

pub returns-then-deref : goal.returns-then-deref
returns-then-deref c =
    let old = c.args.self.play.value in
    let i = c.args.item.now in
    IfOk-weaker c.refusing-then-deref.result (λ (playing : Playing). StaysAndSays old (play_refusal_line refusal.Full) playing.play.value) (λ (playing : Playing). AnswersOnce old (λ state. plays_item state i) playing.play.value (said_of playing.play.value))
    (λ playing stays. refuses_full old playing.play.value i (c.deref.result.now.tries + c.tries.result) (ap (λ (play : Play). play.tries + c.tries.result) c.deref.ensures ∙ ap (λ n. old.tries + n) c.tries.ensures) (omega (arith, c.if-tries-gt-MOST_RUNS.false))
    (sym (ap (λ (play : Play). play.full) c.deref-2.ensures) ∙ c.if-deref.true) stays)
    c.refusing-then-deref.ensures
