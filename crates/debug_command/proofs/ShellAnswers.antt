-- What the shell answers, as a conversation sees it.
use Rattle.std.proofs.Common.{◌≡◌, ℕ, List, subst}
use Rattle.friday_shell.specs.Answer.{answer}
use Rattle.friday_shell.specs.Meanings.{IsLineAnswer}
use Rattle.friday_shell.specs.Points.{SessionState}
use Rattle.conversation.specs.declared.session.Go.{Go}
use Rattle.conversation.specs.Talker.{AnswersSo}
use Rattle.debug_command.specs.Session.{shell_answer}

here : (state : SessionState) (line : List ℕ) (new : SessionState) (text : List ℕ) (goes : Go) → IsLineAnswer (answer state line) new text goes → AnswersSo (shell_answer state line) (λ after. new ≡ after) text goes
here state line new text goes said = record { text_is = said.text_is; stands_in = said.state; quits_is = said.quits }

pub shell_answers : (old : SessionState) (line : List ℕ) (new : SessionState) (text : List ℕ) (goes : Go) → IsLineAnswer (answer old line) new text goes
    → (state : SessionState) → old ≡ state → AnswersSo (shell_answer state line) (λ after. new ≡ after) text goes
shell_answers old line new text goes said state is = subst (λ (s : SessionState). AnswersSo (shell_answer s line) (λ after. new ≡ after) text goes) is (here old line new text goes said)
