-- What the code says that a line did: its text, the session after it, and whether it quits.
use Rattle.std.specs.Prelude.{◌≡◌, ℕ, List}
use Rattle.conversation.specs.declared.session.Go.{Go}
use Rattle.conversation.specs.Talker.{is_quit}
use Rattle.friday_shell.specs.Answer.{LineAnswer}
use Rattle.friday_shell.specs.Points.{SessionState}

-- a session answered this
pub record IsLineAnswer (answered : LineAnswer) (new : SessionState) (text : List ℕ) (goes : Go) : Type 0 where
  pub text_is : text ≡ answered.text
  pub state : new ≡ answered.state
  pub quits : is_quit goes ≡ answered.quits
