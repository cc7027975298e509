-- A play of which only what it says is another.
use Rattle.std.proofs.Common.{◌≡◌, ◌∙◌, ℕ, List, None, refl, subst, sym}
use Rattle.conversation.specs.Talker.{Answered}
use Rattle.conversation.specs.declared.session.Go.{Go}
use Rattle.play_command.specs.Play.{PlayState}
use Rattle.play_command.specs.declared.live_play.Play.{Play}
use Rattle.play_command.specs.inside.Answers.{AnswersPlay, StaysAndSays}
use Rattle.play_command.specs.inside.Said.{said_of}

-- with another text it stands where it stood
pub says : (old new : Play) (text : List ℕ) → new ≡ record old { told = record old.told { text = text }; usual = None } → StaysAndSays old text new
says old new text is =
    subst (λ (play : Play). StaysAndSays old text play) (sym is)
    (λ state s. record { group = s.group; names = s.names; own = s.own; live = s.live; tries = s.tries; full = s.full }, refl)

-- what it answered is then what it says
pub says_play : (old mid new : Play) (answered : PlayState → Answered PlayState) (text : List ℕ) (goes : Go) → AnswersPlay old answered mid text goes → StaysAndSays mid text new → AnswersPlay old answered new (said_of new) goes
says_play old mid new answered text goes first stays state s =
    let a = first state s in
    record { text_is = stays.1 ∙ a.text_is; stands_in = stays.0 (answered state).state a.stands_in; quits_is = a.quits_is }
