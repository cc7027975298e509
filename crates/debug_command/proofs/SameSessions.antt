-- Sessions over groups that they cannot tell apart come to the same.
use Rattle.std.proofs.Common.{ℕ, List, codes, refl}
use Rattle.proc_replay.specs.Replaying.{Replaying}
use Rattle.friday_shell.specs.Laws.{SameGroupSameSession}
use Rattle.friday_shell.specs.Points.{SessionState}
use Rattle.friday_shell.specs.SameGroup.{SameGroup, SameSession}
use Rattle.friday_shell.specs.Session.{opening_session}
use Rattle.debug_command.specs.Session.{shell_answer}
use Rattle.debug_command.specs.Laws.{SessionsOfOneGroup}
use Rattle.debug_command.proofs.SameTalkers.{SaysSame, same_conversation}

module _ (answers : SameGroupSameSession) where
  says : (a b : List Replaying) → SameGroup a b → (s t : SessionState) → SameSession a b s t → (line : List ℕ) → SaysSame (SameSession a b) (shell_answer s line) (shell_answer t line)
  says a b same s t kept line = let said = answers a b same s t kept line in record { text = said.text; state = said.state; quits = said.quits }

  pub same_outcomes : SessionsOfOneGroup
  same_outcomes a b same input =
      same_conversation shell_answer (SameSession a b) (says a b same) (codes "at 0\n") (opening_session a) (opening_session b)
      (record { first = refl; second = refl; at = refl; points = refl; made = refl; variables = refl }) input
