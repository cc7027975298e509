-- What a session says: its opening, and its answers to lines.
use Rattle.std.specs.Prelude.{◌≡◌, ℕ, Bool, true, false, ◌||◌, List, [], ◌∷◌, ◌++◌, if◌then◌else◌}
use Rattle.conversation.specs.declared.session.Go.{Go}
use Rattle.conversation.specs.declared.session.Go.TheVariants as go

-- what a session answers to a line: the text, the state in which it then is, and whether it ends there
pub record Answered (S : Type 0) : Type 0 where
  pub text : List ℕ
  pub state : S
  pub quits : Bool

-- a session as it begins: what it prints first, its state, and what it answers to a line in each state
pub record Talker (S : Type 0) : Type 0 where
  pub opening : List ℕ
  pub state : S
  pub answer : S → List ℕ → Answered S

abbrev pub talker_of : {S : Type 0} → List ℕ → S → (S → List ℕ → Answered S) → Talker S
talker_of opening state answer = record { opening = opening; state = state; answer = answer }

-- the answers of lines, one after the other, up to that of a line that ends the session
abbrev pub answers_of_lines : {S : Type 0} → (S → List ℕ → Answered S) → S → List (List ℕ) → List ℕ
answers_of_lines answer state [] = []
answers_of_lines answer state (line ∷ lines) =
    (answer state line).text ++ (if (answer state line).quits then [] else answers_of_lines answer (answer state line).state lines)

-- one of the lines ends a session that is in this state
abbrev pub ends_in_lines : {S : Type 0} → (S → List ℕ → Answered S) → S → List (List ℕ) → Bool
ends_in_lines answer state [] = false
ends_in_lines answer state (line ∷ lines) = (answer state line).quits || ends_in_lines answer (answer state line).state lines

-- the text of a session in which these lines are typed
abbrev pub spoken_text : {S : Type 0} → Talker S → List (List ℕ) → List ℕ
spoken_text talker lines = talker.opening ++ answers_of_lines talker.answer talker.state lines

-- one of the lines ends it
abbrev pub ends_session : {S : Type 0} → Talker S → List (List ℕ) → Bool
ends_session talker lines = ends_in_lines talker.answer talker.state lines

-- ---- what the code says of a line

abbrev pub is_quit : Go → Bool
is_quit go.On = false
is_quit go.Quit = true

-- the code answered so: this text, whether it goes on, and that the session then is in the state of the answer
pub record AnswersSo {S : Type 0} (answered : Answered S) (stands : S → Type 0) (text : List ℕ) (goes : Go) : Type 0 where
  pub text_is : text ≡ answered.text
  pub stands_in : stands answered.state
  pub quits_is : is_quit goes ≡ answered.quits
