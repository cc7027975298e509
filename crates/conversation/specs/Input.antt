-- What is said of the input of a session, and of what is answered before more of it is asked for.
use Rattle.std.specs.Prelude.{◌≡◌, ◌⊎◌, ◌≤◌, ℕ, ◌+◌, List, [], ◌∷◌, ◌++◌, length, Option, Some, true, false}
use Rattle.std.specs.Io.KnownBytes.{append_known}
use Rattle.fri_outside.specs.Outside.{WhenTold}
use Rattle.fri_outside.specs.Terminal.{Asking, Hearing, given_in_askings}
use Rattle.command_run.specs.declared.status.Status.{Status}
use Rattle.command_run.specs.declared.status.Status.TheVariants as status
use Rattle.conversation.specs.Limits.{most_input, most_piece}
use Rattle.conversation.specs.Lines.{whole_lines}
use Rattle.conversation.specs.Talker.{Talker, ends_session, spoken_text}

-- ---- what was taken of an input

-- of an input that told these bytes, these ones were taken, and the others are left
pub record TakesOfInput (input : List ℕ) (after : Option (List ℕ)) (taken : List ℕ) : Type 0 where
  pub rest : List ℕ
  pub left : after ≡ Some rest
  pub whole : input ≡ taken ++ rest

-- the last piece was asked for only where no whole line before it ends the session, and no byte past the next one
-- after the limit
pub record AsksAtTerminal {S : Type 0} (talker : Talker S) (taken : List ℕ) : Type 0 where
  pub earlier : List ℕ
  pub piece : List ℕ
  pub parts : taken ≡ earlier ++ piece
  pub short : length piece ≤ most_piece
  pub within : length taken ≤ most_input + 1
  pub goes_on : ends_session talker (whole_lines earlier) ≡ false

-- a session asked for no more than it needed, and was done at the end of the input, or at a whole line that ends it
pub record HasReadInput {S : Type 0} (talker : Talker S) (input : List ℕ) (after : Option (List ℕ)) (answer : Status) : Type 0 where
  pub taken : List ℕ
  pub is_taken : TakesOfInput input after taken
  pub asks : AsksAtTerminal talker taken
  pub at_end : answer ≡ status.Done → (input ≡ taken) ⊎ (ends_session talker (whole_lines taken) ≡ true)

-- all whole lines that were taken are answered, and none of them ends the session
pub record HasAnsweredLines {S : Type 0} (talker : Talker S) (input : List ℕ) (after printed printed_after : Option (List ℕ)) : Type 0 where
  pub taken : List ℕ
  pub is_taken : TakesOfInput input after taken
  pub text : printed_after ≡ append_known printed (spoken_text talker (whole_lines taken))
  pub goes_on : ends_session talker (whole_lines taken) ≡ false

-- ---- in which order

-- when more was asked for all whole lines that had been typed were answered, and none of them ends the session. No more
-- than this came
pub record IsAskedInTurn {S : Type 0} (talker : Talker S) (printed : Option (List ℕ)) (typed : List ℕ) (asking : Asking) : Type 0 where
  pub answered : asking.said ≡ append_known printed (spoken_text talker (whole_lines typed))
  pub goes_on : ends_session talker (whole_lines typed) ≡ false
  pub short : length asking.given ≤ most_piece

-- so it was each time, where this had been typed before the first
abbrev pub AreAskedInTurn : {S : Type 0} → Talker S → Option (List ℕ) → List ℕ → List Asking → Type 0
AreAskedInTurn talker printed typed [] = Unit {0}
AreAskedInTurn talker printed typed (asking ∷ later) = IsAskedInTurn talker printed typed asking × AreAskedInTurn talker printed (typed ++ asking.given) later

-- of a terminal that tells when it was read, each time of this session is one in turn, and what came is what was taken
-- of the input
pub record TakesTurns {S : Type 0} (talker : Talker S) (before after : Hearing) (printed : Option (List ℕ)) (earlier : List Asking) : Type 0 where
  pub askings : List Asking
  pub noted : after.asked ≡ Some (earlier ++ askings)
  pub in_turn : AreAskedInTurn talker printed [] askings
  pub taken : WhenTold before.left (λ input. TakesOfInput input after.left (given_in_askings askings))
