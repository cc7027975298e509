-- Where a relation between states is kept by answers, and related states answer the same, conversations come to the same.
use Rattle.std.proofs.Common.{◌≡◌, ℕ, ◌&&◌, ◌||◌, not, cond, nat_lt, List, [], ◌∷◌, ◌++◌, length, Ok, Err, refl}
use Rattle.fri_text.specs.Line.{lines_of}
use Rattle.command_run.specs.Outcome.{Refuses}
use Rattle.command_run.specs.declared.refusal.Reason.TheVariants as reason
use Rattle.conversation.specs.Limits.{most_input}
use Rattle.conversation.specs.Lines.{early_lines}
use Rattle.conversation.specs.Outcome.{conversation_outcome, input_name, spoken_work}
use Rattle.conversation.specs.Talker.{Answered, answers_of_lines, ends_in_lines, talker_of}

-- the same is said, and the states after it are related
pub record SaysSame {S : Type 0} (R : S → S → Type 0) (x y : Answered S) : Type 0 where
  pub text : x.text ≡ y.text
  pub state : R x.state y.state
  pub quits : x.quits ≡ y.quits

module _ {S : Type 0} (answer : S → List ℕ → Answered S) (R : S → S → Type 0) (says : (s t : S) → R s t → (line : List ℕ) → SaysSame R (answer s line) (answer t line)) where
  same_answers : (s t : S) → R s t → (lines : List (List ℕ)) → answers_of_lines answer s lines ≡ answers_of_lines answer t lines
  same_answers s t r [] = refl
  same_answers s t r (line ∷ lines) =
      let said = says s t r line in
      λ i. said.text i ++ cond (said.quits i) [] (same_answers (answer s line).state (answer t line).state said.state lines i)

  same_end : (s t : S) → R s t → (lines : List (List ℕ)) → ends_in_lines answer s lines ≡ ends_in_lines answer t lines
  same_end s t r [] = refl
  same_end s t r (line ∷ lines) =
      let said = says s t r line in
      λ i. said.quits i || same_end (answer s line).state (answer t line).state said.state lines i

  pub same_conversation : (opening : List ℕ) (s t : S) → R s t → (input : List ℕ) → conversation_outcome (talker_of opening s answer) input ≡ conversation_outcome (talker_of opening t answer) input
  same_conversation opening s t r input = λ i.
      cond (nat_lt most_input (length input) && not (same_end s t r (early_lines input) i))
      (Err (Refuses input_name reason.TooLarge (spoken_work (opening ++ same_answers s t r (early_lines input) i))))
      (Ok (spoken_work (opening ++ same_answers s t r (lines_of input) i)))
