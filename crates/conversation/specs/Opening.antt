-- A command that opens a conversation over its files, or is stopped before: its outcome, and what it says of its input.
use Rattle.std.specs.Prelude.{◌≡◌, ◌≢◌, ◌⊎◌, ℕ, true, List, [], Option, Some, option_and_then, option_map, Result, Ok, Err}
use Rattle.fri_outside.specs.Outside.{CountRose, Folder, WhenTold}
use Rattle.command_run.specs.declared.status.Status.{Status}
use Rattle.command_run.specs.declared.status.Status.TheVariants as status
use Rattle.command_run.specs.declared.refusal.Reason.TheVariants as reason
use Rattle.command_run.specs.Asked.{AsksInputs}
use Rattle.command_run.specs.Call.{PrintsRefusal, misses_of_refusal}
use Rattle.command_run.specs.Outcome.{CommandOutcome, CommandStop}
use Rattle.command_run.specs.Run.{CallEnds, Outside}
use Rattle.conversation.specs.Input.{HasAnsweredLines, HasReadInput, TakesTurns}
use Rattle.conversation.specs.Outcome.{conversation_outcome, input_name, is_large_input}
use Rattle.conversation.specs.Talker.{Talker}

-- what the files of a folder open, the session that then talks, and the files that are read, in their order
pub record Opener (A S : Type 0) : Type 0 where
  pub opens : Folder → Result A CommandStop
  pub talker : A → Talker S
  pub inputs : Folder → List (List ℕ)

-- where nothing opens the input does not matter, and need not be told
abbrev pub opened_outcome : {A S : Type 0} → Opener A S → Result A CommandStop → Option (List ℕ) → Option CommandOutcome
opened_outcome opener (Err stop) left = Some (Err stop)
opened_outcome opener (Ok opened) left = option_map (λ input. conversation_outcome (opener.talker opened) input) left

-- what it comes to, as far as the folder and the input tell it
abbrev pub opened_expected : {A S : Type 0} → Opener A S → Outside → Option CommandOutcome
opened_expected opener old = option_and_then (λ folder. opened_outcome opener (opener.opens folder) old.hearing.left) old.told

-- this was opened, wherever the folder is told
abbrev pub OpensAs : {A S : Type 0} → Opener A S → Option Folder → A → Type 0
OpensAs opener told opened = WhenTold told (λ folder. opener.opens folder ≡ Ok opened)

-- a session that was opened read an input, by turns with what it printed
pub record ReadsOpened {A S : Type 0} (opener : Opener A S) (old new : Outside) (answer : Status) : Type 0 where
  pub opened : A
  pub opens_as : OpensAs opener old.told opened
  pub read : WhenTold old.hearing.left (λ input. HasReadInput (opener.talker opened) input new.hearing.left answer)
  pub turns : WhenTold old.hearing.asked (TakesTurns (opener.talker opened) old.hearing new.hearing old.taken)

-- only a session reads the input, and without one the command is not done
abbrev pub TakesInput : {A S : Type 0} → Opener A S → Outside → Outside → Status → Type 0
TakesInput opener old new answer = ((new.hearing ≡ old.hearing) × (answer ≢ status.Done)) ⊎ ReadsOpened opener old new answer

-- a session had been opened, and all that was taken was answered
abbrev pub HadAnsweredLines : {A S : Type 0} → Opener A S → Outside → Outside → Type 0
HadAnsweredLines {A = A} opener old new =
    (opened : A)
    × (OpensAs opener old.told opened × WhenTold old.hearing.left (λ input. HasAnsweredLines (opener.talker opened) input new.hearing.left old.taken new.taken))

-- this file is the input, and it is too large for the session that was opened
abbrev pub IsTooLarge : {A S : Type 0} → Opener A S → Outside → List ℕ → Type 0
IsTooLarge {A = A} opener old file =
    (file ≡ input_name) × ((opened : A) × (OpensAs opener old.told opened × WhenTold old.hearing.left (λ input. is_large_input (opener.talker opened) input ≡ true)))

-- what such a command promises beyond what holds of all commands
pub record OpenedPromises {A S : Type 0} (opener : Opener A S) (old new : Outside) (answer : Status) : Type 0 where
  -- the input is read no further than it must be. Each time it is asked for more, each whole line before is answered
  pub input : TakesInput opener old new answer
  -- if a read of the input failed, and none of a file, a session had been opened, and all that was taken was answered
  pub answered : answer ≡ status.ReadFault → (CountRose old.counts.reads new.counts.reads → ⊥) → HadAnsweredLines opener old new
  -- a miss was counted exactly if a file is refused for its size, unless that is the input
  pub refused : answer ≡ status.Refused
      → PrintsRefusal old.taken new.taken (λ file why. (new.counts.misses ≡ misses_of_refusal why old.counts.misses)
      ⊎ ((why ≡ reason.TooLarge) × ((new.counts.misses ≡ old.counts.misses) × IsTooLarge opener old file)))

-- it ran, and made no file
pub record OpenedRun {A S : Type 0} (opener : Opener A S) (old new : Outside) (answer : Status) : Type 0 where
  pub call : CallEnds (opened_expected opener old) (λ folder. []) old new answer
  pub is_command : answer ≢ status.Usage
  pub no_divergence : answer ≢ status.Diverged
  pub asks : WhenTold old.told (λ folder. AsksInputs (opener.inputs folder) old.counts new.counts answer)
  pub promises : OpenedPromises opener old new answer
