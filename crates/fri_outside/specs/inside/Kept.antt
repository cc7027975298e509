-- How objects in memory keep what contracts see of them.
use Rattle.std.specs.Prelude.{ℕ, List, String, string_bytes, Vec, map, take, drop, Some, ◌≤◌, ◌+◌, length, ◌≡◌, [], ◌∷◌, ◌++◌, Result, Ok, Err, IfOk, MatchResult}
use Rattle.std.specs.FinMap.{from_entries}
use Rattle.fri_outside.specs.declared.stream.Failed.{Failed}
use Rattle.fri_outside.specs.declared.files.WriteError.{WriteError}
use Rattle.fri_outside.specs.Outside.{Folder, after_sink_write}
use Rattle.fri_outside.specs.Terminal.{Asking}
use Rattle.fri_outside.specs.Memory.{TerminalInMemory}

-- an entry, as bytes by a name
abbrev pub named_bytes : {A B : Type 0} → String A × Vec ℕ B → List ℕ × List ℕ
named_bytes entry = (string_bytes entry.0, entry.1.items)

-- the files that a map's entries stand for
abbrev pub folder_of : {A B : Type 0} → List (String A × Vec ℕ B) → Folder
folder_of entries = from_entries (map named_bytes entries)

-- a time at which bytes were given, where this was said and given in all: how many bytes had been said and given by
-- then, and how many came
abbrev pub asking_at : List ℕ → List ℕ → ℕ → ℕ → ℕ → Asking
asking_at said given said_by given_by count = record { said = Some (take said_by said); given = take count (drop given_by given) }

-- the bytes that it tells of are there
pub record IsAskingMark (said given : List ℕ) (said_by given_by count : ℕ) : Type 0 where
  pub is_said : said_by ≤ length said
  pub is_given : given_by + count ≤ length given

-- a read of a terminal in memory gave these bytes, and noted it
pub record GivesNoted (old new : TerminalInMemory) (given : List ℕ) : Type 0 where
  pub bytes : old.input.rest ≡ given ++ new.input.rest
  pub end : given ≡ [] → old.input.rest ≡ []
  pub asked : new.asked ≡ old.asked ++ record { said = Some old.out.bytes; given = given } ∷ []

-- nothing was given
pub record GivesNoBytes (old new : TerminalInMemory) : Type 0 where
  pub left : new.input.rest ≡ old.input.rest
  pub asked : new.asked ≡ old.asked

-- what a read of a terminal in memory did, which filled a buffer so. Nothing was said, and no failure is counted yet
abbrev pub GivesBytes : TerminalInMemory → TerminalInMemory → Result ℕ Failed → List ℕ → Type 0
GivesBytes old new (Ok count) buffer = GivesNoted old new (take count buffer)
GivesBytes old new (Err failed) buffer = GivesNoBytes old new

pub record HearsInMemory (old new : TerminalInMemory) (result : Result ℕ Failed) (buffer : List ℕ) : Type 0 where
  pub gives : GivesBytes old new result buffer
  pub out : new.out ≡ old.out
  pub faults : new.faults ≡ old.faults

-- a write of a terminal in memory took the whole piece, or nothing
pub record SaysInMemory (old new : TerminalInMemory) (piece : List ℕ) (result : Result ℕ WriteError) : Type 0 where
  pub whole : IfOk result (λ count. count ≡ length piece)
  pub bytes : MatchResult result (λ _. new.out.bytes ≡ old.out.bytes ++ piece) (λ _. new.out.bytes ≡ old.out.bytes)
  pub counted : new.out.faults ≡ after_sink_write old.out.faults result
  pub input : new.input ≡ old.input
  pub asked : new.asked ≡ old.asked
  pub faults : new.faults ≡ old.faults
