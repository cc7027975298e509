-- What is read of a file whose bytes are known.
use Rattle.std.specs.Prelude.{◌≡◌, List, ℕ, ◌++◌, Option}
use Rattle.std.specs.Io.KnownBytes.{Consumes}

-- a first part of the bytes that were left is no longer left, and follows those that were there
abbrev pub MovesFrontOfBytes : Option (List ℕ) → Option (List ℕ) → List ℕ → List ℕ → Type 0
MovesFrontOfBytes left now before after = (piece : List ℕ) × Consumes left now piece × (after ≡ before ++ piece)
