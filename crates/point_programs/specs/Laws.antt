-- What holds of programs, whatever their tokens are.
use Rattle.std.specs.Prelude.{◌≡◌, ◌↔◌, ℕ, List, Ok, Err}
use Rattle.point_programs.specs.Grammar.{IsProgram, StopsAtTokens}
use Rattle.point_programs.specs.Reading.{program_of}
use Rattle.point_programs.specs.Tree.{Statements}

-- What is computed of tokens is the program that they spell, or the tokens from the first one on that no program could
-- have there. So tokens spell one program at most, and stop at one place.
pub record ExactPrograms : Type 0 where
  pub programs : (names ts : List (List ℕ)) (p : Statements) → (program_of names ts ≡ Ok p) ↔ IsProgram names ts p
  pub stops : (names ts left : List (List ℕ)) → (program_of names ts ≡ Err left) ↔ StopsAtTokens names ts left
