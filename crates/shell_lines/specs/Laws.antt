-- What holds of the tokens of lines, whatever they are.
use Rattle.std.specs.Prelude.{◌≡◌, ◌↔◌, ℕ, List, Ok, Err}
use Rattle.shell_lines.specs.Grammar.{IsCommand, StopsAtToken}
use Rattle.shell_lines.specs.Lines.{LineCommand, command_spelled}

-- What is computed of tokens is the command that they spell, or the number of the first token that no command could have
-- there. So tokens spell one command at most, and stop at one token.
pub record ExactCommands : Type 0 where
  pub commands : (names ts : List (List ℕ)) (c : LineCommand) → (command_spelled names ts ≡ Ok c) ↔ IsCommand names ts c
  pub stops : (names ts : List (List ℕ)) (n : ℕ) → (command_spelled names ts ≡ Err n) ↔ StopsAtToken names ts n
