-- The names of the files that a command reads, and of those that it makes: none that is made takes the place of one that was read.
use Rattle.std.specs.Prelude.{⊤, ℕ, List, Bool, map, bytes_eq, find, Contains, Option, Some, None, Result, Ok, Err}
use Rattle.std.specs.List.{list_any}
use Rattle.command_run.specs.declared.refusal.Reason.TheVariants as reason
use Rattle.command_run.specs.Outcome.{CommandOutcome, CommandStop, CommandWork, and_then, refuses_at_once}

-- no name is one of both
abbrev pub AreApart : List (List ℕ) → List (List ℕ) → Type 0
AreApart read made = (name : List ℕ) → Contains read name → Contains made name → ⊥

abbrev pub was_read : List (List ℕ) → List ℕ → Bool
was_read read name = list_any (bytes_eq name) read

-- the first of the names to be made that was read
abbrev pub first_clash : List (List ℕ) → List (List ℕ) → Option (List ℕ)
first_clash read made = find (was_read read) made

abbrev pub refused_over_input : Option (List ℕ) → Result ⊤ CommandStop
refused_over_input None = Ok tt
refused_over_input (Some name) = Err (refuses_at_once name reason.OverInput)

-- it is refused
abbrev pub unless_over_input : List (List ℕ) → List (List ℕ) → Result ⊤ CommandStop
unless_over_input read made = refused_over_input (first_clash read made)

-- a command's work, unless it would make a file under a name that was read
abbrev pub apart_work : List (List ℕ) → CommandWork → CommandOutcome
apart_work read work = and_then (unless_over_input read (map (λ file. file.0) work.writes)) (λ _. Ok work)
