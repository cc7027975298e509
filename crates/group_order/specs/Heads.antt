-- Which node comes next, by the clocks of the nodes' next events.
use Rattle.std.specs.Prelude.{◌≡◌, ℕ, ◌≤◌, List, Option, Some, None}
use Rattle.std.specs.List.{slice_index_or}

-- the clock of a node, where it has one
abbrev pub clock_of_node : List (Option ℕ) → ℕ → Option ℕ
clock_of_node heads node = slice_index_or heads node None

-- the node has the least clock, and is the least node that has it
pub record IsFirstNode (heads : List (Option ℕ)) (node : ℕ) : Type 0 where
  pub clock : ℕ
  pub has : clock_of_node heads node ≡ Some clock
  pub least : (other at : ℕ) → clock_of_node heads other ≡ Some at → clock ≤ at
  pub tie : (other : ℕ) → clock_of_node heads other ≡ Some clock → node ≤ other

-- no node has a clock
abbrev pub AreNoHeads : List (Option ℕ) → Type 0
AreNoHeads heads = (node : ℕ) → clock_of_node heads node ≡ None

abbrev pub IsNextNode : List (Option ℕ) → Option ℕ → Type 0
IsNextNode heads None = AreNoHeads heads
IsNextNode heads (Some node) = IsFirstNode heads node
