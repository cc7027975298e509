-- What an event touched.
use Rattle.std.specs.Prelude.{◌≡◌, ℕ, ◌-◌, ◌<◌, ◌≤◌, ◌==◌, Bool, List, length}
use Rattle.std.specs.List.{list_any}
use Rattle.watch_expr.specs.declared.reads.Place.{Place}
use Rattle.watch_expr.specs.declared.reads.Place.TheVariants as place
use Rattle.watch_expr.specs.Reads.{AreMemories, SameAtPlace}
use Rattle.watch_expr.specs.View.{Node}

-- the node that a place is of
abbrev pub node_of : Place → ℕ
node_of (place.Page node page) = node
node_of (place.Global node n) = node
node_of (place.Motion node) = node
node_of (place.Size node) = node

-- What marks tell of the states at the positions up to this one. No mark is above it, only a node that moved was touched, and
-- what the last event did not touch is as it was just before.
pub record MarksTell (states : ℕ → List Node) (at : ℕ) (marks : Place → ℕ) : Type 0 where
  pub even : (k : ℕ) → k ≤ at → length (states k) ≡ length (states at)
  pub sound : AreMemories (states at)
  pub no_later : (l : Place) → marks l ≤ at
  pub moves : (l : Place) → 0 < at → marks l ≡ at → marks (place.Motion (node_of l)) ≡ at
  pub unmarked : (l : Place) → 0 < at → (marks l ≡ at → ⊥) → AreMemories (states (at - 1)) → SameAtPlace (states (at - 1)) (states at) l

-- some place of these has this mark
abbrev pub meets : (Place → ℕ) → ℕ → List Place → Bool
meets marks at places = list_any (λ l. marks l == at) places
