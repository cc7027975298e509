-- What holds of where points fire, and of where walks end, whatever the logs are.
use Rattle.std.specs.Prelude.{◌≡◌, ◌↔◌, ℕ, ℤ, suc, ◌<◌, ◌≤◌, true, false, List, All, length, pos, Option, Some, None}
use Rattle.proc_replay.specs.Replaying.{Replaying}
use Rattle.group_state.specs.Place.{GroupPlace, events_of_replays}
use Rattle.expression_text.specs.Expression.{Expression}
use Rattle.point_programs.specs.Variables.{Variable}
use Rattle.shell_points.specs.Firing.{condition_value, firing_lines, has_due_point, is_due_at, is_due_point, place_at, value_at_position, watchpoint_fires}
use Rattle.shell_points.specs.Points.{Point}
use Rattle.shell_points.specs.Returning.{has_stopping_point, last_due}
use Rattle.shell_points.specs.Walking.{last_word, walk_ended, walk_from, walk_limit}

-- k is the greatest position below this one, and at least 1, at which some point fires that may stop there
pub record IsLastDue (start : List Replaying) (points : List Point) (at k : ℕ) : Type 0 where
  pub from_one : 1 ≤ k
  pub below : k < at
  pub due : has_stopping_point start points k ≡ true
  pub none_between : (m : ℕ) → k < m → m < at → has_stopping_point start points m ≡ false

-- no point fires below this position that may stop
abbrev pub NoPointBelow : List Replaying → List Point → ℕ → Type 0
NoPointBelow start points at = (m : ℕ) → m < at → has_stopping_point start points m ≡ false

-- k is the first position after this one, up to a limit, at which some point fires
pub record IsNextDue (start : List Replaying) (points : List Point) (at limit k : ℕ) : Type 0 where
  pub after : at < k
  pub within : k ≤ limit
  pub due : has_due_point start points k ≡ true
  pub none_between : (m : ℕ) → at < m → m < k → has_due_point start points m ≡ false

-- no point fires after this position, up to a limit
abbrev pub NoPointAfter : List Replaying → List Point → ℕ → ℕ → Type 0
NoPointAfter start points at limit = (m : ℕ) → at < m → m ≤ limit → has_due_point start points m ≡ false

-- From this position a walk over points without programs goes to the first at which some point fires, and says what all
-- say that fire there; or it goes to the limit, and says whether that is the last position.
pub data IsContinuedTo (start : List Replaying) (points : List Point) (at limit : ℕ) : ℕ → List ℕ → Type 0 where
  stops : (k : ℕ) → IsNextDue start points at limit k → IsContinuedTo start points at limit k (firing_lines start points k)
  ends : NoPointAfter start points at limit → IsContinuedTo start points at limit limit (last_word start limit)

pub record ExactFiring : Type 0 where
  -- a watchpoint fires where its value at two neighbouring positions is not the same
  pub changes : (start : List Replaying) (x : Expression) (k : ℕ)
      → (watchpoint_fires start x (suc k) ≡ true) ↔ (value_at_position start x k ≡ value_at_position start x (suc k) → ⊥)
  -- a point without a condition fires where it is due, and one with a condition where that has a number other than 0, too
  pub always : (start : List Replaying) (p : Point) (k : ℕ) → p.condition ≡ None → is_due_point start k p ≡ is_due_at start k p.trigger
  pub conditions : (start : List Replaying) (p : Point) (x : Expression) (k : ℕ) → p.condition ≡ Some x
      → (is_due_point start k p ≡ true) ↔ ((is_due_at start k p.trigger ≡ true) × (z : ℤ) × (condition_value (place_at start k) x ≡ Some z) × (z ≡ pos 0 → ⊥))
  -- where `rcontinue` goes
  pub last : (start : List Replaying) (points : List Point) (at k : ℕ) → (last_due start points at ≡ Some k) ↔ IsLastDue start points at k
  pub none_below : (start : List Replaying) (points : List Point) (at : ℕ) → (last_due start points at ≡ None) ↔ NoPointBelow start points at
  -- where `continue` goes, over points without programs
  pub next : (place : GroupPlace) (points : List Point) (variables : List Variable) (most : Option ℕ) (k : ℕ) (text : List ℕ) → place.at ≤ length (events_of_replays place.start)
      → All (λ p. p.program ≡ None) points
      → (walk_from place points variables most ≡ walk_ended k variables text) ↔ IsContinuedTo place.start points place.at (walk_limit place most) k text
