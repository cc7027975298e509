-- Over groups that a session cannot tell apart the same points fire, and say the same.
use Rattle.std.proofs.Common.{◌≡◌, ℕ, zero, suc, ◌&&◌, cond, List, [], map, Option, Some, None, option_map, refl}
use Rattle.std.specs.List.{flat_map}
use Rattle.lib_calls.specs.declared.entry.Entry.{Entry}
use Rattle.group_order.specs.Order.{NodeEvent}
use Rattle.proc_replay.specs.Replaying.{Replaying}
use Rattle.expression_text.specs.Expression.{Expression}
use Rattle.watch_expr.specs.Reads.{no_variables}
use Rattle.watch_expr.specs.Value.{value, value_in_event}
use Rattle.point_programs.specs.Running.{is_nonzero}
use Rattle.group_state.specs.Moves.{event_before, last_event_of}
use Rattle.group_state.specs.Nodes.{nodes_at, seen_node}
use Rattle.shell_points.specs.Firing.{condition_value, firing_line, firing_line_by, firing_lines, is_due_at, is_due_by, is_due_point, meets_condition, node_of_event, place_at, point_said_at, reading}
use Rattle.shell_points.specs.Points.{Break, Point, Trigger, Watch}
use Rattle.friday_shell.specs.SameGroup.{SameGroup}

module _ (a b : List Replaying) (same : SameGroup a b) where
  pub same_nodes : (k : ℕ) → nodes_at (place_at a k) ≡ nodes_at (place_at b k)
  same_nodes k = λ i. map seen_node (same.states k i)

  pub same_last_event : (k : ℕ) → last_event_of (place_at a k) ≡ last_event_of (place_at b k)
  same_last_event k = λ i. event_before (same.events i) k

  pub same_node_of_event : (k : ℕ) → node_of_event (place_at a k) ≡ node_of_event (place_at b k)
  same_node_of_event k = λ i. option_map (λ (e : NodeEvent Entry). e.node) (same_last_event k i)

  same_reading : (k : ℕ) (t : Trigger) → reading a k t ≡ reading b k t
  same_reading k (Watch x) = λ i. value (same_nodes k i) no_variables x
  same_reading k (Break of_node kind) = refl

  same_condition : (k : ℕ) (x : Expression) → condition_value (place_at a k) x ≡ condition_value (place_at b k) x
  same_condition k x = λ i. value_in_event (same_nodes k i) no_variables (same_node_of_event k i) x

  same_meets : (k : ℕ) (c : Option Expression) → meets_condition (place_at a k) c ≡ meets_condition (place_at b k) c
  same_meets k None = refl
  same_meets k (Some x) = λ i. is_nonzero (same_condition k x i)

  same_due_at : (k : ℕ) (t : Trigger) → is_due_at a k t ≡ is_due_at b k t
  same_due_at zero t = refl
  same_due_at (suc k) t = λ i. is_due_by (same_reading k t i) (same_reading (suc k) t i) (same_last_event (suc k) i) t

  pub same_due_point : (k : ℕ) (p : Point) → is_due_point a k p ≡ is_due_point b k p
  same_due_point k p = λ i. same_due_at k p.trigger i && same_meets k p.condition i

  pub same_firing_line : (k number : ℕ) (t : Trigger) → firing_line a k number t ≡ firing_line b k number t
  same_firing_line zero number t = refl
  same_firing_line (suc k) number t = λ i. firing_line_by (same_reading k t i) (same_reading (suc k) t i) number t

  same_said : (k : ℕ) (p : Point) → point_said_at a k p ≡ point_said_at b k p
  same_said k p = λ i. cond (same_due_point k p i) (same_firing_line k p.number p.trigger i) []

  pub same_firing_lines : (k : ℕ) (points : List Point) → firing_lines a points k ≡ firing_lines b points k
  same_firing_lines k points = λ i. flat_map (λ p. same_said k p i) points
