-- Where points fire, and what they say there.
use Rattle.std.specs.Prelude.{ℕ, zero, suc, ◌==◌, ◌&&◌, Bool, true, false, not, List, [], ◌++◌, codes, decimal, Option, Some, None, option_map, ℤ, if◌then◌else◌}
use Rattle.std.specs.List.{flat_map, list_any}
use Rattle.call_table.specs.Table.{row}
use Rattle.call_table.specs.declared.kind.Kind.{Kind}
use Rattle.group_order.specs.Order.{NodeEvent}
use Rattle.lib_calls.specs.declared.entry.Entry.{Entry}
use Rattle.proc_replay.specs.Replaying.{Replaying}
use Rattle.group_state.specs.Moves.{last_event_of}
use Rattle.group_state.specs.Place.{GroupPlace}
use Rattle.group_state.specs.Nodes.{nodes_at}
use Rattle.expression_text.specs.Expression.{Expression}
use Rattle.watch_expr.specs.Reads.{no_variables}
use Rattle.watch_expr.specs.Value.{value, value_in_event}
use Rattle.point_programs.specs.Running.{is_nonzero, value_word}
use Rattle.page_watch.specs.Firing.{is_same_value}
use Rattle.shell_points.specs.Points.{Break, Point, Trigger, Watch}

-- the group at position k
abbrev pub place_at : List Replaying → ℕ → GroupPlace
place_at start k = record { start = start; at = k }

-- ---- what a point reads

-- the value of an expression at position k
abbrev pub value_at_position : List Replaying → Expression → ℕ → Option ℤ
value_at_position start x k = value (nodes_at (place_at start k)) no_variables x

-- the value of a watchpoint's expression at position k; a breakpoint reads nothing
abbrev pub reading : List Replaying → ℕ → Trigger → Option ℤ
reading start k (Watch x) = value_at_position start x k
reading start k (Break of_node kind) = None

-- ---- where it fires, by what it read before and reads now

abbrev pub is_of_node : Option ℕ → ℕ → Bool
is_of_node None n = true
is_of_node (Some wanted) n = wanted == n

abbrev pub is_of_kind : Option Kind → Entry → Bool
is_of_kind None e = true
is_of_kind (Some kind) e = (row e.call.kind).number == (row kind).number

abbrev pub is_event_of_kind : Option ℕ → Option Kind → Option (NodeEvent Entry) → Bool
is_event_of_kind of_node kind None = false
is_event_of_kind of_node kind (Some e) = is_of_node of_node e.node && is_of_kind kind e.entry

-- A watchpoint fires where it reads another value than before, a breakpoint where the event between is of its kind and node.
abbrev pub is_due_by : Option ℤ → Option ℤ → Option (NodeEvent Entry) → Trigger → Bool
is_due_by before now event (Watch x) = not (is_same_value before now)
is_due_by before now event (Break of_node kind) = is_event_of_kind of_node kind event

-- from one value to another
abbrev pub change_by : Option ℤ → Option ℤ → List ℕ
change_by before now = value_word before ++ (codes " -> " ++ value_word now)

-- the line that it then says
abbrev pub firing_line_by : Option ℤ → Option ℤ → ℕ → Trigger → List ℕ
firing_line_by before now number (Watch x) = codes "watch " ++ (decimal number ++ (codes ": " ++ (change_by before now ++ codes "\n")))
firing_line_by before now number (Break of_node kind) = codes "break " ++ (decimal number ++ codes "\n")

-- ---- on which condition

-- the node of the event that led to a place
abbrev pub node_of_event : GroupPlace → Option ℕ
node_of_event place = option_map (λ (e : NodeEvent Entry). e.node) (last_event_of place)

-- the value of a condition
abbrev pub condition_value : GroupPlace → Expression → Option ℤ
condition_value place x = value_in_event (nodes_at place) no_variables (node_of_event place) x

-- a condition is met where its value is a number other than 0; one that is left out is met everywhere
abbrev pub meets_condition : GroupPlace → Option Expression → Bool
meets_condition place None = true
meets_condition place (Some x) = is_nonzero (condition_value place x)

-- ---- at a position

-- position k is compared with the one before, so none fires at position 0
abbrev pub is_due_at : List Replaying → ℕ → Trigger → Bool
is_due_at start zero t = false
is_due_at start (suc k) t = is_due_by (reading start k t) (reading start (suc k) t) (last_event_of (place_at start (suc k))) t

-- a watchpoint on this expression fires at position k
abbrev pub watchpoint_fires : List Replaying → Expression → ℕ → Bool
watchpoint_fires start x k = is_due_at start k (Watch x)

abbrev pub firing_line : List Replaying → ℕ → ℕ → Trigger → List ℕ
firing_line start zero number t = []
firing_line start (suc k) number t = firing_line_by (reading start k t) (reading start (suc k) t) number t

-- a point fires at position k, where its condition is met there
abbrev pub is_due_point : List Replaying → ℕ → Point → Bool
is_due_point start k p = is_due_at start k p.trigger && meets_condition (place_at start k) p.condition

-- some point fires at position k
abbrev pub has_due_point : List Replaying → List Point → ℕ → Bool
has_due_point start points k = list_any (is_due_point start k) points

-- the line of a point at position k, if it fires there
abbrev pub point_said_at : List Replaying → ℕ → Point → List ℕ
point_said_at start k p = if is_due_point start k p then firing_line start k p.number p.trigger else []

-- the lines of all points that fire at position k, in their order, whether programs are attached to them or not
abbrev pub firing_lines : List Replaying → List Point → ℕ → List ℕ
firing_lines start points k = flat_map (point_said_at start k) points
