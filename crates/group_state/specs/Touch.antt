-- What the events of a group touch.
use Rattle.std.specs.Prelude.{ℕ, zero, suc, ◌+◌, ◌==◌, ◌&&◌, Bool, false, List, count_by, slice_get, slice_index_or, Option, Some, None, if◌then◌else◌}
use Rattle.std.specs.List.{list_any}
use Rattle.guest_memory.specs.Memory.{stamp_of}
use Rattle.lib_calls.specs.declared.entry.Entry.{Entry}
use Rattle.guest_process.specs.State.{State}
use Rattle.group_order.specs.Order.{NodeEvent}
use Rattle.proc_replay.specs.Replaying.{Replaying}
use Rattle.watch_expr.specs.declared.reads.Place.{Place as Location}
use Rattle.watch_expr.specs.declared.reads.Place.TheVariants as location
use Rattle.expression_text.specs.Expression.{Expression}
use Rattle.watch_expr.specs.Reads.{reads_of_expression}
use Rattle.page_watch.specs.Touch.{node_of}
use Rattle.group_state.specs.Moves.{event_before}
use Rattle.group_state.specs.Place.{events_of_replays, states_of_nodes}
use Rattle.group_state.specs.Nodes.{nodes_at}

-- the number of the event of its process that touched it last: that wrote to a byte of the page, set the global, or made
-- the memory larger, also where an equal value was written. Each event moves its process. 0 where none did
abbrev pub mark_in : State → Location → ℕ
mark_in S (location.Page node page) = stamp_of S.store.memory page
mark_in S (location.Global node n) = slice_index_or S.store.global_stamps n 0
mark_in S (location.Motion node) = S.events
mark_in S (location.Size node) = S.store.size_stamp

-- the last event of the process touched it
abbrev pub is_touched_in : Option State → Location → Bool
is_touched_in None l = false
is_touched_in (Some S) l = mark_in S l == S.events

-- the event was of its node, and touched it
abbrev pub is_touched_by : Option (NodeEvent Entry) → List State → Location → Bool
is_touched_by None now l = false
is_touched_by (Some e) now l = e.node == node_of l && is_touched_in (slice_get now (node_of l)) l

-- the event that came to position k touched it
abbrev pub is_touched_at : List Replaying → ℕ → Location → Bool
is_touched_at start k l = is_touched_by (event_before (events_of_replays start) k) (states_of_nodes start k) l

-- the last position up to this one whose event touched it, and 0 where none did
abbrev pub mark_of_place : List Replaying → ℕ → Location → ℕ
mark_of_place start zero l = 0
mark_of_place start (suc k) l = if is_touched_at start (suc k) l then suc k else mark_of_place start k l

-- the event that came to position k touched something that the expression read just before
abbrev pub is_met_by_event : List Replaying → ℕ → Expression → Bool
is_met_by_event start zero x = false
is_met_by_event start (suc k) x = list_any (is_touched_at start (suc k)) (reads_of_expression (nodes_at (record { start = start; at = k })) x)

-- how often that is so, for each of these expressions, at so many positions after this one
abbrev pub watch_ticks : List Replaying → List Expression → ℕ → ℕ → ℕ
watch_ticks start xs at zero = 0
watch_ticks start xs at (suc n) = watch_ticks start xs at n + count_by (is_met_by_event start (at + suc n)) xs
