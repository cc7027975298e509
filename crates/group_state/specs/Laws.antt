-- What holds of the order of a group's events, and of what each of them changes, for any logs.
use Rattle.std.specs.Prelude.{◌≡◌, ℕ, suc, ◌<◌, false, List, map, slice_get, slice_set, Some, None}
use Rattle.lamport_tag.specs.declared.Tag.{Tag}
use Rattle.lib_calls.specs.declared.entry.Entry.{Entry}
use Rattle.lib_calls.specs.Entry.{IsShaped}
use Rattle.guest_process.specs.Legal.{reason}
use Rattle.guest_process.specs.Next.{next}
use Rattle.guest_process.specs.State.{State}
use Rattle.group_order.specs.Order.{IsOrder, NodeEvent}
use Rattle.proc_replay.specs.Course.{entries_ahead}
use Rattle.proc_replay.specs.Replaying.{Replaying}
use Rattle.expression_text.specs.Expression.{Expression}
use Rattle.watch_expr.specs.Reads.{AreMemories, no_variables, reads_of_expression}
use Rattle.watch_expr.specs.Value.{value}
use Rattle.watch_expr.specs.View.{Node}
use Rattle.group_state.specs.Nodes.{nodes_at}
use Rattle.group_state.specs.Place.{AreGroupReplays, ReplaysFit, entry_clock, events_of_replays, states_of_nodes}
use Rattle.group_state.specs.Touch.{is_met_by_event}

-- it is sorted by clock and then by node, and has of each node its accepted events, each after the other; and
-- no other list is
abbrev pub Ordered : Type 0
Ordered = (start : List Replaying) → ReplaysFit start
    → IsOrder entry_clock (map entries_ahead start) (events_of_replays start) × ((es : List (NodeEvent Entry)) → IsOrder entry_clock (map entries_ahead start) es → es ≡ events_of_replays start)

-- the event of the clock and the process that an event's tag names comes before it, whatever the logs say
abbrev pub SendsFirst : Type 0
SendsFirst = (start : List Replaying) → ReplaysFit start → (i j : ℕ) (sent taken : NodeEvent Entry) (tag : Tag)
    → slice_get (events_of_replays start) i ≡ Some sent → slice_get (events_of_replays start) j ≡ Some taken
    → taken.entry.tag ≡ Some tag → sent.entry.clock ≡ tag.clock → i < j

-- the event after the first k is legal in the state of its node, and that node alone goes on, to the next state
pub record IsStepOfGroup (start : List Replaying) (k : ℕ) (e : NodeEvent Entry) : Type 0 where
  pub state : State
  pub stands : slice_get (states_of_nodes start k) e.node ≡ Some state
  pub shaped : IsShaped e.entry
  pub legal : reason state e.entry ≡ None
  pub after : states_of_nodes start (suc k) ≡ slice_set (states_of_nodes start k) e.node (next state e.entry)

-- the states at all positions, one after the other
pub record Stepwise : Type 0 where
  pub begins : (start : List Replaying) → states_of_nodes start 0 ≡ map (λ r. r.state) start
  pub steps : (start : List Replaying) → AreGroupReplays start → ReplaysFit start → (k : ℕ) (e : NodeEvent Entry) → slice_get (events_of_replays start) k ≡ Some e → IsStepOfGroup start k e

-- the expression has the same value in both, and reads the same there
pub record HasSameReads (old new : List Node) (x : Expression) : Type 0 where
  pub value : value new no_variables x ≡ value old no_variables x
  pub reads : reads_of_expression new x ≡ reads_of_expression old x

-- an event that meets nothing of what an expression reads leaves its value, and what it reads, as they were
abbrev pub UnmetStays : Type 0
UnmetStays =
    (start : List Replaying) → AreGroupReplays start → ReplaysFit start → (k : ℕ) (x : Expression)
    → AreMemories (nodes_at (record { start = start; at = k })) → AreMemories (nodes_at (record { start = start; at = suc k }))
    → is_met_by_event start (suc k) x ≡ false → HasSameReads (nodes_at (record { start = start; at = k })) (nodes_at (record { start = start; at = suc k })) x
