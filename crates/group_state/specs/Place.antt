-- A group of replays at a position.
use Rattle.std.specs.Prelude.{◌≡◌, ℕ, suc, ◌<◌, ◌≤◌, List, [], ◌∷◌, All, length, map, take}
use Rattle.std.specs.List.{AllByRecursion}
use Rattle.lib_calls.specs.declared.entry.Entry.{Entry}
use Rattle.call_log.specs.Limits.{most_log}
use Rattle.call_log.specs.Log.{entries_of}
use Rattle.guest_process.specs.Fits.{StateFits}
use Rattle.guest_process.specs.Replay.{state_after}
use Rattle.guest_process.specs.State.{State}
use Rattle.group_order.specs.Order.{NodeEvent, of_node, order_of_events}
use Rattle.lamport_tag.specs.Limits.{most_processes}
use Rattle.proc_replay.specs.Course.{entries_ahead}
use Rattle.proc_replay.specs.Replaying.{Replaying}

-- the replays at position 0, in order of their processes' numbers, and how many events have been made
pub record GroupPlace : Type 0 where
  pub start : List Replaying
  pub at : ℕ

abbrev pub no_logs : GroupPlace
no_logs = record { start = []; at = 0 }

-- the names of the processes
abbrev pub node_names : List Replaying → List (List ℕ)
node_names start = map (λ r. r.head.name) start

-- ---- which replays make a group

-- of the first of them, if there is one, the number of processes that its head names
abbrev pub group_count : List Replaying → ℕ
group_count [] = 0
group_count (r ∷ rs) = r.head.count

-- each process's number is below those after it
abbrev pub AscendsByProcess : List Replaying → Type 0
AscendsByProcess [] = Unit {0}
AscendsByProcess (r ∷ rs) = AllByRecursion (λ s. r.head.process < s.head.process) rs × AscendsByProcess rs

-- some of one group's logs, in order of their processes' numbers, each before its first event and within the limit
pub record AreGroupReplays (replayers : List Replaying) : Type 0 where
  pub few : length replayers ≤ most_processes
  pub fresh : All (λ r. r.state.events ≡ 0) replayers
  pub one : All (λ r. r.head.count ≡ group_count replayers) replayers
  pub ascends : AscendsByProcess replayers
  pub within : All (λ r. length r.left.bytes ≤ most_log) replayers

-- each process is in the ranges of its module
abbrev pub ReplaysFit : List Replaying → Type 0
ReplaysFit replayers = All (λ r. StateFits r.state) replayers

-- ---- the order of events, and the state after the first of them

abbrev pub entry_clock : Entry → ℕ
entry_clock e = e.clock

-- the accepted events of all logs, by clock and then by node
abbrev pub events_of_replays : List Replaying → List (NodeEvent Entry)
events_of_replays start = order_of_events entry_clock (map entries_ahead start)

-- how many of these events are a node's
abbrev pub node_event_count : ℕ → List (NodeEvent Entry) → ℕ
node_event_count node es = length (of_node node es)

-- the process of a log after so many of its entries
abbrev pub after_entries : Replaying → ℕ → State
after_entries r n = state_after r.state (entries_of r.left) n

-- each node from this one on, after as many of its entries as it has events among these
abbrev pub states_from : ℕ → List Replaying → List (NodeEvent Entry) → List State
states_from node [] es = []
states_from node (r ∷ rs) es = after_entries r (node_event_count node es) ∷ states_from (suc node) rs es

-- the state of each node after the first k events of the group
abbrev pub states_of_nodes : List Replaying → ℕ → List State
states_of_nodes start k = states_from 0 start (take k (events_of_replays start))
