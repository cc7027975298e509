-- What is seen of a node.
use Rattle.std.proofs.Common.{◌≡◌, ℕ, zero, suc, List, [], ◌∷◌, length, map, slice_get, Some, option_map, refl, ap, ◌∙◌}
use Rattle.lib_calls.specs.declared.entry.Entry.{Entry}
use Rattle.group_order.specs.Order.{NodeEvent}
use Rattle.guest_process.specs.State.{State}
use Rattle.proc_replay.specs.Replaying.{Replaying}
use Rattle.group_state.specs.Place.{GroupPlace, states_of_nodes, states_from}
use Rattle.group_state.specs.Nodes.{nodes_at, seen_node}

-- a node that is there
pub node_at : (states : List State) (node : ℕ) (S : State) → slice_get states node ≡ Some S → slice_get (map seen_node states) node ≡ Some (seen_node S)
node_at [] node S at = cc
node_at (T ∷ states) zero S at = ap (option_map seen_node) at
node_at (T ∷ states) (suc node) S at = node_at states node S at

-- there is a state for each replay
pub states_length : (i : ℕ) (rs : List Replaying) (es : List (NodeEvent Entry)) → length (states_from i rs es) ≡ length rs
states_length i [] es = refl
states_length i (r ∷ rs) es = ap suc (states_length (suc i) rs es)

map_length : (states : List State) → length (map seen_node states) ≡ length states
map_length [] = refl
map_length (S ∷ states) = ap suc (map_length states)

-- and a node for each
pub node_for_each : (place : GroupPlace) → length (nodes_at place) ≡ length place.start
node_for_each place = map_length (states_of_nodes place.start place.at) ∙ states_length 0 place.start _

pub states_for_each : (place : GroupPlace) → length (nodes_at place) ≡ length (states_of_nodes place.start place.at)
states_for_each place = map_length (states_of_nodes place.start place.at)
