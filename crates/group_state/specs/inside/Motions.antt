-- The positions at which the nodes of a group had their events.
use Rattle.std.specs.Prelude.{◌≡◌, ℕ, suc, ◌≤◌, ◌==◌, List, [], ◌∷◌, length, take, if◌then◌else◌}
use Rattle.lib_calls.specs.declared.entry.Entry.{Entry}
use Rattle.group_order.specs.Motions.{Motions}
use Rattle.group_order.specs.Order.{NodeEvent}
use Rattle.proc_replay.specs.Replaying.{Replaying}
use Rattle.group_state.specs.Place.{events_of_replays}

-- the positions of a node's events among these, which come after so many others
abbrev pub positions_from : ℕ → ℕ → List (NodeEvent Entry) → List ℕ
positions_from node at [] = []
positions_from node at (e ∷ es) = if e.node == node then suc at ∷ positions_from node (suc at) es else positions_from node (suc at) es

abbrev pub positions : ℕ → List (NodeEvent Entry) → List ℕ
positions node es = positions_from node 0 es

-- those of each node from this one on
abbrev pub motions_from : ℕ → List Replaying → List (NodeEvent Entry) → List (List ℕ)
motions_from node [] es = []
motions_from node (r ∷ rs) es = positions node es ∷ motions_from (suc node) rs es

-- they are those of the group of these replays
pub record AreMotions (start : List Replaying) (m : Motions) : Type 0 where
  pub within : m.reached ≤ length (events_of_replays start)
  pub lists : m.lists ≡ motions_from 0 start (take m.reached (events_of_replays start))
