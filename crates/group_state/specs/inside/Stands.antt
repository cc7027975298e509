-- Where groups stand.
use Rattle.std.specs.Prelude.{◌≡◌, ℕ, suc, ◌≤◌, List, [], ◌∷◌, All, length, option_map, take}
use Rattle.guest_memory.specs.Memory.{IsMemory}
use Rattle.lib_calls.specs.declared.entry.Entry.{Entry}
use Rattle.group_order.specs.Order.{NodeEvent}
use Rattle.proc_replay.specs.Course.{after_turns}
use Rattle.proc_replay.specs.Replaying.{Replaying}
use Rattle.group_state.specs.declared.stand.Stand.{Stand}
use Rattle.group_state.specs.Moves.{event_of, last_event_of}
use Rattle.group_state.specs.Place.{events_of_replays, node_event_count}

-- each replay from this node on, after as many turns as it has events among these
abbrev pub replayers_from : ℕ → List Replaying → List (NodeEvent Entry) → List Replaying
replayers_from node [] es = []
replayers_from node (r ∷ rs) es = after_turns r (node_event_count node es) ∷ replayers_from (suc node) rs es

-- the memory of each process is one: whole pages, no more than its maximum
abbrev pub AreSoundMemories : List Replaying → Type 0
AreSoundMemories replayers = All (λ r. IsMemory r.state.store.memory) replayers

-- the group of these replays stands so at some position: they had the turns of the events before it
pub record IsStand (start : List Replaying) (stand : Stand) : Type 0 where
  pub replayers : stand.replayers.items ≡ replayers_from 0 start (take stand.at (events_of_replays start))
  pub within : stand.at ≤ length (events_of_replays start)
  pub last : option_map event_of stand.last ≡ last_event_of (record { start = start; at = stand.at })
  pub sound : AreSoundMemories stand.replayers.items

-- and so it does at each of several
abbrev pub AreStands : List Replaying → List Stand → Type 0
AreStands start stands = All (IsStand start) stands

-- both are where the group is
pub record SameStand (stand copy : Stand) : Type 0 where
  pub replayers : copy.replayers.items ≡ stand.replayers.items
  pub at : copy.at ≡ stand.at
  pub last : copy.last ≡ stand.last

-- the new ones are where a group is, if the old are
abbrev pub KeepsCheckpoints : List Stand → List Stand → Type 0
KeepsCheckpoints old new = (start : List Replaying) → AreStands start old → AreStands start new

-- if the old are and this one is
abbrev pub KeepsStands : List Stand → Stand → List Stand → Type 0
KeepsStands old here new = (start : List Replaying) → AreStands start old → IsStand start here → AreStands start new
