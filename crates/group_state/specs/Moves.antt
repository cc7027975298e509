-- How a group moves.
use Rattle.std.specs.Prelude.{◌≡◌, ℕ, zero, suc, ◌+◌, ◌≤◌, ◌↔◌, Bool, IsTrue, IsFalse, List, Option, Some, None, length, option_map, slice_get}
use Rattle.lib_calls.specs.Entry.{entry_of}
use Rattle.lib_calls.specs.declared.entry.Entry.{Entry}
use Rattle.group_order.specs.Order.{NodeEvent}
use Rattle.group_state.specs.declared.event.GroupEvent.{GroupEvent}
use Rattle.group_state.specs.Place.{GroupPlace, events_of_replays}

abbrev pub event_of : GroupEvent → NodeEvent Entry
event_of e = record { node = e.node; entry = entry_of e.entry }

-- the position after an event, where there was one
abbrev pub place_after : GroupPlace → Option GroupEvent → GroupPlace
place_after place None = place
place_after place (Some e) = record place { at = place.at + 1 }

-- the event is the next of the order, which is made; none comes exactly at the end
pub record GroupMoves (old new : GroupPlace) (given : Option GroupEvent) : Type 0 where
  pub gives : option_map event_of given ≡ slice_get (events_of_replays old.start) old.at
  pub place : new ≡ place_after old given

-- the group is at position k, where there is one, and else as it was
pub record IsAtPosition (old : GroupPlace) (k : ℕ) (new : GroupPlace) (there : Bool) : Type 0 where
  pub exact : IsTrue there ↔ k ≤ length (events_of_replays old.start)
  pub start : new.start ≡ old.start
  pub at : IsTrue there → new.at ≡ k
  pub stays : IsFalse there → new.at ≡ old.at

abbrev pub event_before : List (NodeEvent Entry) → ℕ → Option (NodeEvent Entry)
event_before es zero = None
event_before es (suc n) = slice_get es n

-- the event that was made last
abbrev pub last_event_of : GroupPlace → Option (NodeEvent Entry)
last_event_of place = event_before (events_of_replays place.start) place.at
