-- The streams of a group at each position of the order of its events.
use Rattle.std.specs.Prelude.{◌≡◌, ◌<◌, ◌≤◌, ℕ, true, List, [], ◌∷◌, ◌++◌, take, slice_get, Some}
use Rattle.lib_calls.specs.declared.entry.Entry.{Entry}
use Rattle.group_order.specs.Order.{NodeEvent}
use Rattle.group_state.specs.Place.{events_of_replays, group_count}
use Rattle.proc_replay.specs.Replaying.{Replaying}
use Rattle.byte_streams.specs.CoveredBytes.{BringsByte, TakesByte}
use Rattle.byte_streams.specs.Traffic.{ReceivedPayload, Received, SendOrReceive, SentPayload, Sent, StreamName, is_covered_position, read_count, written_stream}
use Rattle.streams_command.specs.Streams.{process_at, traffic_of_event, traffic_of_events}

-- the sends and receives of the first k events
abbrev pub traffic_before : List Replaying → ℕ → List SendOrReceive
traffic_before start k = traffic_of_events start (take k (events_of_replays start))

-- the event at this place of the order sent or took this, and nothing else
pub record IsByEvent (start : List Replaying) (place : ℕ) (t : SendOrReceive) : Type 0 where
  pub event : NodeEvent Entry
  pub stands : slice_get (events_of_replays start) place ≡ Some event
  pub does : traffic_of_event (group_count start) (process_at start event.node) event.entry ≡ t ∷ []

-- the byte that stands at place i of a stream at position k: an event before took it, and one before that had sent it
pub record WasBroughtBefore (start : List Replaying) (k : ℕ) (name : StreamName) (i : ℕ) : Type 0 where
  pub byte : ℕ
  pub stands : slice_get (written_stream name (traffic_before start k)) i ≡ Some byte
  pub sent : SentPayload
  pub taken : ReceivedPayload
  pub sending : ℕ
  pub taking : ℕ
  pub first : sending < taking
  pub within : taking < k
  pub sends : IsByEvent start sending (Sent sent)
  pub takes : IsByEvent start taking (Received taken)
  pub brings : BringsByte name i byte sent (traffic_before start sending)
  pub has : TakesByte name i byte taken (traffic_before start taking)

-- a stream at position k: each byte that was read had been sent and taken by events before, and at each later position what was
-- written still stands at the front, and what was covered is covered
pub record IsStreamAt (start : List Replaying) (k : ℕ) (name : StreamName) : Type 0 where
  pub brought : (i : ℕ) → is_covered_position name (traffic_before start k) i ≡ true → WasBroughtBefore start k name i
  pub read : (i : ℕ) → i < read_count name (traffic_before start k) → is_covered_position name (traffic_before start k) i ≡ true
  pub written : (later : ℕ) → k ≤ later → (more : List ℕ) × (written_stream name (traffic_before start later) ≡ written_stream name (traffic_before start k) ++ more)
  pub covered : (later i : ℕ) → k ≤ later → is_covered_position name (traffic_before start k) i ≡ true → is_covered_position name (traffic_before start later) i ≡ true

-- this holds of all logs, also of those of no recording
abbrev pub StreamsAtPositions : Type 0
StreamsAtPositions = (start : List Replaying) (k : ℕ) (name : StreamName) → IsStreamAt start k name
