-- What `streams` says of the logs of a recording.
use Rattle.std.specs.Prelude.{◌≡◌, ◌≢◌, ◌<◌, ◌≤◌, ℕ, IsTrue, List, slice_get, Some}
use Rattle.fri_outside.specs.Outside.{Folder}
use Rattle.lamport_tag.specs.declared.Tag.{Tag}
use Rattle.lib_calls.specs.Traffic.{is_taken}
use Rattle.lib_calls.specs.declared.entry.Entry.{Entry}
use Rattle.group_order.specs.Order.{node_event}
use Rattle.group_record.specs.Run.{processes_in_group}
use Rattle.group_state.specs.Place.{events_of_replays}
use Rattle.group_state.specs.Tally.{AcceptedEvent}
use Rattle.proc_replay.specs.Replaying.{Replaying}
use Rattle.log_pairs.specs.Pairs.{Pair}
use Rattle.byte_streams.specs.declared.mark.PayloadMark.TheVariants.{Strange}
use Rattle.byte_streams.specs.Traffic.{ReceivedPayload, SentPayload, mark_of_receive, mark_of_send}
use Rattle.headline.specs.Headline.{IsShown, sorted_of}
use Rattle.headline.specs.Shown.{FromOutside, FromSend, ReceivedDatagram, RecordedRun}
use Rattle.lamport_tag.specs.Limits.{most_clock}
use Rattle.streams_command.specs.Positions.{traffic_before}

-- what process q sent by this event
abbrev pub sending_of : ℕ → Entry → SentPayload
sending_of q e = record { from = q; clock = e.clock; to = e.call.a0; payload = e.outgoing }

-- the tag of that send
abbrev pub tag_of : ℕ → Entry → Tag
tag_of q e = record { sender = q; clock = e.clock }

-- what process p took by this event, after this tag
abbrev pub receiving_of : ℕ → Tag → Entry → ReceivedPayload
receiving_of p tag e = record { by = p; tag = tag; payload = e.incoming }

-- The send, an event of a node, comes before place j of the order. There what it sent was taken, under its name; and to the
-- streams this is not strange, unless the send is.
pub record IsSendTaken (start : List Replaying) (j : ℕ) (taken : AcceptedEvent) (node : ℕ) (sent : AcceptedEvent) : Type 0 where
  pub place : ℕ
  pub before : place < j
  pub stands : slice_get (events_of_replays start) place ≡ Some (node_event node sent.entry)
  pub named : taken.entry.tag ≡ Some (tag_of sent.process sent.entry)
  pub marks : mark_of_send (sending_of sent.process sent.entry) (traffic_before start place) ≢ Strange
      → mark_of_receive (receiving_of taken.process (tag_of sent.process sent.entry) taken.entry) (traffic_before start j) ≢ Strange

-- this holds of a datagram that a process sent whose log is given, where its clock is one that a tag can bear
abbrev pub ReadsRecordedSend : {run : RecordedRun} {ps : List ℕ} {j : ℕ} {taken : AcceptedEvent} → (start : List Replaying)
    → ReceivedDatagram run ps (events_of_replays start) j taken → Type 0
ReadsRecordedSend start (FromOutside bytes later early event split is given tag payload) = Unit {0}
ReadsRecordedSend {ps = ps} {j = j} {taken = taken} start (FromSend q k sent at is to tells before) =
    sent.clock ≤ most_clock → (node : ℕ) → slice_get ps node ≡ Some q → IsSendTaken start j taken node (record { process = q; entry = sent })

-- wherever the logs of a recording are shown, each taken datagram that was sent is read so
abbrev pub RecordedStreams : Type 0
RecordedStreams =
    (run : RecordedRun) (cut : ℕ → List ℕ) (folder : Folder) (ps : List ℕ) (pairs : List Pair) → (s : IsShown run cut folder ps pairs)
    → (j node p : ℕ) (e : Entry) → slice_get (sorted_of (processes_in_group run.group) ps) node ≡ Some p → slice_get (events_of_replays s.start) j ≡ Some (node_event node e) → IsTrue (is_taken e)
    → (r : ReceivedDatagram run (sorted_of (processes_in_group run.group) ps) (events_of_replays s.start) j (record { process = p; entry = e })) → ReadsRecordedSend s.start r
