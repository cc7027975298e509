-- What the accepted events of a group's logs say of datagrams.
use Rattle.std.specs.Prelude.{ℕ, Bool, false, not, ◌&&◌, ◌==◌, is_some, List, length, filter, map, Option, Some, None}
use Rattle.std.specs.List.{list_any}
use Rattle.lamport_tag.specs.declared.Tag.{Tag}
use Rattle.lib_calls.specs.declared.entry.Entry.{Entry}
use Rattle.lib_calls.specs.Traffic.{is_sent, is_taken}
use Rattle.group_state.specs.declared.tally.GroupCounts.{GroupCounts}

-- an accepted event: the number of its process, and its entry
pub record AcceptedEvent : Type 0 where
  pub process : ℕ
  pub entry : Entry

abbrev pub accepted_count : (AcceptedEvent → Bool) → List AcceptedEvent → ℕ
accepted_count test events = length (filter test events)

-- the event sends a datagram into its group of `count`
abbrev pub is_send : ℕ → AcceptedEvent → Bool
is_send count a = is_sent count a.entry

-- it takes a datagram with a tag
abbrev pub is_receipt : AcceptedEvent → Bool
is_receipt a = is_taken a.entry && is_some a.entry.tag

-- it takes one without
abbrev pub takes_untagged : AcceptedEvent → Bool
takes_untagged a = is_taken a.entry && not (is_some a.entry.tag)

-- the event is the send to process p that the tag names
abbrev pub is_send_of : ℕ → ℕ → Tag → AcceptedEvent → Bool
is_send_of count p tag a = ((a.process == tag.sender) && (a.entry.clock == tag.clock)) && (is_send count a && (a.entry.call.a0 == p))

abbrev pub is_unmatched_by : ℕ → List AcceptedEvent → ℕ → Option Tag → Bool
is_unmatched_by count events p None = false
is_unmatched_by count events p (Some tag) = not (list_any (is_send_of count p tag) events)

-- it takes a datagram with a tag that names none of the sends to its process among these events
abbrev pub is_unmatched : ℕ → List AcceptedEvent → AcceptedEvent → Bool
is_unmatched count events a = is_receipt a && is_unmatched_by count events a.process a.entry.tag

-- the counts over the accepted events of the logs of a group of `count`
abbrev pub tally_of_events : ℕ → List AcceptedEvent → GroupCounts
tally_of_events count events = record {
  sends = accepted_count (is_send count) events;
  receives = accepted_count is_receipt events;
  unmatched = accepted_count (is_unmatched count events) events;
  untagged = accepted_count takes_untagged events;
}

-- the events of one log's process
abbrev pub of_process : ℕ → List Entry → List AcceptedEvent
of_process p entries = map (λ e. record { process = p; entry = e }) entries
