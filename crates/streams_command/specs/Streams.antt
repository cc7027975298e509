-- The outcome of `streams`, given the files.
use Rattle.std.specs.Prelude.{ℕ, ◌+◌, Bool, true, false, List, [], ◌∷◌, ◌++◌, length, map, reverse, decimal, codes, Option, Some, None, Ok}
use Rattle.std.specs.FinMap as map
use Rattle.std.specs.List.{flat_map, slice_index_or}
use Rattle.fri_outside.specs.Outside.{Folder}
use Rattle.lamport_tag.specs.declared.Tag.{Tag}
use Rattle.lib_calls.specs.declared.entry.Entry.{Entry}
use Rattle.lib_calls.specs.Traffic.{is_sent, is_taken}
use Rattle.group_order.specs.Order.{NodeEvent}
use Rattle.group_state.specs.Place.{events_of_replays, group_count}
use Rattle.proc_replay.specs.Replaying.{Replaying}
use Rattle.byte_streams.specs.declared.line.StreamLine.{StreamLine}
use Rattle.byte_streams.specs.declared.mark.PayloadMark.{PayloadMark}
use Rattle.byte_streams.specs.declared.mark.PayloadMark.TheVariants.{Plain, Counted, Strange}
use Rattle.byte_streams.specs.Chunk.{chunk_at}
use Rattle.byte_streams.specs.Keys.{ContentsByStream, stream_key_of}
use Rattle.byte_streams.specs.Lines.{stream_lines}
use Rattle.byte_streams.specs.Stands.{stream_contents}
use Rattle.byte_streams.specs.Traffic.{Received, SentPayload, Sent, StreamName, SendOrReceive, WrittenPiece, send_that_counts, mark_of_receive, mark_of_send, stream_of}
use Rattle.command_run.specs.Outcome.{CommandOutcome, CommandWork, and_then}
use Rattle.log_pairs.specs.Pairs.{Pair, replays_of_pairs}

-- ---- the sends and receives of events

-- process p took a datagram, which counts where it had a tag
abbrev pub received_traffic : ℕ → Entry → Option Tag → List SendOrReceive
received_traffic p e None = []
received_traffic p e (Some tag) = Received (record { by = p; tag = tag; payload = e.incoming }) ∷ []

-- what an event of process p, in a group of `count`, sent into the group or took from it
abbrev pub traffic_by : Bool → Bool → ℕ → Entry → List SendOrReceive
traffic_by true taken p e = Sent (record { from = p; clock = e.clock; to = e.call.a0; payload = e.outgoing }) ∷ []
traffic_by false true p e = received_traffic p e e.tag
traffic_by false false p e = []

abbrev pub traffic_of_event : ℕ → ℕ → Entry → List SendOrReceive
traffic_of_event count p e = traffic_by (is_sent count e) (is_taken e) p e

-- the process of a node
abbrev pub process_at : List Replaying → ℕ → ℕ
process_at start node = slice_index_or (map (λ r. r.head.process) start) node 0

-- of these events, the latest first
abbrev pub traffic_of_events : List Replaying → List (NodeEvent Entry) → List SendOrReceive
traffic_of_events start es = reverse (flat_map (λ e. traffic_of_event (group_count start) (process_at start e.node) e.entry) es)

-- ---- what is said of them

abbrev pub one_if_strange : PayloadMark → ℕ
one_if_strange Plain = 0
one_if_strange Counted = 0
one_if_strange Strange = 1

-- how many sends neither go on with their stream nor repeat a part of it
abbrev pub odd_sends : List SendOrReceive → ℕ
odd_sends [] = 0
odd_sends (Sent s ∷ early) = odd_sends early + one_if_strange (mark_of_send s early)
odd_sends (Received r ∷ early) = odd_sends early

-- how many receives bring what no send that counts has
abbrev pub foreign_receives : List SendOrReceive → ℕ
foreign_receives [] = 0
foreign_receives (Sent s ∷ early) = foreign_receives early
foreign_receives (Received r ∷ early) = foreign_receives early + one_if_strange (mark_of_receive r early)

-- the stream of a send that counts
abbrev pub listed_by : SentPayload → Option WrittenPiece → List StreamName
listed_by s None = []
listed_by s (Some w) = stream_of s w.piece ∷ []

abbrev pub listed : List SendOrReceive → List StreamName
listed [] = []
listed (Received r ∷ early) = listed early
listed (Sent s ∷ early) = listed_by s (send_that_counts s (chunk_at s.payload) early) ++ listed early

-- each stream with a send that counts, with what was written and which positions are covered
abbrev pub streams_in : List SendOrReceive → ContentsByStream
streams_in traffic = map.from_entries (map (λ name. (stream_key_of name, stream_contents name traffic)) (listed traffic))

-- ---- the text

abbrev pub stream_line_text : StreamLine → List ℕ
stream_line_text line =
    decimal line.from ++ (codes " -> " ++ (decimal line.to ++ (codes " stream " ++ (decimal line.stream ++ (codes ": "
    ++ (decimal line.written ++ (codes " written, " ++ (decimal line.read ++ codes " read\n"))))))))

abbrev pub stream_counts_text : ℕ → ℕ → ℕ → List ℕ
stream_counts_text streams odd foreign =
    codes "streams: " ++ (decimal streams ++ (codes ", " ++ (decimal odd ++ (codes " odd, " ++ (decimal foreign ++ codes " foreign\n")))))

abbrev pub text_of_lines : List StreamLine → List SendOrReceive → List ℕ
text_of_lines lines traffic = flat_map stream_line_text lines ++ stream_counts_text (length lines) (odd_sends traffic) (foreign_receives traffic)

abbrev pub streams_text : List SendOrReceive → List ℕ
streams_text traffic = text_of_lines (stream_lines (streams_in traffic)) traffic

-- ---- the outcome

abbrev pub work_of_streams : List Replaying → CommandWork
work_of_streams start = record { text = streams_text (traffic_of_events start (events_of_replays start)); writes = []; diverged = false }

abbrev pub streams_outcome : List Pair → Folder → CommandOutcome
streams_outcome pairs folder = and_then (replays_of_pairs folder pairs) (λ start. Ok (work_of_streams start))
