-- What one event more adds to what was told, and that no more sends and receives are told than there are events.
use Rattle.std.proofs.Common.{◌≡◌, ◌∙◌, ◌≤◌, ℕ, Bool, true, false, List, [], ◌∷◌, ◌++◌, Option, Some, None, ap, arith, flat_map, length, length-append, refl, sym}
use Rattle.std.specs.Prelude.{reverse}
use Rattle.std.proofs.lemmas.List.{append-nil, reverse-append}
use Rattle.std.proofs.lemmas.Grind.{flat_map-append}
use Rattle.lamport_tag.specs.declared.Tag.{Tag}
use Rattle.lib_calls.specs.declared.entry.Entry.{Entry}
use Rattle.lib_calls.specs.Traffic.{is_sent, is_taken}
use Rattle.group_order.specs.Order.{NodeEvent}
use Rattle.group_state.specs.Place.{group_count}
use Rattle.proc_replay.specs.Replaying.{Replaying}
use Rattle.byte_streams.specs.declared.mark.PayloadMark.{PayloadMark}
use Rattle.byte_streams.specs.declared.mark.PayloadMark.TheVariants.{Plain, Counted, Strange}
use Rattle.byte_streams.specs.Traffic.{Received, Sent, SendOrReceive, mark_of_receive, mark_of_send}
use Rattle.streams_command.specs.Streams.{foreign_receives, odd_sends, one_if_strange, process_at, received_traffic, traffic_by, traffic_of_events, traffic_of_event}

-- ---- one event

-- what an event of these logs sent or took
abbrev pub traffic_at : List Replaying → NodeEvent Entry → List SendOrReceive
traffic_at start e = traffic_of_event (group_count start) (process_at start e.node) e.entry

turned_receive : (p : ℕ) (e : Entry) (tag : Option Tag) → reverse (received_traffic p e tag) ≡ received_traffic p e tag
turned_receive p e None = refl
turned_receive p e (Some tag) = refl

turned : (sent taken : Bool) (p : ℕ) (e : Entry) → reverse (traffic_by sent taken p e) ≡ traffic_by sent taken p e
turned true taken p e = refl
turned false true p e = turned_receive p e e.tag
turned false false p e = refl

few_received : (p : ℕ) (e : Entry) (tag : Option Tag) → length (received_traffic p e tag) ≤ 1
few_received p e None = omega arith
few_received p e (Some tag) = omega arith

pub few_by : (sent taken : Bool) (p : ℕ) (e : Entry) → length (traffic_by sent taken p e) ≤ 1
few_by true taken p e = omega arith
few_by false true p e = few_received p e e.tag
few_by false false p e = omega arith

module _ (start : List Replaying) where
  turned_event : (e : NodeEvent Entry) → reverse (traffic_at start e) ≡ traffic_at start e
  turned_event e = turned (is_sent (group_count start) e.entry) (is_taken e.entry) (process_at start e.node) e.entry

  -- ---- one event more

  pub one_behind : (es : List (NodeEvent Entry)) (e : NodeEvent Entry) → traffic_at start e ++ traffic_of_events start es ≡ traffic_of_events start (es ++ e ∷ [])
  one_behind es e =
      ap (λ l. l ++ traffic_of_events start es) (sym (turned_event e) ∙ ap reverse (sym (append-nil (traffic_at start e))))
      ∙ sym (reverse-append (flat_map (traffic_at start) es) (flat_map (traffic_at start) (e ∷ [])))
      ∙ ap reverse (sym (flat_map-append (traffic_at start) es (e ∷ [])))

  pub one_before : (es : List (NodeEvent Entry)) (e : NodeEvent Entry) → traffic_of_events start es ++ traffic_at start e ≡ traffic_of_events start (e ∷ es)
  one_before es e =
      ap (λ l. traffic_of_events start es ++ l) (sym (turned_event e))
      ∙ sym (reverse-append (traffic_at start e) (flat_map (traffic_at start) es))

  -- ---- how many there are

  pub few : (es : List (NodeEvent Entry)) → length (traffic_of_events start es) ≤ length es
  few [] = omega arith
  few (e ∷ es) =
      omega (
        arith,
        ap length (one_before es e),
        length-append (traffic_of_events start es) (traffic_at start e),
        few es,
        few_by (is_sent (group_count start) e.entry) (is_taken e.entry) (process_at start e.node) e.entry,
      )

at_most_one : (mark : PayloadMark) → one_if_strange mark ≤ 1
at_most_one Plain = omega arith
at_most_one Counted = omega arith
at_most_one Strange = omega arith

pub odd_within : (traffic : List SendOrReceive) → odd_sends traffic ≤ length traffic
odd_within [] = omega arith
odd_within (Sent s ∷ early) = omega (arith, odd_within early, at_most_one (mark_of_send s early))
odd_within (Received r ∷ early) = omega (arith, odd_within early)

pub foreign_within : (traffic : List SendOrReceive) → foreign_receives traffic ≤ length traffic
foreign_within [] = omega arith
foreign_within (Sent s ∷ early) = omega (arith, foreign_within early)
foreign_within (Received r ∷ early) = omega (arith, foreign_within early, at_most_one (mark_of_receive r early))
