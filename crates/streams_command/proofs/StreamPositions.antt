-- The events that brought the bytes of a stream, by their places in the order, and what later events leave of it.
use Rattle.std.proofs.Common.{◌≡◌, ◌∙◌, ◌<◌, ◌≤◌, ◌+◌, ◌-◌, ◌||◌, ℕ, zero, suc, Bool, true, false, List, [], ◌∷◌, ◌++◌, length, take, drop, Option, Some, None, ap, append_assoc, arith, refl, subst, sym}
use Rattle.std.specs.Prelude.{slice_get}
use Rattle.std.proofs.lemmas.List.{append-nil}
use Rattle.std.proofs.lemmas.Option.{same_Some}
use Rattle.lib_calls.specs.declared.entry.Entry.{Entry}
use Rattle.lib_calls.specs.Traffic.{is_sent, is_taken}
use Rattle.group_order.specs.Order.{NodeEvent}
use Rattle.group_state.specs.Place.{events_of_replays, group_count}
use Rattle.proc_replay.specs.Replaying.{Replaying}
use Rattle.byte_streams.specs.Chunk.{chunk_at}
use Rattle.byte_streams.specs.CoveredBytes.{BringsByte, CoveredWasWritten, ReadIsCovered, TakesByte}
use Rattle.byte_streams.specs.Traffic.{Received, Sent, SendOrReceive, StreamName, added_stream_bytes, covers_position, is_covered_position, written_stream}
use Rattle.streams_command.specs.Positions.{StreamsAtPositions, WasBroughtBefore, traffic_before}
use Rattle.streams_command.specs.Streams.{process_at, traffic_of_events}
use Rattle.streams_command.proofs.ToldByEvents.{few_by, one_behind, traffic_at}

-- ---- one more of a list

take_next : {X : Type 0} (xs : List X) (k : ℕ) (x : X) → slice_get xs k ≡ Some x → take (suc k) xs ≡ take k xs ++ x ∷ []
take_next [] k x at = cc
take_next (y ∷ xs) zero x at = ap (λ z. z ∷ []) (same_Some y x at)
take_next (y ∷ xs) (suc k) x at = ap (λ zs. y ∷ zs) (take_next xs k x at)

take_past : {X : Type 0} (xs : List X) (k : ℕ) → slice_get xs k ≡ None → take (suc k) xs ≡ take k xs
take_past [] zero at = refl
take_past [] (suc k) at = refl
take_past (y ∷ xs) zero at = cc
take_past (y ∷ xs) (suc k) at = ap (λ zs. y ∷ zs) (take_past xs k at)

same_rest : {X : Type 0} (x y : X) (xs ys : List X) → (x ∷ xs) ≡ (y ∷ ys) → xs ≡ ys
same_rest x y xs ys is = ap (drop 1) is

-- ---- what was sent or taken, by the place of its event

module _ (start : List Replaying) (es : List (NodeEvent Entry)) where
  abbrev traffic_to : ℕ → List SendOrReceive
  traffic_to n = traffic_of_events start (take n es)

  record IsPlaced (n : ℕ) (t : SendOrReceive) (early : List SendOrReceive) : Type 0 where
    place : ℕ
    below : place < n
    event : NodeEvent Entry
    stands : slice_get es place ≡ Some event
    does : traffic_at start event ≡ t ∷ []
    before : traffic_to place ≡ early

  still_placed : (n : ℕ) (t : SendOrReceive) (early : List SendOrReceive) → IsPlaced n t early → IsPlaced (suc n) t early
  still_placed n t early p = record { place = p.place; below = omega (arith, p.below); event = p.event; stands = p.stands; does = p.does; before = p.before }

  one_more : (n : ℕ) (e : NodeEvent Entry) → slice_get es n ≡ Some e → traffic_at start e ++ traffic_to n ≡ traffic_to (suc n)
  one_more n e at = one_behind start (take n es) e ∙ ap (traffic_of_events start) (sym (take_next es n e at))

  -- a send or receive among those of the first events is that of one of them
  module _ (n : ℕ) (t : SendOrReceive) (early : List SendOrReceive)
      (placed : (later : List SendOrReceive) → traffic_to n ≡ later ++ t ∷ early → IsPlaced n t early) where
    by_traffic : (e : NodeEvent Entry) → slice_get es n ≡ Some e → (new later : List SendOrReceive) → traffic_at start e ≡ new → length new ≤ 1
        → new ++ traffic_to n ≡ later ++ t ∷ early → IsPlaced (suc n) t early
    by_traffic e at [] later does few is = still_placed n t early (placed later is)
    by_traffic e at (x ∷ []) [] does few is =
        let same : x ≡ t = same_Some x t (ap (λ (l : List SendOrReceive). slice_get l 0) is) in
        record { place = n; below = omega arith; event = e; stands = at; does = does ∙ ap (λ (y : SendOrReceive). y ∷ []) same; before = same_rest x t (traffic_to n) early is }
    by_traffic e at (x ∷ []) (y ∷ later) does few is = still_placed n t early (placed later (same_rest x y (traffic_to n) (later ++ t ∷ early) is))
    by_traffic e at (x ∷ y ∷ new) later does few is = absurd (omega (arith, few))

    by_event : (o : Option (NodeEvent Entry)) → slice_get es n ≡ o → (later : List SendOrReceive) → traffic_to (suc n) ≡ later ++ t ∷ early → IsPlaced (suc n) t early
    by_event None at later is = still_placed n t early (placed later (sym (ap (traffic_of_events start) (take_past es n at)) ∙ is))
    by_event (Some e) at later is =
        by_traffic e at (traffic_at start e) later refl (few_by (is_sent (group_count start) e.entry) (is_taken e.entry) (process_at start e.node) e.entry)
        (one_more n e at ∙ is)

  place_of : (n : ℕ) (t : SendOrReceive) (early later : List SendOrReceive) → traffic_to n ≡ later ++ t ∷ early → IsPlaced n t early
  place_of zero t early [] is = cc
  place_of zero t early (x ∷ later) is = cc
  place_of (suc n) t early later is = by_event n t early (λ later is. place_of n t early later is) (slice_get es n) refl later is

  -- what more events add comes before
  more_events : (n d later : ℕ) → d + n ≡ later → (new : List SendOrReceive) × (traffic_to later ≡ new ++ traffic_to n)
  more_events n zero later is = let same : later ≡ n = omega (arith, is) in ([], ap traffic_to same)
  more_events n (suc d) zero is = absurd (omega (arith, is))
  more_events n (suc d) (suc m) is = by_next (slice_get es m) refl (more_events n d m (omega (arith, is))) where
    by_next : (o : Option (NodeEvent Entry)) → slice_get es m ≡ o → (new : List SendOrReceive) × (traffic_to m ≡ new ++ traffic_to n)
        → (new : List SendOrReceive) × (traffic_to (suc m) ≡ new ++ traffic_to n)
    by_next None at more = (more.0, ap (traffic_of_events start) (take_past es m at) ∙ more.1)
    by_next (Some e) at more = (
      traffic_at start e ++ more.0,
      sym (one_more m e at) ∙ ap (λ (l : List SendOrReceive). traffic_at start e ++ l) more.1 ∙ sym (append_assoc (traffic_at start e) more.0 (traffic_to n)),
    )

  later_events : (n later : ℕ) → n ≤ later → (new : List SendOrReceive) × (traffic_to later ≡ new ++ traffic_to n)
  later_events n later after = more_events n (later - n) later (omega (arith, after))

-- ---- what more sends and receives leave

module _ (name : StreamName) where
  written_on : (new early : List SendOrReceive) → (more : List ℕ) × (written_stream name (new ++ early) ≡ written_stream name early ++ more)
  written_on [] early = ([], sym (append-nil (written_stream name early)))
  written_on (Received r ∷ new) early = written_on new early
  written_on (Sent s ∷ new) early =
      let added = added_stream_bytes name s (chunk_at s.payload) (written_stream name (new ++ early)) in
      let rest = written_on new early in
      (rest.0 ++ added, ap (λ (bytes : List ℕ). bytes ++ added) rest.1 ∙ append_assoc (written_stream name early) rest.0 added)

  or_so : (a b : Bool) → b ≡ true → (a || b) ≡ true
  or_so true b is = refl
  or_so false b is = is

  covered_on : (new early : List SendOrReceive) (i : ℕ) → is_covered_position name early i ≡ true → is_covered_position name (new ++ early) i ≡ true
  covered_on [] early i is = is
  covered_on (Sent s ∷ new) early i is = covered_on new early i is
  covered_on (Received r ∷ new) early i is = or_so (covers_position name i r (chunk_at r.payload) (new ++ early)) _ (covered_on new early i is)

-- ---- a stream at a position

module _ (written : CoveredWasWritten) (start : List Replaying) where
  brought : (k : ℕ) (name : StreamName) (i : ℕ) → is_covered_position name (traffic_before start k) i ≡ true → WasBroughtBefore start k name i
  brought k name i covered =
      let es = events_of_replays start in
      let w = written name i (traffic_before start k) covered in
      let takes = place_of start es k (Received w.taken) (w.between ++ Sent w.sent ∷ w.early) w.later w.order in
      let sends = place_of start es takes.place (Sent w.sent) w.early w.between takes.before in
      record {
        byte = w.byte;
        stands = w.stands;
        sent = w.sent;
        taken = w.taken;
        sending = sends.place;
        taking = takes.place;
        first = sends.below;
        within = takes.below;
        sends = record { event = sends.event; stands = sends.stands; does = sends.does };
        takes = record { event = takes.event; stands = takes.stands; does = takes.does };
        brings = subst (λ (early : List SendOrReceive). BringsByte name i w.byte w.sent early) (sym sends.before) w.brings;
        has = subst (λ (early : List SendOrReceive). TakesByte name i w.byte w.taken early) (sym takes.before) w.takes;
      }

pub streams_at_positions : CoveredWasWritten → ReadIsCovered → StreamsAtPositions
streams_at_positions written read start k name =
    let es = events_of_replays start in
    record {
      brought = brought written start k name;
      read = λ i below. read name i (traffic_before start k) below;
      written = λ later after.
          let more = later_events start es k later after in
          let on = written_on name more.0 (traffic_before start k) in
          (on.0, ap (written_stream name) more.1 ∙ on.1);
      covered = λ later i after is.
          let more = later_events start es k later after in
          ap (λ (traffic : List SendOrReceive). is_covered_position name traffic i) more.1 ∙ covered_on name more.0 (traffic_before start k) i is;
    }
