-- A step of `Streams`, by what its two maps are before it and after it.
use Rattle.std.proofs.Common.{◌≡◌, Bool, true, false, List, [], ◌∷◌, Some, sym, ap, subst, ◌∙◌}
use Rattle.std.specs.Prelude.{if◌then◌else◌}
use Rattle.std.specs.FinMap as map
use Rattle.std.proofs.lemmas.Bool.{and_from, and_left, and_right, cond-false, cond-true}
use Rattle.byte_streams.specs.declared.mark.PayloadMark.TheVariants.{Counted, Strange}
use Rattle.byte_streams.specs.Chunk.{StreamPiece, chunk_at}
use Rattle.byte_streams.specs.inside.Keeping.{is_taken_of, is_front_of_sent, is_written_to, with_stream_sent, with_taken}
use Rattle.byte_streams.specs.Keys.{Chunks, ContentsByStream, by_process_and_clock, by_stream, chunk_of, stream_key_of}
use Rattle.byte_streams.specs.Stands.{KeptTraffic, StandsFor}
use Rattle.byte_streams.specs.Traffic.{Received, ReceivedPayload, SentPayload, Sent, SendOrReceive, mark_of_receive, mark_of_send, stream_of}
use Rattle.byte_streams.proofs.KeptAfterReceive.{counts_kept, received_counted, received_strange, source_key}
use Rattle.byte_streams.proofs.KeptAfterSend.{sent_counted, sent_strange}

abbrev kept_in : ContentsByStream → Chunks → KeptTraffic
kept_in streams sends = record { streams = streams; sends = sends }

-- nothing stands for no traffic
pub nothing_stands : (streams : ContentsByStream) (sends : Chunks) → streams ≡ map.empty → sends ≡ map.empty → StandsFor (kept_in streams sends) []
nothing_stands streams sends no_streams no_sends = record {
  streams = λ name. ap (λ (s : ContentsByStream). map.get s (stream_key_of name)) no_streams ∙ map.get-empty by_stream (stream_key_of name);
  sends = λ from clock. ap (λ (s : Chunks). map.get s (from, clock)) no_sends ∙ map.get-empty by_process_and_clock (from, clock);
}

module _ (streams new : ContentsByStream) (sends : Chunks) (kept : KeptTraffic) (seen : kept_in streams sends ≡ kept) (piece : StreamPiece) where
  seen_stands : (early : List SendOrReceive) → StandsFor kept early → StandsFor (kept_in streams sends) early
  seen_stands early h = subst (λ (k : KeptTraffic). StandsFor k early) (sym seen) h

  -- ---- a send with this piece

  module _ (s : SentPayload) (counts : Bool) (at : Some piece ≡ chunk_at s.payload) (is : counts ≡ is_written_to (stream_key_of (stream_of s piece)) piece streams)
      (changed : new ≡ (if counts then with_stream_sent (stream_key_of (stream_of s piece)) piece streams else streams)) where
    pub strange_send : counts ≡ false → (early : List SendOrReceive) → StandsFor kept early → StandsFor (kept_in new sends) (Sent s ∷ early) × (Strange ≡ mark_of_send s early)
    strange_send off early h =
        let step = sent_strange (kept_in streams sends) s early piece (sym at) (sym is ∙ off) (seen_stands early h) in
        let same : new ≡ streams = changed ∙ cond-false counts _ streams off in
        (subst (λ (t : ContentsByStream). StandsFor (kept_in t sends) (Sent s ∷ early)) (sym same) step.0, step.1)

    pub counting_send : (after : Chunks) → counts ≡ true → after ≡ map.insert sends (s.from, s.clock) (chunk_of (record { to = s.to; piece = piece }))
        → (early : List SendOrReceive) → StandsFor kept early → StandsFor (kept_in new after) (Sent s ∷ early) × (Counted ≡ mark_of_send s early)
    counting_send after on added early h =
        let step = sent_counted (kept_in streams sends) s early piece (sym at) (sym is ∙ on) (seen_stands early h) in
        let written : new ≡ with_stream_sent (stream_key_of (stream_of s piece)) piece streams = changed ∙ cond-true counts _ streams on in
        (subst (λ (k : KeptTraffic). StandsFor k (Sent s ∷ early)) (λ i. kept_in (sym written i) (sym added i)) step.0, step.1)

  -- ---- a receive with this piece

  module _ (r : ReceivedPayload) (at : Some piece ≡ chunk_at r.payload) (within : Bool) (is : within ≡ is_front_of_sent r.by piece (map.get sends (r.tag.sender, r.tag.clock))) where
    pub receive_outside : (after : KeptTraffic) → after ≡ kept → within ≡ false → (early : List SendOrReceive) → StandsFor kept early
        → StandsFor after (Received r ∷ early) × (Strange ≡ mark_of_receive r early)
    receive_outside after same off early h =
        let apart : counts_kept r piece (kept_in streams sends) ≡ false = and_left (is_front_of_sent r.by piece (map.get sends (r.tag.sender, r.tag.clock))) _ (sym is ∙ off) in
        let step = received_strange (kept_in streams sends) r early piece (sym at) apart (seen_stands early h) in
        (subst (λ (k : KeptTraffic). StandsFor k (Received r ∷ early)) (seen ∙ sym same) step.0, step.1)

    module _ (covers : Bool) (stands : covers ≡ is_taken_of (source_key r piece) piece streams)
        (changed : new ≡ (if covers then with_taken (source_key r piece) piece streams else streams)) where
      pub receive_elsewhere : (after : KeptTraffic) → after ≡ kept_in new sends → covers ≡ false → (early : List SendOrReceive) → StandsFor kept early
          → StandsFor after (Received r ∷ early) × (Strange ≡ mark_of_receive r early)
      receive_elsewhere after same off early h =
          let apart : counts_kept r piece (kept_in streams sends) ≡ false = and_right (is_front_of_sent r.by piece (map.get sends (r.tag.sender, r.tag.clock))) _ (sym stands ∙ off) in
          let step = received_strange (kept_in streams sends) r early piece (sym at) apart (seen_stands early h) in
          let kept_so : after ≡ kept_in streams sends = same ∙ ap (λ (t : ContentsByStream). kept_in t sends) (changed ∙ cond-false covers _ streams off) in
          (subst (λ (k : KeptTraffic). StandsFor k (Received r ∷ early)) (sym kept_so) step.0, step.1)

      pub receive_covering : within ≡ true → covers ≡ true → (early : List SendOrReceive) → StandsFor kept early → StandsFor (kept_in new sends) (Received r ∷ early) × (Counted ≡ mark_of_receive r early)
      receive_covering yes_within yes_covers early h =
          let both : counts_kept r piece (kept_in streams sends) ≡ true = and_from _ _ (sym is ∙ yes_within) (sym stands ∙ yes_covers) in
          let step = received_counted (kept_in streams sends) r early piece (sym at) both (seen_stands early h) in
          let taken : new ≡ with_taken (source_key r piece) piece streams = changed ∙ cond-true covers _ streams yes_covers in
          (subst (λ (t : ContentsByStream). StandsFor (kept_in t sends) (Received r ∷ early)) (sym taken) step.0, step.1)
