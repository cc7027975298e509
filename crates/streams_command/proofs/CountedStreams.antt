-- The streams that are kept are those with a send that counts.
use Rattle.std.proofs.Common.{◌≡◌, ◌∙◌, ℕ, Bool, true, false, cond, List, [], ◌∷◌, ◌++◌, map, Option, Some, None, ap, refl, sym, arith}
use Rattle.std.specs.Prelude.{◌==◌, ◌&&◌, ◌||◌}
use Rattle.std.specs.Cmp.{IsTotalOrder, nat_cmp_total, on_total, then_total, tied_then}
use Rattle.std.specs.FinMap as map
use Rattle.std.specs.FinMap.{IsAntisymmetric, find, nat_cmp-IsAntisymmetric}
use Rattle.std.specs.Ordering.{eq_by_cmp, is_eq, nat_cmp, ordering_then}
use Rattle.std.specs.declared.cmp.Ordering.{Ordering}
use Rattle.std.proofs.lemmas.Bool.Decides.{nat_tests}
use Rattle.std.proofs.lemmas.Map.Lookups.{exact_pairs}
use Rattle.byte_streams.specs.Chunk.{StreamPiece, chunk_at}
use Rattle.byte_streams.specs.Keys.{StreamContents, StreamKey, by_stream, stream_key_of}
use Rattle.byte_streams.specs.Stands.{KeptTraffic, StandsFor, stream_contents}
use Rattle.byte_streams.specs.Traffic.{Received, SentPayload, Sent, StreamName, SendOrReceive, send_that_counts, continues_or_repeats, is_listed_stream, is_to_stream, is_stream, stream_of, written_stream}
use Rattle.streams_command.specs.Streams.{listed, listed_by, streams_in}

-- ---- the order of streams

abbrev by_numbers : ℕ × ℕ → ℕ × ℕ → Ordering
by_numbers x y = ordering_then (nat_cmp x.0 y.0) (nat_cmp x.1 y.1)

by_stream_total : IsTotalOrder by_stream
by_stream_total =
    then_total (on_total (λ (x : StreamKey). x.0) nat_cmp_total)
    (on_total (λ (x : StreamKey). x.1) (then_total (on_total (λ (x : ℕ × ℕ). x.0) nat_cmp_total) (on_total (λ (x : ℕ × ℕ). x.1) nat_cmp_total)))

by_stream_exact : IsAntisymmetric by_stream
by_stream_exact =
    exact_pairs nat_cmp by_numbers nat_cmp-IsAntisymmetric
    (exact_pairs nat_cmp nat_cmp nat_cmp-IsAntisymmetric nat_cmp-IsAntisymmetric)

same_number : (a b : ℕ) → is_eq (nat_cmp a b) ≡ (a == b)
same_number a b = grind (arith, nat_tests)

same_key : (name : StreamName) (from to number : ℕ)
    → eq_by_cmp by_stream (stream_key_of name) (from, (to, number)) ≡ is_stream name from to number
same_key name from to number =
    sym (tied_then (nat_cmp name.from from) (ordering_then (nat_cmp name.to to) (nat_cmp name.number number)))
    ∙ ap (λ b. is_eq (nat_cmp name.from from) && b) (sym (tied_then (nat_cmp name.to to) (nat_cmp name.number number)))
    ∙ (λ i. same_number name.from from i && (same_number name.to to i && same_number name.number number i))

-- ---- the streams with a send that counts

abbrev entry_of : List SendOrReceive → StreamName → StreamKey × StreamContents
entry_of all name = (stream_key_of name, stream_contents name all)

abbrev if_listed : List SendOrReceive → StreamName → Bool → Option StreamContents
if_listed all name is = cond is (Some (stream_contents name all)) None

same_contents : (all : List SendOrReceive) (name : StreamName) (from to number : ℕ) → is_stream name from to number ≡ true
    → stream_contents (record { from = from; to = to; number = number }) all ≡ stream_contents name all
same_contents all name from to number is =
    let a : from ≡ name.from = grind (arith, nat_tests) in
    let b : to ≡ name.to = grind (arith, nat_tests) in
    let c : number ≡ name.number = grind (arith, nat_tests) in
    λ i. stream_contents (record { from = a i; to = b i; number = c i }) all

found_first : (all : List SendOrReceive) (name : StreamName) (from to number : ℕ) (rest : Option StreamContents) (later b : Bool)
    → rest ≡ if_listed all name later → is_stream name from to number ≡ b
    → cond b (Some (stream_contents (record { from = from; to = to; number = number }) all)) rest ≡ if_listed all name (b || later)
found_first all name from to number rest later true is same = ap Some (same_contents all name from to number same)
found_first all name from to number rest later false is same = is

-- the stream of this piece in front of those of earlier sends
module _ (all early : List SendOrReceive) (name : StreamName) (rest : find by_stream (stream_key_of name) (map (entry_of all) (listed early)) ≡ if_listed all name (is_listed_stream name early)) where
  found_by_count : (s : SentPayload) (piece : StreamPiece) (b : Bool)
      → find by_stream (stream_key_of name) (map (entry_of all) (listed_by s (cond b (Some (record { to = s.to; piece = piece })) None) ++ listed early))
      ≡ if_listed all name (is_to_stream name s (cond b (Some (record { to = s.to; piece = piece })) None) || is_listed_stream name early)
  found_by_count s piece true =
      ap (λ b. cond b (Some (stream_contents (stream_of s piece) all)) (find by_stream (stream_key_of name) (map (entry_of all) (listed early)))) (same_key name s.from s.to piece.stream)
      ∙ found_first all name s.from s.to piece.stream _ (is_listed_stream name early) (is_stream name s.from s.to piece.stream) rest refl
  found_by_count s piece false = rest

  found_sent : (s : SentPayload) (c : Option StreamPiece)
      → find by_stream (stream_key_of name) (map (entry_of all) (listed_by s (send_that_counts s c early) ++ listed early)) ≡ if_listed all name (is_to_stream name s (send_that_counts s c early) || is_listed_stream name early)
  found_sent s None = rest
  found_sent s (Some piece) = found_by_count s piece (continues_or_repeats piece (written_stream (stream_of s piece) early))

found : (all part : List SendOrReceive) (name : StreamName) → find by_stream (stream_key_of name) (map (entry_of all) (listed part)) ≡ if_listed all name (is_listed_stream name part)
found all [] name = refl
found all (Received r ∷ early) name = found all early name
found all (Sent s ∷ early) name = found_sent all early name (found all early name) s (chunk_at s.payload)

-- what is kept of these sends and receives
pub streams_are : (kept : KeptTraffic) (traffic : List SendOrReceive) → StandsFor kept traffic → kept.streams ≡ streams_in traffic
streams_are kept traffic stands = map.same_map by_stream_total by_stream_exact kept.streams (streams_in traffic) (λ q.
    let name : StreamName = record { from = q.0; to = q.1.0; number = q.1.1 } in
    stands.streams name ∙ sym (found traffic traffic name) ∙ sym (map.get-from_entries by_stream_total (map (entry_of traffic) (listed traffic)) q))
