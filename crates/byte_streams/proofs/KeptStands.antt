-- What is kept stands for some traffic, and for more of it.
use Rattle.std.proofs.Common.{◌≡◌, ℕ, Bool, true, false, List, ◌∷◌, length, map, Some, None, refl, sym, ap, ◌∙◌, arith}
use Rattle.std.specs.Prelude.{◌==◌, ◌&&◌, if◌then◌else◌, option_map}
use Rattle.std.specs.Cmp.{tied_then}
use Rattle.std.specs.Ordering.{eq_by_cmp, is_eq, nat_cmp, ordering_then}
use Rattle.std.proofs.lemmas.Bool.Decides.{nat_tests}
use Rattle.byte_streams.specs.inside.Keeping.{kept_contents_of, contents_or_empty}
use Rattle.byte_streams.specs.Keys.{by_process_and_clock, by_stream, chunk_of, stream_key_of}
use Rattle.byte_streams.specs.Stands.{KeptTraffic, StandsFor, stream_contents}
use Rattle.byte_streams.specs.Traffic.{StreamName, SendOrReceive, numbers_below, counted_send, is_covered_position, is_listed_stream, is_stream, written_stream}
use Rattle.byte_streams.proofs.ReceivedPositions.{listed_contents}
use Rattle.byte_streams.proofs.WrittenBytes.{unlisted}

-- ---- keys

same_number : (a b : ℕ) → is_eq (nat_cmp a b) ≡ (a == b)
same_number a b = grind (arith, nat_tests)

other_number : (a b : ℕ) → is_eq (nat_cmp a b) ≡ (b == a)
other_number a b = grind (arith, nat_tests)

pub same_stream : (name : StreamName) (from to number : ℕ) → eq_by_cmp by_stream (stream_key_of name) (from, (to, number)) ≡ is_stream name from to number
same_stream name from to number =
    sym (tied_then (nat_cmp name.from from) (ordering_then (nat_cmp name.to to) (nat_cmp name.number number)))
    ∙ ap (λ (b : Bool). is_eq (nat_cmp name.from from) && b) (sym (tied_then (nat_cmp name.to to) (nat_cmp name.number number)))
    ∙ (λ i. same_number name.from from i && (same_number name.to to i && same_number name.number number i))

pub same_sender : (p clock q at : ℕ) → eq_by_cmp by_process_and_clock (q, at) (p, clock) ≡ ((p == q) && (clock == at))
same_sender p clock q at = sym (tied_then (nat_cmp q p) (nat_cmp at clock)) ∙ (λ i. other_number q p i && other_number at clock i)

-- ---- what is kept of a stream

pub kept_contents : (kept : KeptTraffic) (early : List SendOrReceive) (name : StreamName) → StandsFor kept early → kept_contents_of (stream_key_of name) kept.streams ≡ stream_contents name early
kept_contents kept early name h = ap contents_or_empty (h.streams name) ∙ by_listed _ refl where
  by_listed : (b : Bool) → is_listed_stream name early ≡ b → contents_or_empty (listed_contents name early) ≡ stream_contents name early
  by_listed true is = rw is refl
  by_listed false is =
      let none = unlisted name early is in
      rw is (sym (λ j. record { written = none j; covered = map (is_covered_position name early) (numbers_below (length (none j))) }))

-- ---- traffic that changes nothing

pub record Unchanged (t : SendOrReceive) (early : List SendOrReceive) : Type 0 where
  pub listed : (name : StreamName) → is_listed_stream name (t ∷ early) ≡ is_listed_stream name early
  pub written : (name : StreamName) → written_stream name (t ∷ early) ≡ written_stream name early
  pub covered : (name : StreamName) (i : ℕ) → is_covered_position name (t ∷ early) i ≡ is_covered_position name early i
  pub sends : (from clock : ℕ) → counted_send from clock (t ∷ early) ≡ counted_send from clock early

-- nor of one stream
pub listed_same : (name : StreamName) (t : SendOrReceive) (early : List SendOrReceive) → is_listed_stream name (t ∷ early) ≡ is_listed_stream name early → written_stream name (t ∷ early) ≡ written_stream name early
    → ((i : ℕ) → is_covered_position name (t ∷ early) i ≡ is_covered_position name early i) → listed_contents name (t ∷ early) ≡ listed_contents name early
listed_same name t early l w c = λ j. if l j then Some (record { written = w j; covered = map (λ (i : ℕ). c i j) (numbers_below (length (w j))) }) else None

pub StandsFor-same : (kept : KeptTraffic) (t : SendOrReceive) (early : List SendOrReceive) → Unchanged t early → StandsFor kept early → StandsFor kept (t ∷ early)
StandsFor-same kept t early u h = record {
  streams = λ name. h.streams name ∙ sym (listed_same name t early (u.listed name) (u.written name) (u.covered name));
  sends = λ from clock. h.sends from clock ∙ ap (option_map chunk_of) (sym (u.sends from clock));
}
