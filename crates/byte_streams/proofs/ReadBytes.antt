-- What is read, and which receives count.
use Rattle.std.proofs.Common.{◌≡◌, ℕ, ◌+◌, ◌<◌, ◌≤◌, Bool, true, false, cond, List, [], ◌∷◌, length, map, take, get_or, Some, None, refl, sym, ap, subst, ◌∙◌, arith}
use Rattle.std.specs.Prelude.{if◌then◌else◌, option_map}
use Rattle.std.specs.FinMap as map
use Rattle.std.specs.List.{prefix_len, take_while}
use Rattle.std.proofs.lemmas.List.{length-take}
use Rattle.std.proofs.lemmas.List.Folds.{length-prefix_len}
use Rattle.std.proofs.lemmas.List.Sums.{prefix_len_passes}
use Rattle.std.proofs.lemmas.Option.{same_Some}
use Rattle.byte_streams.specs.CoveredBytes.{ReadIsCovered}
use Rattle.byte_streams.specs.Keys.{StreamContents, chunk_of, stream_key_of}
use Rattle.byte_streams.specs.Laws.{IsReadOf, IsUnsent, ReadMatchesTraffic, NoSendIsAbsent}
use Rattle.byte_streams.specs.Lines.{covered_front}
use Rattle.byte_streams.specs.Stands.{KeptTraffic, StandsFor, stream_contents}
use Rattle.byte_streams.specs.Traffic.{Received, Sent, StreamName, SendOrReceive, numbers_below, counted_send, is_covered_position, is_listed_stream, read_count, written_stream}
use Rattle.byte_streams.proofs.CoveredPositions.{get_below, length-below}

-- ---- a send that was not made

never_sent : (from clock : ℕ) (traffic : List SendOrReceive) → IsUnsent from clock traffic → counted_send from clock traffic ≡ None
never_sent from clock [] none = refl
never_sent from clock (Received r ∷ early) none = never_sent from clock early none.1
never_sent from clock (Sent s ∷ early) none = rw none.0 (never_sent from clock early none.1)

pub unsent_free : NoSendIsAbsent
unsent_free kept traffic from clock h none = h.sends from clock ∙ ap (option_map chunk_of) (never_sent from clock traffic none)

-- ---- what is read

prefix_len-map : (f : ℕ → Bool) (xs : List ℕ) → prefix_len (λ is. is) (map f xs) ≡ prefix_len f xs
prefix_len-map f [] = refl
prefix_len-map f (x ∷ xs) = ap (λ (n : ℕ). cond (f x) (1 + n) 0) (prefix_len-map f xs)

length-take_while : {A : Type 0} (p : A → Bool) (xs : List A) → length (take_while p xs) ≡ prefix_len p xs
length-take_while p xs = length-prefix_len p xs

front_count : (name : StreamName) (traffic : List SendOrReceive) → covered_front (stream_contents name traffic) ≡ read_count name traffic
front_count name traffic =
    let positions = numbers_below (length (written_stream name traffic)) in
    length-take_while (λ (is : Bool). is) (map (is_covered_position name traffic) positions) ∙ prefix_len-map (is_covered_position name traffic) positions
    ∙ sym (length-take_while (is_covered_position name traffic) positions)

read_within : (name : StreamName) (traffic : List SendOrReceive) → read_count name traffic ≤ length (written_stream name traffic)
read_within name traffic =
    let positions = numbers_below (length (written_stream name traffic)) in
    omega (arith, length-take (prefix_len (is_covered_position name traffic) positions) positions, length-below (length (written_stream name traffic)))

kept_is : (kept : KeptTraffic) (traffic : List SendOrReceive) (name : StreamName) (c : StreamContents) → StandsFor kept traffic → map.get kept.streams (stream_key_of name) ≡ Some c
    → stream_contents name traffic ≡ c
kept_is kept traffic name c h has = by_listed (is_listed_stream name traffic) (sym (h.streams name) ∙ has) where
  by_listed : (b : Bool) → (if b then Some (stream_contents name traffic) else None) ≡ Some c → stream_contents name traffic ≡ c
  by_listed true e = same_Some (stream_contents name traffic) c e
  by_listed false e = absurd cc

pub read_kept : ReadMatchesTraffic
read_kept kept traffic name c h has =
    subst (λ (d : StreamContents). IsReadOf d name traffic) (kept_is kept traffic name c h has)
    (record {
      bytes = ap (λ (n : ℕ). take n (written_stream name traffic)) (front_count name traffic);
      count = front_count name traffic;
      within = read_within name traffic;
      written = refl;
    })

-- what is read is covered
pub read_covered : ReadIsCovered
read_covered name i traffic less =
    let written = length (written_stream name traffic) in
    let covered = map (is_covered_position name traffic) (numbers_below written) in
    let within : i < written = omega (arith, read_within name traffic) in
    let passes : get_or covered i false ≡ true =
    prefix_len_passes (λ (is : Bool). is) covered i false (omega (arith, front_count name traffic, length-take_while (λ (is : Bool). is) covered)) in
    sym (get_below (is_covered_position name traffic) written i false within) ∙ passes
