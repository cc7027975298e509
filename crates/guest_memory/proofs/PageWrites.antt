-- What is written over pages.
use Rattle.std.proofs.Common.{◌≡◌, ◌<◌, ◌≤◌, ℕ, ◌+◌, ◌*◌, ◌/◌, ◌%◌, List, [], ◌++◌, length, get_or, take, drop, length-take, length-drop, ap, sym, ◌∙◌, arith, Result, Ok, Err, OnErr}
use Rattle.std.proofs.Math.ListN.{set}
use Rattle.guest_memory.specs.Memory.{WritesPrefix, put_piece}
use Rattle.guest_memory.specs.inside.Pages.{AreWhole, PutsPrefix, bytes_of_pages, put_in_page, stamps_of}
use Rattle.guest_memory.specs.Stamps.{stamped_pages}
use Rattle.guest_memory.specs.declared.page.Page.{Page}
use Rattle.guest_memory.proofs.FlatPages.{flat-put, whole-get, whole-set}
use Rattle.guest_memory.proofs.WrittenPieces.{put-length, put-more, put-none, take-more}
use Rattle.guest_memory.proofs.PageStamps.{stamped-none, stamps-more}

-- what holds, holds of a failure
pub on_err : {T E X : Type 0} (r : Result T E) → X → OnErr r X
on_err (Ok _) x = tt
on_err (Err _) x = x

-- an event of this number wrote the piece, and each page is whole
pub record Puts (old new : List Page) (addr : ℕ) (piece : List ℕ) (number : ℕ) : Type 0 where
  pub whole : AreWhole new
  pub bytes : bytes_of_pages new ≡ put_piece (bytes_of_pages old) addr piece
  pub stamps : stamps_of new ≡ stamped_pages (stamps_of old) addr (length piece) number

-- nothing was written yet
pub puts-none : (ps : List Page) (addr number : ℕ) → AreWhole ps → Puts ps ps addr [] number
puts-none ps addr number w = record { whole = w; bytes = sym (put-none (bytes_of_pages ps) addr); stamps = sym (stamped-none 0 (stamps_of ps) addr number) }

-- one part more of a piece, the first `done` bytes of which are written
pub puts-more : (old now : List Page) (addr : ℕ) (piece : List ℕ) (done count number q r : ℕ) (d page : Page)
    → Puts old now addr (take done piece) number → length now ≡ length old → addr + length piece ≤ length (bytes_of_pages old) → done + count ≤ length piece → 0 < count
    → addr + done ≡ 4096 * q + r → r + count ≤ 4096 → q < length now
    → page ≡ put_in_page (get_or now q d) r (take count (drop done piece)) number → Puts old (set now q page) addr (take (done + count) piece) number
puts-more old now addr piece done count number q r d page p len within most some at fits room is =
    let chunk : length (take count (drop done piece)) ≡ count = simp (length-take, length-drop) (omega arith) in
    let first : length (take done piece) ≡ done = simp length-take (omega arith) in
    let both : length (take (done + count) piece) ≡ done + count = simp length-take (omega arith) in
    let size = whole-get now q d p.whole room in
    let here : bytes_of_pages (set now q page) ≡ put_piece (bytes_of_pages now) (addr + done) (take count (drop done piece)) =
    rw is (sym (flat-put now q r (addr + done) (take count (drop done piece)) number d p.whole room (omega (arith, chunk)) at)) in
    let whole : put_piece (bytes_of_pages now) (addr + done) (take count (drop done piece)) ≡ put_piece (bytes_of_pages old) addr (take done piece ++ take count (drop done piece)) =
    rw p.bytes (put-more (bytes_of_pages old) addr (addr + done) (take done piece) (take count (drop done piece)) (omega (arith, first)) (omega (arith, chunk))) in
    let stamps : stamps_of now ≡ stamped_pages (stamps_of old) addr done number = p.stamps ∙ ap (λ n. stamped_pages (stamps_of old) addr n number) first in
    record {
      whole = whole-set now q page p.whole (rw is (put-length (get_or now q d).bytes r (take count (drop done piece)) (omega (arith, size, chunk))) ∙ size);
      bytes = here ∙ whole ∙ ap (put_piece (bytes_of_pages old) addr) (take-more piece done count);
      stamps = stamps-more old now addr done count q r number page stamps (ap (λ p. p.stamp) is) at some fits (omega (arith, room, len))
          ∙ ap (λ n. stamped_pages (stamps_of old) addr n number) (sym both);
    }

-- a write to one page
pub puts-one : (ps : List Page) (addr : ℕ) (piece : List ℕ) (number : ℕ) (d page : Page)
    → AreWhole ps → 0 < length piece → addr % 4096 + length piece ≤ 4096 → addr / 4096 < length ps
    → page ≡ put_in_page (get_or ps (addr / 4096) d) (addr % 4096) piece number → Puts ps (set ps (addr / 4096) page) addr piece number
puts-one ps addr piece number d page w some one room is =
    let size = whole-get ps (addr / 4096) d w room in
    let none : stamps_of ps ≡ stamped_pages (stamps_of ps) addr 0 number = sym (stamped-none 0 (stamps_of ps) addr number) in
    let all : 0 + length piece ≡ length piece = omega arith in
    record {
      whole = whole-set ps (addr / 4096) page w (rw is (put-length (get_or ps (addr / 4096) d).bytes (addr % 4096) piece (omega (arith, size))) ∙ size);
      bytes = rw is (sym (flat-put ps (addr / 4096) (addr % 4096) addr piece number d w room one (omega arith)));
      stamps = stamps-more ps ps addr 0 (length piece) (addr / 4096) (addr % 4096) number page none (ap (λ p. p.stamp) is) (omega arith) some one room
          ∙ ap (λ n. stamped_pages (stamps_of ps) addr n number) all;
    }

-- a write that wrote nothing
pub puts-nothing : (old new : List Page) (addr : ℕ) (piece : List ℕ) (number : ℕ) → new ≡ old → PutsPrefix old new addr piece number
puts-nothing old new addr piece number same = record {
  count = 0;
  most = omega arith;
  bytes = ap bytes_of_pages same ∙ sym (put-none (bytes_of_pages old) addr);
  stamps = ap stamps_of same ∙ sym (stamped-none 0 (stamps_of old) addr number);
}

-- a write that ended early
pub puts-prefix : (old new : List Page) (addr : ℕ) (piece : List ℕ) (done number : ℕ) → done ≤ length piece → Puts old new addr (take done piece) number → PutsPrefix old new addr piece number
puts-prefix old new addr piece done number most p =
    let first : length (take done piece) ≡ done = simp length-take (omega arith) in
    record { count = done; most = most; bytes = p.bytes; stamps = p.stamps ∙ ap (λ n. stamped_pages (stamps_of old) addr n number) first }

-- what the pages tell of a write that ended early is what the memory tells of it
pub prefix-seen : (old new : List Page) (max addr number : ℕ) (piece : List ℕ) → PutsPrefix old new addr piece number → addr + length piece ≤ length (bytes_of_pages old)
    → WritesPrefix (record { bytes = bytes_of_pages old; max = max; stamps = stamps_of old; number = number }) (record { bytes = bytes_of_pages new; max = max; stamps = stamps_of new; number = number }) addr piece
prefix-seen old new max addr number piece p inside =
    let some : length (take p.count piece) ≡ p.count = simp length-take (omega (arith, p.most)) in
    let stamps : stamps_of new ≡ stamped_pages (stamps_of old) addr (length (take p.count piece)) number = p.stamps ∙ ap (λ n. stamped_pages (stamps_of old) addr n number) (sym some) in
    record {
      count = p.count;
      inside = inside;
      after = ap (λ (b : List ℕ). record { bytes = b; max = max; stamps = stamps_of new; number = number }) p.bytes
          ∙ ap (λ (s : List ℕ). record { bytes = put_piece (bytes_of_pages old) addr (take p.count piece); max = max; stamps = s; number = number }) stamps;
    }
