-- Watch pages, the bytes that they make end to end, and what is written to them.
use Rattle.std.specs.Prelude.{◌≡◌, ◌≤◌, ℕ, List, [], ◌∷◌, ◌++◌, length, take}
use Rattle.guest_memory.specs.Memory.{put_piece}
use Rattle.guest_memory.specs.Stamps.{stamped_pages}
use Rattle.guest_memory.specs.declared.page.Page.{Page}

-- the page after the event of this number wrote the piece to it
abbrev pub put_in_page : Page → ℕ → List ℕ → ℕ → Page
put_in_page p at piece number = record { stamp = number; bytes = put_piece p.bytes at piece }

-- the bytes of all pages
abbrev pub bytes_of_pages : List Page → List ℕ
bytes_of_pages [] = []
bytes_of_pages (p ∷ ps) = p.bytes ++ bytes_of_pages ps

-- and their stamps
abbrev pub stamps_of : List Page → List ℕ
stamps_of [] = []
stamps_of (p ∷ ps) = p.stamp ∷ stamps_of ps

-- each page has 4,096 bytes
abbrev pub AreWhole : List Page → Type 0
AreWhole [] = Unit {0}
AreWhole (p ∷ ps) = (length p.bytes ≡ 4096) × AreWhole ps

-- only a first part of the piece was written over the pages, by the event of this number
pub record PutsPrefix (old new : List Page) (addr : ℕ) (piece : List ℕ) (number : ℕ) : Type 0 where
  pub count : ℕ
  pub most : count ≤ length piece
  pub bytes : bytes_of_pages new ≡ put_piece (bytes_of_pages old) addr (take count piece)
  pub stamps : stamps_of new ≡ stamped_pages (stamps_of old) addr count number
