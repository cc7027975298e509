-- Laws of stamps.
use Rattle.std.specs.Prelude.{◌≡◌, ◌+◌, ◌*◌, ◌<◌, ◌≤◌, ℕ, List, length}
use Rattle.guest_memory.specs.Memory.{Memory, after_grow, bytes_from, fresh_memory, stamp_of, with_bytes}
use Rattle.guest_memory.specs.Stamps.{AreWithin}

-- the same event writes, and where no stamp was later than it, none is
pub record StampsNoLater (old new : Memory) : Type 0 where
  pub number : new.number ≡ old.number
  pub within : AreWithin old.number old.stamps → AreWithin old.number new.stamps

abbrev pub NoLaterWhenWritten : Type 0
NoLaterWhenWritten = (memory : Memory) (addr : ℕ) (piece : List ℕ) → StampsNoLater memory (with_bytes memory addr piece)

abbrev pub NoLaterWhenGrown : Type 0
NoLaterWhenGrown = (memory : Memory) (pages : ℕ) → StampsNoLater memory (after_grow memory pages)

-- a new memory bears no event's number
abbrev pub FreshIsUnstamped : Type 0
FreshIsUnstamped = (pages max : ℕ) → AreWithin 0 (fresh_memory pages max).stamps

-- the watch page is as it was
pub record SameWatchPage (old new : Memory) (page : ℕ) : Type 0 where
  pub stamp : stamp_of new page ≡ stamp_of old page
  pub bytes : page < length old.stamps → 4096 * page + 4096 ≤ length old.bytes → bytes_from new (4096 * page) 4096 ≡ bytes_from old (4096 * page) 4096

-- each page bears this number or is as it was, and none is gone
pub record StampsTell (number : ℕ) (old new : Memory) : Type 0 where
  pub grows : length old.stamps ≤ length new.stamps
  pub longer : length old.bytes ≤ length new.bytes
  pub pages : (page : ℕ) → (stamp_of new page ≡ number → ⊥) → SameWatchPage old new page

abbrev pub TellsWhenWritten : Type 0
TellsWhenWritten = (memory : Memory) (addr : ℕ) (piece : List ℕ) → StampsTell memory.number memory (with_bytes memory addr piece)

abbrev pub TellsWhenGrown : Type 0
TellsWhenGrown = (memory : Memory) (pages : ℕ) → StampsTell memory.number memory (after_grow memory pages)

-- a write leaves how many pages there are
abbrev pub KeepsPages : Type 0
KeepsPages = (memory : Memory) (addr : ℕ) (piece : List ℕ) → length (with_bytes memory addr piece).stamps ≡ length memory.stamps
