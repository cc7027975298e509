-- The fields of a memory.
use Rattle.std.specs.Prelude.{◌≡◌, ◌≤◌, ◌*◌, ◌%◌, length}
use Rattle.guest_memory.specs.Limits.{most_pages}
use Rattle.guest_memory.specs.Memory.{Memory}
use Rattle.guest_memory.specs.inside.Pages.{AreWhole, bytes_of_pages, stamps_of}
use Rattle.guest_memory.specs.declared.memory.Memory.TheInside.{Inside}

-- the memory that the fields tell
abbrev pub memory_of : Inside → Memory
memory_of inside = record {
  bytes = bytes_of_pages inside.pages.items;
  max = inside.max;
  stamps = stamps_of inside.pages.items;
  number = inside.number;
}

-- they are those of a memory: whole watch pages, 16 of them for each page of the guest
pub record HasMemory (inside : Inside) : Type 0 where
  pub whole : AreWhole inside.pages.items
  pub even : length inside.pages.items % 16 ≡ 0
  pub within : length inside.pages.items ≤ 16 * inside.max
  pub most : inside.max ≤ most_pages
