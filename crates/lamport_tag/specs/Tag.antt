-- The tag in front of a datagram that was sent into the group, and the rule of the clocks that it bears.
use Rattle.std.specs.Prelude.{◌≡◌, ℕ, ◌+◌, ◌<◌, ◌≤◌, max, List, ◌∷◌, ◌++◌, drop, codes, nat_eq, nat_lt, nat_le, ◌&&◌, Bool, Option, Some, None, if◌then◌else◌}
use Rattle.std.specs.List.{starts_with}
use Rattle.std.specs.Int.{w32, w64, to_le_bytes, from_le_bytes}
use Rattle.lamport_tag.specs.Limits.{most_clock}
use Rattle.lamport_tag.specs.declared.Tag.{Tag}

-- the bytes that each tag begins with
abbrev pub magic : List ℕ
magic = 215 ∷ codes "LOG"

-- a tag's 16 bytes: the magic bytes, the sender and the clock, the lowest byte of a number first
unfoldable pub tag_bytes : Tag → List ℕ
tag_bytes tag = magic ++ to_le_bytes w32 tag.sender ++ to_le_bytes w64 tag.clock

-- a datagram of a group of `count` processes is this tag and then this payload
pub record IsTagged (count : ℕ) (datagram : List ℕ) (tag : Tag) (payload : List ℕ) : Type 0 where
  pub spelled : datagram ≡ tag_bytes tag ++ payload
  pub from_group : tag.sender < count
  pub begun : 1 ≤ tag.clock
  pub bounded : tag.clock ≤ most_clock

-- a datagram has no tag: all its bytes are payload
abbrev pub IsUntagged : ℕ → List ℕ → Type 0
IsUntagged count datagram = (tag : Tag) (payload : List ℕ) → IsTagged count datagram tag payload → ⊥

-- the numbers that stand where a tag has its sender and its clock
unfoldable pub numbers_at : List ℕ → Tag
numbers_at datagram = record { sender = from_le_bytes w32 (drop 4 datagram); clock = from_le_bytes w64 (drop 8 datagram) }

-- the tag is one that a process of a group of `count` can have sent
abbrev pub is_sendable : ℕ → Tag → Bool
is_sendable count tag = nat_lt tag.sender count && nat_le 1 tag.clock && nat_le tag.clock most_clock

-- the tag of a datagram and its payload, or nothing where it is untagged
unfoldable pub tag_at : ℕ → List ℕ → Option (Tag × List ℕ)
tag_at count datagram =
    let tag = numbers_at datagram in
    if starts_with nat_eq datagram (tag_bytes tag) && is_sendable count tag then Some (tag, drop 16 datagram) else None

-- In a group of `count` processes the datagram has this tag, or none, and this payload.
abbrev pub IsReadAs : ℕ → List ℕ → Option Tag → List ℕ → Type 0
IsReadAs count datagram (Some tag) payload = IsTagged count datagram tag payload
IsReadAs count datagram None payload = IsUntagged count datagram × (payload ≡ datagram)

-- a datagram's tag, if it has one, and its payload, by what is at its front
abbrev pub payload_behind : List ℕ → Option (Tag × List ℕ) → Option Tag × List ℕ
payload_behind datagram None = (None, datagram)
payload_behind datagram (Some tagged) = (Some tagged.0, tagged.1)

-- the tag and the payload of a datagram of a group of `count` processes
abbrev pub read_datagram : ℕ → List ℕ → Option Tag × List ℕ
read_datagram count datagram = payload_behind datagram (tag_at count datagram)

-- the clock that a taken datagram brought, or 0 where it brought none
abbrev pub clock_of : Option Tag → ℕ
clock_of None = 0
clock_of (Some tag) = tag.clock

-- the clock of an event after one with clock `last`, or with `last` 0 for the first one: one more than
-- the greater of that and of the clock that the event's datagram brought
abbrev pub next_clock_of : ℕ → Option Tag → ℕ
next_clock_of last tag = 1 + max last (clock_of tag)
