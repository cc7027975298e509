-- What holds of the tags that are read, whatever a program does.
use Rattle.std.specs.Prelude.{◌≡◌, ℕ, ◌^◌, ◌≤◌, List, ◌++◌, take, true, Some, None}
use Rattle.lamport_tag.specs.declared.Tag.{Tag}
use Rattle.lamport_tag.specs.Tag.{is_sendable, tag_at, tag_bytes}

-- a datagram that is cut at its end has no tag where it had none
abbrev pub StaysUntagged : Type 0
StaysUntagged = (count cap : ℕ) (datagram : List ℕ) → count ≤ 2 ^ 32 → tag_at count datagram ≡ None → tag_at count (take cap datagram) ≡ None

-- a tag that is found is one that a process of the group can have sent
abbrev pub IsFromGroup : Type 0
IsFromGroup = (count : ℕ) (datagram : List ℕ) (tag : Tag) (payload : List ℕ) → tag_at count datagram ≡ Some (tag, payload) → is_sendable count tag ≡ true

-- and such a tag is found again in front of what follows it
abbrev pub IsReadBack : Type 0
IsReadBack =
    (count : ℕ) (tag : Tag) (payload : List ℕ) → count ≤ 2 ^ 32 → is_sendable count tag ≡ true → tag_at count (tag_bytes tag ++ payload) ≡ Some (tag, payload)
