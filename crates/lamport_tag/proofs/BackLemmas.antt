-- A tag that is found is one of the group, and such a tag is found again.
use Rattle.std.proofs.Common.{◌≡◌, ℕ, ◌≤◌, ◌^◌, true, List, ◌++◌, Some, refl}
use Rattle.lamport_tag.specs.declared.Tag.{Tag}
use Rattle.lamport_tag.specs.Tag.{is_sendable, tag_at, tag_bytes}
use Rattle.lamport_tag.proofs.TagLemmas.{is_sendable-from, sendable, tag_at-found, tag_at-tagged}

pub found_sendable : (count : ℕ) (datagram : List ℕ) (tag : Tag) (payload : List ℕ) → tag_at count datagram ≡ Some (tag, payload) → is_sendable count tag ≡ true
found_sendable count datagram tag payload found =
    let tagged = tag_at-found count datagram tag payload found in
    is_sendable-from count tag tagged.from_group tagged.begun tagged.bounded

pub found_again : (count : ℕ) (tag : Tag) (payload : List ℕ) → count ≤ 2 ^ 32 → is_sendable count tag ≡ true → tag_at count (tag_bytes tag ++ payload) ≡ Some (tag, payload)
found_again count tag payload few tests =
    let facts = sendable count tag tests in
    tag_at-tagged count (tag_bytes tag ++ payload) tag payload few (record { spelled = refl; from_group = facts.0; begun = facts.1; bounded = facts.2 })
