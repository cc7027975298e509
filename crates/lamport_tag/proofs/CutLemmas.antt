-- What is cut at its end has no tag that it did not have.
use Rattle.std.proofs.Common.{◌≡◌, ℕ, ◌≤◌, ◌^◌, List, ◌++◌, drop, take, Some, None, sym, ap, ◌∙◌, append_assoc}
use Rattle.std.proofs.lemmas.List.{take-append-drop}
use Rattle.lamport_tag.specs.Tag.{IsUntagged, tag_at, tag_bytes}
use Rattle.lamport_tag.proofs.TagLemmas.{tag_at-tagged, untagged_at}

pub cut_untagged : (count cap : ℕ) (datagram : List ℕ) → IsUntagged count datagram → IsUntagged count (take cap datagram)
cut_untagged count cap datagram untagged tag payload h =
    let spelled : datagram ≡ tag_bytes tag ++ (payload ++ drop cap datagram) =
    sym (take-append-drop cap datagram)
    ∙ ap (λ (front : List ℕ). front ++ drop cap datagram) h.spelled
    ∙ append_assoc (tag_bytes tag) payload (drop cap datagram) in
    untagged tag (payload ++ drop cap datagram) (record { spelled = spelled; from_group = h.from_group; begun = h.begun; bounded = h.bounded })

none_found : (count : ℕ) (datagram : List ℕ) → count ≤ 2 ^ 32 → tag_at count datagram ≡ None → IsUntagged count datagram
none_found count datagram few none tag payload h =
    let found : tag_at count datagram ≡ Some (tag, payload) = tag_at-tagged count datagram tag payload few h in
    cc

pub cut_found : (count cap : ℕ) (datagram : List ℕ) → count ≤ 2 ^ 32 → tag_at count datagram ≡ None → tag_at count (take cap datagram) ≡ None
cut_found count cap datagram few none =
    untagged_at count (take cap datagram) (cut_untagged count cap datagram (none_found count datagram few none))
