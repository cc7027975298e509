-- A datagram has a tag exactly where `tag_at` gives one, and no other tag and payload than that.
use Rattle.std.proofs.Common.{◌≡◌, ℕ, ◌^◌, ◌<◌, ◌≤◌, Bool, true, false, cond, ◌&&◌, List, ◌++◌, length, drop, Option, Some, None, refl, sym, ap, ◌∙◌, subst, arith, length-drop, length-append}
use Rattle.std.specs.Prelude.{nat_eq}
use Rattle.std.specs.List.{starts_with}
use Rattle.std.specs.Int.{w32, w64, to_le_bytes, from_le_bytes}
use Rattle.std.proofs.lemmas.Nat.{from_le_bytes-to_le_bytes_4, from_le_bytes-to_le_bytes_8}
use Rattle.std.proofs.lemmas.Bool.{false≢true}
use Rattle.byteorder.specs.Endian.{little_number}
use Rattle.std.proofs.lemmas.Bool.Decides.{Decides-eqb, nat_tests}
use Rattle.std.proofs.lemmas.Slice.Eq.{starts_is}
use Rattle.std.proofs.lemmas.Option.{cond_some, some_pair_parts}
use Rattle.std.proofs.lemmas.List.{drop-drop, drop_at}
use Rattle.lamport_tag.specs.declared.Tag.{Tag}
use Rattle.lamport_tag.specs.Tag.{magic, tag_bytes, IsTagged, IsUntagged, numbers_at, is_sendable, tag_at}
use Rattle.lamport_tag.proofs.LittleEndian.{AreBytes, AreBytes-drop, le_front_4, le_front_8, le_number_4, le_number_8}

pub length-tag_bytes : (tag : Tag) → length (tag_bytes tag) ≡ 16
unfolding tag_bytes
length-tag_bytes tag = refl

-- a tag's numbers are read back from its bytes
pub numbers_at-tag_bytes : (tag : Tag) (payload : List ℕ) → tag.sender < 2 ^ 32 → tag.clock < 2 ^ 64 → numbers_at (tag_bytes tag ++ payload) ≡ tag
unfolding numbers_at tag_bytes
numbers_at-tag_bytes tag payload sender clock =
    let by_clock : ℕ → Tag = λ c. record { sender = from_le_bytes w32 (to_le_bytes w32 tag.sender); clock = c } in
    let by_sender : ℕ → Tag = λ s. record { sender = s; clock = tag.clock } in
    ap by_clock (from_le_bytes-to_le_bytes_8 tag.clock clock) ∙ ap by_sender (from_le_bytes-to_le_bytes_4 tag.sender sender)

-- the tests say what the relation says of the two numbers
pub sendable : (count : ℕ) (tag : Tag) → is_sendable count tag ≡ true → (tag.sender < count) × (1 ≤ tag.clock) × (tag.clock ≤ 2 ^ 62)
sendable count tag tests = grind (arith, nat_tests)

tagged : (count : ℕ) (datagram : List ℕ) (tag : Tag) (payload : List ℕ) → datagram ≡ tag_bytes tag ++ payload → is_sendable count tag ≡ true → IsTagged count datagram tag payload
tagged count datagram tag payload spelled tests =
    let facts = sendable count tag tests in
    record { spelled = spelled; from_group = facts.0; begun = facts.1; bounded = facts.2 }

and_parts : (a b : Bool) → (a && b) ≡ true → (a ≡ true) × (b ≡ true)
and_parts true b e = (refl, e)
and_parts false b e = absurd cc

pub is_sendable-from : (count : ℕ) (tag : Tag) → tag.sender < count → 1 ≤ tag.clock → tag.clock ≤ 2 ^ 62 → is_sendable count tag ≡ true
is_sendable-from count tag sender begun bounded = grind (arith, nat_tests)

pub tag_at-found : (count : ℕ) (datagram : List ℕ) (tag : Tag) (payload : List ℕ) → tag_at count datagram ≡ Some (tag, payload) → IsTagged count datagram tag payload
unfolding tag_at tag_bytes
tag_at-found count datagram tag payload found =
    let chosen = cond_some _ _ _ found in
    let parts = and_parts _ _ chosen.0 in
    let spelled = (starts_is Decides-eqb datagram (tag_bytes (numbers_at datagram)) _ refl).0 parts.0 in
    let at : IsTagged count datagram (numbers_at datagram) (drop 16 datagram) = tagged _ _ _ _ spelled parts.1 in
    subst (λ (x : Tag × List ℕ). IsTagged count datagram x.0 x.1) chosen.1 at

pub tag_at-tagged : (count : ℕ) (datagram : List ℕ) (tag : Tag) (payload : List ℕ) → count ≤ 2 ^ 32 → IsTagged count datagram tag payload → tag_at count datagram ≡ Some (tag, payload)
unfolding tag_at
tag_at-tagged count datagram tag payload few h =
    let numbers : numbers_at datagram ≡ tag = ap numbers_at h.spelled ∙ numbers_at-tag_bytes tag payload (omega arith) (omega arith) in
    let starts : starts_with nat_eq datagram (tag_bytes tag) ≡ true = (starts_is Decides-eqb datagram (tag_bytes tag) _ refl).1 payload h.spelled in
    let sent : is_sendable count tag ≡ true = is_sendable-from count tag h.from_group h.begun h.bounded in
    let behind : drop 16 datagram ≡ payload = ap (drop 16) h.spelled ∙ drop_at (tag_bytes tag) payload 16 (length-tag_bytes tag) in
    let choice : Tag → Option (Tag × List ℕ) = λ t. cond (starts_with nat_eq datagram (tag_bytes t) && is_sendable count t) (Some (t, drop 16 datagram)) None in
    ap choice numbers ∙ rw (starts, sent, behind) refl

-- a datagram has at most one tag and payload
pub one_tag : (count : ℕ) (datagram : List ℕ) (tag tag' : Tag) (payload payload' : List ℕ) → count ≤ 2 ^ 32 → IsTagged count datagram tag payload → IsTagged count datagram tag' payload' → (tag ≡ tag') × (payload ≡ payload')
one_tag count datagram tag tag' payload payload' few one other =
    some_pair_parts tag tag' payload payload' (sym (tag_at-tagged count datagram tag payload few one) ∙ tag_at-tagged count datagram tag' payload' few other)

-- where the magic bytes stand, the bytes are those of the numbers that stand after them
pub spelled_at : (datagram : List ℕ) → AreBytes datagram → 16 ≤ length datagram → starts_with nat_eq datagram magic ≡ true → datagram ≡ tag_bytes (numbers_at datagram) ++ drop 16 datagram
unfolding numbers_at tag_bytes
spelled_at datagram bytes long starts =
    let magical : datagram ≡ magic ++ drop 4 datagram = (starts_is Decides-eqb datagram magic _ refl).0 starts in
    let sender = le_front_4 (drop 4 datagram) (AreBytes-drop 4 datagram bytes) (omega (arith, length-drop 4 datagram)) in
    let clock = le_front_8 (drop 8 datagram) (AreBytes-drop 8 datagram bytes) (omega (arith, length-drop 8 datagram)) in
    magical ∙ ap (λ (x : List ℕ). magic ++ x) (sender ∙ ap (λ (x : List ℕ). to_le_bytes w32 (from_le_bytes w32 (drop 4 datagram)) ++ x) (drop-drop 4 4 datagram ∙ clock ∙ ap (λ (x : List ℕ). to_le_bytes w64 (from_le_bytes w64 (drop 8 datagram)) ++ x) (drop-drop 8 8 datagram)))

-- ---- what a reader of tags gives, by its tests

none_from : {A : Type 0} (o : Option A) → ((x : A) → o ≡ Some x → ⊥) → o ≡ None
none_from None h = refl
none_from (Some x) h = absurd (h x refl)

pub untagged_at : (count : ℕ) (datagram : List ℕ) → IsUntagged count datagram → tag_at count datagram ≡ None
untagged_at count datagram untagged = none_from (tag_at count datagram) (λ x found. untagged x.0 x.1 (tag_at-found count datagram x.0 x.1 found))

pub too_short : (count : ℕ) (datagram : List ℕ) → length datagram < 16 → IsUntagged count datagram
too_short count datagram short tag payload h =
    omega (arith, ap length h.spelled, length-append (tag_bytes tag) payload, length-tag_bytes tag)

starts_with-tag_bytes : (tag : Tag) (payload : List ℕ) → starts_with nat_eq (tag_bytes tag ++ payload) magic ≡ true
unfolding tag_bytes
starts_with-tag_bytes tag payload = refl

pub no_magic : (count : ℕ) (datagram : List ℕ) → starts_with nat_eq datagram magic ≡ false → IsUntagged count datagram
no_magic count datagram other tag payload h = false≢true (sym other ∙ ap (λ (x : List ℕ). starts_with nat_eq x magic) h.spelled ∙ starts_with-tag_bytes tag payload)

pub not_sendable : (count : ℕ) (datagram : List ℕ) → count ≤ 2 ^ 32 → is_sendable count (numbers_at datagram) ≡ false → IsUntagged count datagram
not_sendable count datagram few other tag payload h =
    let numbers : numbers_at datagram ≡ tag = ap numbers_at h.spelled ∙ numbers_at-tag_bytes tag payload (omega arith) (omega arith) in
    false≢true (sym other ∙ ap (is_sendable count) numbers ∙ is_sendable-from count tag h.from_group h.begun h.bounded)

pub read_tagged : (count : ℕ) (datagram : List ℕ) → AreBytes datagram → 16 ≤ length datagram → starts_with nat_eq datagram magic ≡ true → is_sendable count (numbers_at datagram) ≡ true → IsTagged count datagram (numbers_at datagram) (drop 16 datagram)
read_tagged count datagram bytes long starts sent = tagged _ _ _ _ (spelled_at datagram bytes long starts) sent

-- the numbers as `byteorder` reads them
pub numbers_at-read : (datagram : List ℕ) (s c : ℕ) → s ≡ little_number 4 (drop 4 datagram) → c ≡ little_number 8 (drop 8 datagram) → numbers_at datagram ≡ record { sender = s; clock = c }
unfolding numbers_at
numbers_at-read datagram s c sender clock =
    let by_clock : ℕ → Tag = λ x. record { sender = from_le_bytes w32 (drop 4 datagram); clock = x } in
    let by_sender : ℕ → Tag = λ x. record { sender = x; clock = c } in
    ap by_clock (le_number_8 (drop 8 datagram) ∙ sym clock) ∙ ap by_sender (le_number_4 (drop 4 datagram) ∙ sym sender)

-- what a reader says that found these two numbers after the magic bytes
pub record Reads (datagram : List ℕ) (sender clock : ℕ) : Type 0 where
  pub bytes : AreBytes datagram
  pub long : 16 ≤ length datagram
  pub starts : starts_with nat_eq datagram magic ≡ true
  pub sender_read : sender ≡ little_number 4 (drop 4 datagram)
  pub clock_read : clock ≡ little_number 8 (drop 8 datagram)

pub Reads-untagged : (count : ℕ) (datagram : List ℕ) (sender clock : ℕ) → count ≤ 2 ^ 32 → Reads datagram sender clock → is_sendable count (record { sender = sender; clock = clock }) ≡ false → IsUntagged count datagram
Reads-untagged count datagram sender clock few h tests =
    not_sendable count datagram few (ap (is_sendable count) (numbers_at-read datagram sender clock h.sender_read h.clock_read) ∙ tests)

pub Reads-tagged : (count : ℕ) (datagram : List ℕ) (sender clock : ℕ) → Reads datagram sender clock → is_sendable count (record { sender = sender; clock = clock }) ≡ true → IsTagged count datagram (record { sender = sender; clock = clock }) (drop 16 datagram)
Reads-tagged count datagram sender clock h tests =
    let numbers = numbers_at-read datagram sender clock h.sender_read h.clock_read in
    subst (λ (tag : Tag). IsTagged count datagram tag (drop 16 datagram)) numbers
    (read_tagged count datagram h.bytes h.long h.starts (ap (is_sendable count) numbers ∙ tests))
