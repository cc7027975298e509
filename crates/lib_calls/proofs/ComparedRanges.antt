-- Bytes that are compared with a range of a memory in parts.
use Rattle.std.proofs.Common.{◌≡◌, ℕ, ◌+◌, ◌-◌, ◌<◌, ◌≤◌, Bool, true, false, List, ◌++◌, length, take, drop, ap, refl, sym, ◌∙◌, arith, length-drop}
use Rattle.std.specs.Prelude.{bytes_eq, nat_eq, not}
use Rattle.std.specs.Cmp.Lexicographic.{pointwise}
use Rattle.std.proofs.lemmas.Bool.{false_from_ne_true}
use Rattle.std.proofs.lemmas.Bool.Decides.{Decides-eqb}
use Rattle.std.proofs.lemmas.List.{drop-drop, drop-take, length-take-le, take-take}
use Rattle.std.proofs.lemmas.Slice.Eq.{bytes_eq-Decides, slice_eq-Decides}
use Rattle.guest_memory.specs.Memory.{stretch_in_page}
use Rattle.lib_calls.proofs.MemoryRanges.{part_more, take-add}

pub differ : (xs ys : List ℕ) → (xs ≡ ys → ⊥) → false ≡ bytes_eq xs ys
differ xs ys h = sym (false_from_ne_true (bytes_eq xs ys) (λ e. h ((bytes_eq-Decides xs ys).0 e)))

pub agree : (xs ys : List ℕ) → xs ≡ ys → true ≡ bytes_eq xs ys
agree xs ys h = sym ((bytes_eq-Decides xs ys).1 h)

-- so many bytes of a range are that many
pub range_length : (bytes : List ℕ) (addr len : ℕ) → addr + len ≤ length bytes → length (take len (drop addr bytes)) ≡ len
range_length bytes addr len inside = length-take-le len (drop addr bytes) (omega (arith, length-drop addr bytes))

-- bytes of another length are not those of a range
pub not_as_long : (xs bytes : List ℕ) (addr len : ℕ) → addr + len ≤ length bytes → (length xs ≡ len → ⊥) → false ≡ bytes_eq xs (take len (drop addr bytes))
not_as_long xs bytes addr len inside other = differ xs (take len (drop addr bytes)) (λ e. other (ap length e ∙ range_length bytes addr len inside))

-- a part is compared
abbrev Compared : List ℕ → List ℕ → ℕ → ℕ → Bool → Type 0
Compared xs part count size differs = differs ≡ not (pointwise nat_eq (take size (drop count xs)) part)

pub same_part : (xs part : List ℕ) (count size : ℕ) (differs : Bool) → size ≡ length part → Compared xs part count size differs → differs ≡ false → take (length part) (drop count xs) ≡ part
same_part xs part count size differs long compared same =
    ap (λ n. take n (drop count xs)) (sym long) ∙ by_test (pointwise nat_eq (take size (drop count xs)) part) refl (sym compared ∙ same)
  where
    by_test : (b : Bool) → b ≡ pointwise nat_eq (take size (drop count xs)) part → not b ≡ false → take size (drop count xs) ≡ part
    by_test true e h = (slice_eq-Decides Decides-eqb (take size (drop count xs)) part true e).0 refl
    by_test false e h = cc

pub part_differs : (xs part : List ℕ) (count size : ℕ) (differs : Bool) → size ≡ length part → Compared xs part count size differs → differs ≡ true → take (length part) (drop count xs) ≡ part → ⊥
part_differs xs part count size differs long compared other is =
    by_test (pointwise nat_eq (take size (drop count xs)) part) refl (sym compared ∙ other)
  where
    by_test : (b : Bool) → b ≡ pointwise nat_eq (take size (drop count xs)) part → not b ≡ true → ⊥
    by_test true e h = cc
    by_test false e h =
        let no = (slice_eq-Decides Decides-eqb (take size (drop count xs)) part false e).1 (ap (λ n. take n (drop count xs)) long ∙ is) in
        cc

-- one part more is the same
pub same_more : (xs bytes : List ℕ) (addr count : ℕ) (part : List ℕ) → addr + length xs ≤ length bytes → count < length xs
    → take count xs ≡ take count (drop addr bytes)
    → part ≡ take (stretch_in_page (addr + count) (length xs - count)) (drop (addr + count) bytes)
    → take (length part) (drop count xs) ≡ part
    → (count + length part ≤ length xs) × (take (count + length part) xs ≡ take (count + length part) (drop addr bytes))
same_more xs bytes addr count part inside more so_far is same =
    let size : ℕ = stretch_in_page (addr + count) (length xs - count) in
    let fits : size ≤ length xs - count = omega arith in
    let long : length part ≡ size = ap length is ∙ length-take-le size (drop (addr + count) bytes) (omega (arith, length-drop (addr + count) bytes)) in
    (omega arith, take-add count (length part) xs ∙ rw (so_far, same) (ap (λ (t : List ℕ). take count (drop addr bytes) ++ t) (is ∙ ap (λ n. take n (drop (addr + count) bytes)) (sym long)) ∙ sym (part_more bytes addr count (length part))))

-- a part that differs makes the whole differ
pub other_part : (xs bytes : List ℕ) (addr count : ℕ) (part : List ℕ) → addr + length xs ≤ length bytes → count < length xs
    → part ≡ take (stretch_in_page (addr + count) (length xs - count)) (drop (addr + count) bytes)
    → (take (length part) (drop count xs) ≡ part → ⊥)
    → false ≡ bytes_eq xs (take (length xs) (drop addr bytes))
other_part xs bytes addr count part inside more is other =
    let size : ℕ = stretch_in_page (addr + count) (length xs - count) in
    let fits : size ≤ length xs - count = omega arith in
    let long : length part ≡ size = ap length is ∙ length-take-le size (drop (addr + count) bytes) (omega (arith, length-drop (addr + count) bytes)) in
    let left : ℕ = length xs - count in
    let whole : length xs ≡ count + left = omega arith in
    let behind : List ℕ = drop (addr + count) bytes in
    differ xs (take (length xs) (drop addr bytes)) (λ e.
    let rest : drop count xs ≡ take left behind = ap (drop count) e
    ∙ ap (λ n. drop count (take n (drop addr bytes))) whole
    ∙ drop-take count left (drop addr bytes)
    ∙ ap (take left) (drop-drop count addr bytes) in
    other (ap (take (length part)) rest ∙ take-take (length part) left behind (omega (arith, long, fits)) ∙ ap (λ n. take n behind) long ∙ sym is))
