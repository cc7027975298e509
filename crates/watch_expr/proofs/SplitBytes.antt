-- Bytes that are read in two parts.
use Rattle.std.proofs.Common.{◌≡◌, ℕ, ◌+◌, ◌-◌, ◌<◌, ◌≤◌, List, ◌++◌, length, take, drop, Option, Some, None, sym, ap, ◌∙◌, arith, append_assoc, length-append, length-drop}
use Rattle.std.proofs.Math.Seq.{take-add, take-append_seam}
use Rattle.std.proofs.lemmas.Bool.Decides.{nat_tests}
use Rattle.std.proofs.lemmas.Grind.{common_steps}
use Rattle.std.proofs.lemmas.List.{drop-drop, length-take-le}
use Rattle.std.specs.Prelude.{slice_get}
use Rattle.guest_memory.specs.Memory.{Memory, bytes_from, stretch_in_page}
use Rattle.watch_expr.specs.View.{Node, ◌>>=◌, part_at, part_of, bytes_of_node, piece_in_memory}

part_inside : (memory : Memory) (addr len : ℕ) (part : List ℕ) → Some part ≡ part_of memory addr len
    → (addr + len ≤ length memory.bytes) × (part ≡ bytes_from memory addr (stretch_in_page addr len))
part_inside memory addr len part e = grind (arith, common_steps, nat_tests)

piece_inside : (memory : Memory) (addr len : ℕ) → addr + len ≤ length memory.bytes → Some (bytes_from memory addr len) ≡ piece_in_memory memory addr len
piece_inside memory addr len inside = grind (arith, common_steps, nat_tests)

-- a part that is shorter than the range ends with its page, and the rest of 8 bytes at most lies in the next one
rest_fits : (addr count n : ℕ) → n ≡ stretch_in_page addr count → n < count → count ≤ 8 → stretch_in_page (addr + n) (count - n) ≡ count - n
rest_fits addr count n e short few = omega arith

length-bytes : (bytes : List ℕ) (addr n count : ℕ) → n ≤ count → addr + count ≤ length bytes → length (take n (drop addr bytes)) ≡ n
length-bytes bytes addr n count few inside = length-take-le n (drop addr bytes) (omega (arith, length-drop addr bytes))

joined : (bytes : List ℕ) (addr n m : ℕ) → take n (drop addr bytes) ++ take m (drop (addr + n) bytes) ≡ take (n + m) (drop addr bytes)
joined bytes addr n m = rw (← drop-drop n addr bytes) (sym (take-add n m (drop addr bytes)))

-- what the array begins with
front : (first rest zeros tail : List ℕ) → take (length first + length rest) (take (length first) (first ++ zeros) ++ (rest ++ tail)) ≡ first ++ rest
front first rest zeros tail =
    rw (take-append_seam first zeros, ← append_assoc first rest tail, ← length-append first rest) (take-append_seam (first ++ rest) tail)

in_memory : (memory : Memory) (addr count : ℕ) (first rest zeros tail : List ℕ)
    → Some first ≡ part_of memory addr count → Some rest ≡ part_of memory (addr + length first) (count - length first)
    → length first < count → count ≤ 8
    → Some (take count (take (length first) (first ++ zeros) ++ (rest ++ tail))) ≡ piece_in_memory memory addr count
in_memory memory addr count first rest zeros tail is_first is_rest short few =
    let a = part_inside memory addr count first is_first in
    let b = part_inside memory (addr + length first) (count - length first) rest is_rest in
    let n = length first in
    let long : n ≡ stretch_in_page addr count = ap length a.1 ∙ length-bytes memory.bytes addr (stretch_in_page addr count) count (omega arith) a.0 in
    let fits : stretch_in_page (addr + n) (count - n) ≡ count - n = rest_fits addr count n long short few in
    let the_first : first ≡ take n (drop addr memory.bytes) = a.1 ∙ ap (λ (k : ℕ). take k (drop addr memory.bytes)) (sym long) in
    let the_rest : rest ≡ take (count - n) (drop (addr + n) memory.bytes) = b.1 ∙ ap (λ (k : ℕ). take k (drop (addr + n) memory.bytes)) fits in
    let rest_long : length rest ≡ count - n = ap length the_rest ∙ length-bytes memory.bytes (addr + n) (count - n) (count - n) (omega arith) (omega (arith, a.0)) in
    let all : n + length rest ≡ count = omega arith in
    let sum : n + (count - n) ≡ count = omega arith in
    let whole : first ++ rest ≡ bytes_from memory addr count =
    ap (λ (x : List ℕ). x ++ rest) the_first ∙ ap (λ (x : List ℕ). take n (drop addr memory.bytes) ++ x) the_rest
    ∙ joined memory.bytes addr n (count - n) ∙ ap (λ (k : ℕ). take k (drop addr memory.bytes)) sum in
    ap (λ (k : ℕ). Some (take k (take n (first ++ zeros) ++ (rest ++ tail)))) (sym all)
    ∙ ap (λ (x : List ℕ). Some x) (front first rest zeros tail ∙ whole)
    ∙ piece_inside memory addr count a.0

at_node : (o : Option Node) (addr count : ℕ) (first rest zeros tail : List ℕ)
    → Some first ≡ (o >>= λ s. part_of s.memory addr count) → Some rest ≡ (o >>= λ s. part_of s.memory (addr + length first) (count - length first))
    → length first < count → count ≤ 8
    → Some (take count (take (length first) (first ++ zeros) ++ (rest ++ tail))) ≡ (o >>= λ s. piece_in_memory s.memory addr count)
at_node None addr count first rest zeros tail is_first is_rest short few = absurd cc
at_node (Some s) addr count first rest zeros tail is_first is_rest short few = in_memory s.memory addr count first rest zeros tail is_first is_rest short few

pub two_parts : (nodes : List Node) (node addr count : ℕ) (first rest zeros tail : List ℕ)
    → Some first ≡ part_at nodes node addr count → Some rest ≡ part_at nodes node (addr + length first) (count - length first)
    → length first < count → count ≤ 8
    → Some (take count (take (length first) (first ++ zeros) ++ (rest ++ tail))) ≡ bytes_of_node nodes node addr count
two_parts nodes node addr count first rest zeros tail is_first is_rest short few = at_node (slice_get nodes node) addr count first rest zeros tail is_first is_rest short few
