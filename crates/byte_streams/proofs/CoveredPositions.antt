-- The positions that a receive covers, in a list that says of each position whether it is covered.
use Rattle.std.proofs.Common.{◌≡◌, ℕ, ◌+◌, ◌-◌, ◌<◌, ◌≤◌, zero, suc, Bool, true, List, [], ◌∷◌, ◌++◌, length, map, take, drop, replicate, get_or, refl, sym, ap, ◌∙◌, arith, ⊎_elim, length-append, length-drop}
use Rattle.std.specs.Prelude.{◌&&◌, ◌||◌, nat_le, nat_lt}
use Rattle.std.proofs.lemmas.Bool.{cases_lt, le-leb, le-ltb, lt-leb, lt-ltb}
use Rattle.std.proofs.lemmas.List.{get_or-append_right, get_or-drop, get_or-replicate, get_or-take, get_or_append_left, get_or_at, length-map, length-replicate, length-take, length-take-le, map-append, same_lists}
use Rattle.byte_streams.specs.inside.Keeping.{cover}
use Rattle.byte_streams.specs.Traffic.{numbers_below}

pub length-below : (n : ℕ) → length (numbers_below n) ≡ n
length-below zero = refl
length-below (suc n) = omega (arith, length-append (numbers_below n) (n ∷ []), length-below n)

length-map_below : (f : ℕ → Bool) (n : ℕ) → length (map f (numbers_below n)) ≡ n
length-map_below f n = length-map (numbers_below n) f ∙ length-below n

pub get_below : (f : ℕ → Bool) (n i : ℕ) (d : Bool) → i < n → get_or (map f (numbers_below n)) i d ≡ f i
get_below f zero i d less = absurd (omega arith)
get_below f (suc n) i d less =
    ap (λ (l : List Bool). get_or l i d) (map-append f (numbers_below n) (n ∷ []))
    ∙ ⊎_elim
    (λ before. get_or_append_left (map f (numbers_below n)) (f n ∷ []) d i (omega (arith, length-map_below f n)) ∙ get_below f n i d before)
    (λ past. let at : n ≡ i = omega arith in get_or_at (map f (numbers_below n)) (f n) [] d i (length-map_below f n ∙ at) ∙ ap f at)
    (cases_lt i n)

length-cover : (offset count : ℕ) (l : List Bool) → offset + count ≤ length l → length (cover offset count l) ≡ length l
length-cover offset count l within = omega (
  arith,
  length-append (take offset l) (replicate count true ++ drop (offset + count) l),
  length-append (replicate count true) (drop (offset + count) l),
  length-take offset l,
  length-replicate count true,
  length-drop (offset + count) l,
)

-- the last two parts of such a list
get_tail : (offset count : ℕ) (l : List Bool) (i : ℕ) (d : Bool) → offset + count ≤ length l → offset ≤ i → i < length l
    → get_or (replicate count true ++ drop (offset + count) l) (i - offset) d ≡ (nat_lt i (offset + count) || get_or l i d)
get_tail offset count l i d within from less = ⊎_elim
    (λ inside.
    get_or_append_left (replicate count true) (drop (offset + count) l) d (i - offset) (omega (arith, length-replicate count true))
    ∙ get_or-replicate count (i - offset) true d (omega arith) ∙ sym (ap (λ (b : Bool). b || get_or l i d) (lt-ltb i (offset + count) inside)))
    (λ past.
    get_or-append_right (replicate count true) (drop (offset + count) l) count (i - offset) d (length-replicate count true) (omega arith)
    ∙ get_or-drop (offset + count) l ((i - offset) - count) d
    ∙ ap (λ (n : ℕ). get_or l n d) (let e : (offset + count) + ((i - offset) - count) ≡ i = omega arith in e)
    ∙ sym (ap (λ (b : Bool). b || get_or l i d) (le-ltb i (offset + count) past)))
    (cases_lt i (offset + count))

get_cover : (offset count : ℕ) (l : List Bool) (i : ℕ) (d : Bool) → offset + count ≤ length l → i < length l
    → get_or (cover offset count l) i d ≡ ((nat_le offset i && nat_lt i (offset + count)) || get_or l i d)
get_cover offset count l i d within less = ⊎_elim
    (λ before.
    get_or_append_left (take offset l) (replicate count true ++ drop (offset + count) l) d i (omega (arith, length-take offset l))
    ∙ get_or-take offset l i d before ∙ sym (ap (λ (b : Bool). (b && nat_lt i (offset + count)) || get_or l i d) (lt-leb offset i before)))
    (λ from.
    get_or-append_right (take offset l) (replicate count true ++ drop (offset + count) l) offset i d (length-take-le offset l (omega arith)) from
    ∙ get_tail offset count l i d within from less
    ∙ sym (ap (λ (b : Bool). (b && nat_lt i (offset + count)) || get_or l i d) (le-leb offset i from)))
    (cases_lt i offset)

-- to cover positions is to ask of each whether it is one of them, and else as before
pub cover_below : (f : ℕ → Bool) (offset count n : ℕ) → offset + count ≤ n
    → map (λ (i : ℕ). (nat_le offset i && nat_lt i (offset + count)) || f i) (numbers_below n) ≡ cover offset count (map f (numbers_below n))
cover_below f offset count n within =
    let room : offset + count ≤ length (map f (numbers_below n)) = omega (arith, length-map_below f n) in
    let covered : ℕ → Bool = λ i. (nat_le offset i && nat_lt i (offset + count)) || f i in
    same_lists _ _ (length-map_below covered n ∙ sym (length-cover offset count (map f (numbers_below n)) room ∙ length-map_below f n))
    (λ i d less.
    let inside : i < n = omega (arith, length-map_below covered n) in
    get_below covered n i d inside
    ∙ sym (get_cover offset count (map f (numbers_below n)) i d room (omega (arith, length-map_below f n)) ∙ ap (λ (b : Bool). (nat_le offset i && nat_lt i (offset + count)) || b) (get_below f n i d inside)))
