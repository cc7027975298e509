-- Families of lengths, place by place, and the least of several.
use Rattle.std.proofs.Common.{◌≡◌, ◌∙◌, ◌⊎◌, ℕ, zero, suc, ◌≤◌, inl, inr, Bool, true, false, cond, List, [], ◌∷◌, ◌++◌, length, map, get_or, min, refl, ap, sym, subst, arith}
use Rattle.std.specs.Prelude.{IsTrue, filter, nat_le}
use Rattle.std.specs.List.{AllByRecursion, flat_map}
use Rattle.std.proofs.lemmas.Bool.{and_from, and_parts, cases_eq, le-leb, leb-true}
use Rattle.causal_cut.specs.Past.{families_within_lengths, is_within_lengths, least_of, lesser_lengths, numbers_up_to}

-- ---- place by place

abbrev pub at : List ℕ → ℕ → ℕ
at family node = get_or family node 0

-- no length is above the one at its place
abbrev pub AreBelow : List ℕ → List ℕ → Type 0
AreBelow ms ns = (node : ℕ) → at ms node ≤ at ns node

pub within_from : (ms ns : List ℕ) → length ms ≡ length ns → AreBelow ms ns → IsTrue (is_within_lengths ms ns)
within_from [] [] same below = refl
within_from [] (n ∷ ns) same below = absurd (omega (arith, same))
within_from (m ∷ ms) [] same below = absurd (omega (arith, same))
within_from (m ∷ ms) (n ∷ ns) same below =
    and_from (nat_le m n) (is_within_lengths ms ns) (le-leb m n (below 0)) (within_from ms ns (omega (arith, same)) (λ node. below (suc node)))

pub within_length : (ms ns : List ℕ) → IsTrue (is_within_lengths ms ns) → length ms ≡ length ns
within_length [] [] within = refl
within_length [] (n ∷ ns) within = absurd (cc)
within_length (m ∷ ms) [] within = absurd (cc)
within_length (m ∷ ms) (n ∷ ns) within = ap suc (within_length ms ns (and_parts (nat_le m n) (is_within_lengths ms ns) within).1)

pub within_at : (ms ns : List ℕ) → IsTrue (is_within_lengths ms ns) → AreBelow ms ns
within_at [] ns within node = omega arith
within_at (m ∷ ms) [] within node = absurd (cc)
within_at (m ∷ ms) (n ∷ ns) within zero = leb-true m n (and_parts (nat_le m n) (is_within_lengths ms ns) within).0
within_at (m ∷ ms) (n ∷ ns) within (suc node) = within_at ms ns (and_parts (nat_le m n) (is_within_lengths ms ns) within).1 node

within_trans : (ls ms ns : List ℕ) → IsTrue (is_within_lengths ls ms) → IsTrue (is_within_lengths ms ns) → IsTrue (is_within_lengths ls ns)
within_trans ls ms ns first second =
    within_from ls ns (within_length ls ms first ∙ within_length ms ns second) (λ node. omega (arith, within_at ls ms first node, within_at ms ns second node))

pub within_both : (ms ns : List ℕ) → IsTrue (is_within_lengths ms ns) → IsTrue (is_within_lengths ns ms) → ms ≡ ns
within_both [] [] first second = refl
within_both [] (n ∷ ns) first second = absurd (cc)
within_both (m ∷ ms) [] first second = absurd (cc)
within_both (m ∷ ms) (n ∷ ns) first second =
    let there = and_parts (nat_le m n) (is_within_lengths ms ns) first in
    let back = and_parts (nat_le n m) (is_within_lengths ns ms) second in
    let head : m ≡ n = omega (arith, leb-true m n there.0, leb-true n m back.0) in
    let tail : ms ≡ ns = within_both ms ns there.1 back.1 in
    cc

-- ---- the lesser of two

lesser_above : (ls ms ns : List ℕ) → IsTrue (is_within_lengths ls ms) → IsTrue (is_within_lengths ls ns) → IsTrue (is_within_lengths ls (lesser_lengths ms ns))
lesser_above [] [] ns first second = refl
lesser_above [] (m ∷ ms) ns first second = absurd (cc)
lesser_above (l ∷ ls) [] ns first second = absurd (cc)
lesser_above (l ∷ ls) (m ∷ ms) [] first second = absurd (cc)
lesser_above (l ∷ ls) (m ∷ ms) (n ∷ ns) first second =
    let one = and_parts (nat_le l m) (is_within_lengths ls ms) first in
    let two = and_parts (nat_le l n) (is_within_lengths ls ns) second in
    and_from (nat_le l (min m n)) (is_within_lengths ls (lesser_lengths ms ns)) (le-leb l (min m n) (omega (arith, leb-true l m one.0, leb-true l n two.0))) (lesser_above ls ms ns one.1 two.1)

lesser_left : (ms ns : List ℕ) → length ms ≡ length ns → IsTrue (is_within_lengths (lesser_lengths ms ns) ms)
lesser_left [] ns same = refl
lesser_left (m ∷ ms) [] same = absurd (omega (arith, same))
lesser_left (m ∷ ms) (n ∷ ns) same = and_from (nat_le (min m n) m) (is_within_lengths (lesser_lengths ms ns) ms) (le-leb (min m n) m (omega arith)) (lesser_left ms ns (omega (arith, same)))

lesser_right : (ms ns : List ℕ) → length ms ≡ length ns → IsTrue (is_within_lengths (lesser_lengths ms ns) ns)
lesser_right [] [] same = refl
lesser_right [] (n ∷ ns) same = absurd (omega (arith, same))
lesser_right (m ∷ ms) [] same = absurd (omega (arith, same))
lesser_right (m ∷ ms) (n ∷ ns) same = and_from (nat_le (min m n) n) (is_within_lengths (lesser_lengths ms ns) ns) (le-leb (min m n) n (omega arith)) (lesser_right ms ns (omega (arith, same)))

-- ---- the least of several

abbrev pub Has : {A : Type 0} → List A → A → Type 0
Has [] x = ⊥
Has (y ∷ ys) x = (y ≡ x) ⊎ Has ys x

least_above : (ls most : List ℕ) (fs : List (List ℕ)) → IsTrue (is_within_lengths ls most) → AllByRecursion (λ f. IsTrue (is_within_lengths ls f)) fs → IsTrue (is_within_lengths ls (least_of most fs))
least_above ls most [] within all = within
least_above ls most (f ∷ fs) within all = lesser_above ls f (least_of most fs) all.0 (least_above ls most fs within all.1)

length_least : (ls most : List ℕ) (fs : List (List ℕ)) → IsTrue (is_within_lengths ls most) → AllByRecursion (λ f. IsTrue (is_within_lengths ls f)) fs → length (least_of most fs) ≡ length ls
length_least ls most fs within all = sym (within_length ls (least_of most fs) (least_above ls most fs within all))

least_below : (ls most : List ℕ) (fs : List (List ℕ)) → IsTrue (is_within_lengths ls most) → AllByRecursion (λ f. IsTrue (is_within_lengths ls f)) fs → Has fs ls → IsTrue (is_within_lengths (least_of most fs) ls)
least_below ls most [] within all has = absurd has
least_below ls most (f ∷ fs) within all has =
    let same : length f ≡ length (least_of most fs) = sym (within_length ls f all.0) ∙ sym (length_least ls most fs within all.1) in
    elim has [
      | inl is ↦ subst (λ g. IsTrue (is_within_lengths (lesser_lengths f (least_of most fs)) g)) is (lesser_left f (least_of most fs) same)
      | inr later ↦ within_trans (lesser_lengths f (least_of most fs)) (least_of most fs) ls (lesser_right f (least_of most fs) same) (least_below ls most fs within all.1 later)
    ]

-- one of them that is above none is the least
pub least_is : (ls most : List ℕ) (fs : List (List ℕ)) → IsTrue (is_within_lengths ls most) → AllByRecursion (λ f. IsTrue (is_within_lengths ls f)) fs → Has fs ls → least_of most fs ≡ ls
least_is ls most fs within all has = within_both (least_of most fs) ls (least_below ls most fs within all has) (least_above ls most fs within all)

-- ---- which families there are

module _ {A : Type 0} where
  pub all_append : (P : A → Type 0) (xs ys : List A) → AllByRecursion P xs → AllByRecursion P ys → AllByRecursion P (xs ++ ys)
  all_append P [] ys first second = second
  all_append P (x ∷ xs) ys first second = (first.0, all_append P xs ys first.1 second)

  pub all_filter : (P : A → Type 0) (test : A → Bool) (xs : List A) → AllByRecursion (λ x. test x ≡ true → P x) xs → AllByRecursion P (filter test xs)
  all_filter P test [] all = tt
  all_filter P test (x ∷ xs) all = by_test (test x) all.0 (all_filter P test xs all.1) where
    by_test : (b : Bool) → (b ≡ true → P x) → AllByRecursion P (filter test xs) → AllByRecursion P (cond b (x ∷ filter test xs) (filter test xs))
    by_test true holds rest = (holds refl, rest)
    by_test false holds rest = rest

  has_left : (xs ys : List A) (x : A) → Has xs x → Has (xs ++ ys) x
  has_left [] ys x has = absurd has
  has_left (y ∷ xs) ys x has = elim has [
    | inl is ↦ inl is
    | inr later ↦ inr (has_left xs ys x later)
  ]

  has_right : (xs ys : List A) (x : A) → Has ys x → Has (xs ++ ys) x
  has_right [] ys x has = has
  has_right (y ∷ xs) ys x has = inr (has_right xs ys x has)

  pub has_filter : (test : A → Bool) (xs : List A) (x : A) → Has xs x → test x ≡ true → Has (filter test xs) x
  has_filter test [] x has passes = absurd has
  has_filter test (y ∷ xs) x has passes = by_test (λ later. has_filter test xs x later passes) (test y) refl has where
    by_test : (Has xs x → Has (filter test xs) x) → (b : Bool) → test y ≡ b → Has (y ∷ xs) x → Has (cond b (y ∷ filter test xs) (filter test xs)) x
    by_test rest true is has = elim has [
      | inl same ↦ inl same
      | inr later ↦ inr (rest later)
    ]
    by_test rest false is has = elim has [
      | inl same ↦ absurd (cc (is, passes, ap test same))
      | inr later ↦ rest later
    ]

all_up_to : (P : ℕ → Type 0) (n : ℕ) → ((m : ℕ) → m ≤ n → P m) → AllByRecursion P (numbers_up_to n)
all_up_to P zero holds = (holds 0 (omega arith), tt)
all_up_to P (suc n) holds = all_append P (numbers_up_to n) (suc n ∷ []) (all_up_to P n (λ m most. holds m (omega (arith, most)))) (holds (suc n) (omega arith), tt)

has_up_to : (m n : ℕ) → m ≤ n → Has (numbers_up_to n) m
has_up_to m zero most = inl (omega (arith, most))
has_up_to m (suc n) most = elim (cases_eq m (suc n)) [
  | inl same ↦ has_right (numbers_up_to n) (suc n ∷ []) m (inl (sym same))
  | inr other ↦ has_left (numbers_up_to n) (suc n ∷ []) m (has_up_to m n (omega (arith, most, other)))
]

abbrev longer : List (List ℕ) → ℕ → List (List ℕ)
longer fs m = map (λ family. m ∷ family) fs

all_longer : (P : List ℕ → Type 0) (m : ℕ) (fs : List (List ℕ)) → AllByRecursion (λ f. P (m ∷ f)) fs → AllByRecursion P (longer fs m)
all_longer P m [] all = tt
all_longer P m (f ∷ fs) all = (all.0, all_longer P m fs all.1)

all_flat : (P : List ℕ → Type 0) (fs : List (List ℕ)) (ms : List ℕ) → AllByRecursion (λ m. AllByRecursion (λ f. P (m ∷ f)) fs) ms → AllByRecursion P (flat_map (longer fs) ms)
all_flat P fs [] all = tt
all_flat P fs (m ∷ ms) all = all_append P (longer fs m) (flat_map (longer fs) ms) (all_longer P m fs all.0) (all_flat P fs ms all.1)

-- what holds of each family within these lengths
pub all_families : (P : List ℕ → Type 0) (ns : List ℕ) → ((f : List ℕ) → IsTrue (is_within_lengths f ns) → P f) → AllByRecursion P (families_within_lengths ns)
all_families P [] holds = (holds [] refl, tt)
all_families P (n ∷ ns) holds =
    all_flat P (families_within_lengths ns) (numbers_up_to n) (all_up_to (λ m. AllByRecursion (λ f. P (m ∷ f)) (families_within_lengths ns)) n (λ m most.
    all_families (λ f. P (m ∷ f)) ns (λ f within. holds (m ∷ f) (and_from (nat_le m n) (is_within_lengths f ns) (le-leb m n most) within))))

has_longer : (m : ℕ) (fs : List (List ℕ)) (f : List ℕ) → Has fs f → Has (longer fs m) (m ∷ f)
has_longer m [] f has = absurd has
has_longer m (g ∷ fs) f has = elim has [
  | inl is ↦ inl (ap (λ l. m ∷ l) is)
  | inr later ↦ inr (has_longer m fs f later)
]

has_flat : (fs : List (List ℕ)) (ms : List ℕ) (m : ℕ) (f : List ℕ) → Has ms m → Has fs f → Has (flat_map (longer fs) ms) (m ∷ f)
has_flat fs [] m f at has = absurd at
has_flat fs (k ∷ ms) m f at has = elim at [
  | inl is ↦ has_left (longer fs k) (flat_map (longer fs) ms) (m ∷ f) (subst (λ n. Has (longer fs n) (m ∷ f)) (sym is) (has_longer m fs f has))
  | inr later ↦ has_right (longer fs k) (flat_map (longer fs) ms) (m ∷ f) (has_flat fs ms m f later has)
]

pub has_families : (ms ns : List ℕ) → IsTrue (is_within_lengths ms ns) → Has (families_within_lengths ns) ms
has_families [] [] within = inl refl
has_families [] (n ∷ ns) within = absurd (cc)
has_families (m ∷ ms) [] within = absurd (cc)
has_families (m ∷ ms) (n ∷ ns) within =
    let parts = and_parts (nat_le m n) (is_within_lengths ms ns) within in
    has_flat (families_within_lengths ns) (numbers_up_to n) m ms (has_up_to m n (leb-true m n parts.0)) (has_families ms ns parts.1)
