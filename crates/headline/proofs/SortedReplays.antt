-- Replays are put in order by their processes' numbers as those numbers are.
use Rattle.std.proofs.Common.{◌≡◌, ◌≢◌, ◌⊎◌, ◌∙◌, ◌≤◌, ◌<◌, ◌+◌, ◌||◌, ℕ, zero, suc, Bool, true, false, cond, List, [], ◌∷◌, length, slice_get, Some, inl, inr, ap, arith, refl, sym}
use Rattle.std.specs.Prelude.{◌==◌, AllPairs, filter, if◌then◌else◌, nat_lt}
use Rattle.std.specs.List.{AllByRecursion, list_any, range_with_len, slice_index_or}
use Rattle.std.proofs.Math.Bool.{or-false, or_assoc}
use Rattle.std.proofs.lemmas.Bool.{cases_lt, eq-eqb, le-ltb, lt-ltb, ne_eqb}
use Rattle.std.proofs.lemmas.List.FromFn.{length-range_with_len}
use Rattle.proc_replay.specs.Replaying.{Replaying}
use Rattle.log_pairs.specs.Pairs.{insert_replay, sort_replays}
use Rattle.headline.specs.Headline.{AreProcesses, sorted_of}

abbrev is_among : List ℕ → ℕ → Bool
is_among ps p = list_any (λ q. q == p) ps

abbrev pub insert_number : ℕ → List ℕ → List ℕ
insert_number p [] = p ∷ []
insert_number p (q ∷ qs) = if nat_lt q p then q ∷ insert_number p qs else p ∷ q ∷ qs

abbrev pub sort_numbers : List ℕ → List ℕ → List ℕ
sort_numbers sorted [] = sorted
sort_numbers sorted (p ∷ ps) = sort_numbers (insert_number p sorted) ps

-- ---- numbers that differ from each other

-- each from those after it
abbrev pub AreDistinct : List ℕ → Type 0
AreDistinct [] = Unit {0}
AreDistinct (p ∷ ps) = AllByRecursion (λ q. p ≢ q) ps × AreDistinct ps

differs : (p : ℕ) (ps : List ℕ) → ((j d : ℕ) → j < length ps → p ≢ slice_index_or ps j d) → AllByRecursion (λ q. p ≢ q) ps
differs p [] apart = tt
differs p (q ∷ ps) apart = (apart 0 0 (omega arith), differs p ps (λ j d below. apart (suc j) d (omega (arith, below))))

pub are_distinct : (ps : List ℕ) → AllPairs (λ p q. p ≢ q) ps → AreDistinct ps
are_distinct [] apart = tt
are_distinct (p ∷ ps) apart =
    (differs p ps (λ j d below. apart 0 (suc j) d (omega arith) (omega (arith, below))), are_distinct ps (λ i j d before within. apart (suc i) (suc j) d (omega (arith, before)) (omega (arith, within))))

-- ---- replays go where their numbers go

-- so many replays are each of one of these processes, in some way
module _ (P : ℕ → Replaying → Type 0) (numbered : (p : ℕ) (r : Replaying) → P p r → r.head.process ≡ p) where
  abbrev pub Are : List ℕ → List Replaying → Type 0
  Are [] [] = Unit {0}
  Are (p ∷ ps) (r ∷ rs) = P p r × Are ps rs
  Are [] (r ∷ rs) = ⊥
  Are (p ∷ ps) [] = ⊥

  inserted : (p : ℕ) (r : Replaying) (qs : List ℕ) (rs : List Replaying) → P p r → Are qs rs → Are (insert_number p qs) (insert_replay r rs)
  inserted p r [] [] one all = (one, tt)
  inserted p r (q ∷ qs) (s ∷ rs) one all =
      by_test (inserted p r qs rs one all.1) (nat_lt s.head.process r.head.process) (nat_lt q p)
      (ap (λ (n : ℕ). nat_lt n r.head.process) (numbered q s all.0) ∙ ap (nat_lt q) (numbered p r one)) where
        by_test : Are (insert_number p qs) (insert_replay r rs) → (b c : Bool) → b ≡ c → Are (cond c (q ∷ insert_number p qs) (p ∷ q ∷ qs)) (cond b (s ∷ insert_replay r rs) (r ∷ s ∷ rs))
        by_test rest true true same = (all.0, rest)
        by_test rest false false same = (one, all)
        by_test rest true false same = cc
        by_test rest false true same = cc
  inserted p r [] (s ∷ rs) one all = absurd all
  inserted p r (q ∷ qs) [] one all = absurd all

  pub all_sorted : (qs ps : List ℕ) (ss rs : List Replaying) → Are qs ss → Are ps rs → Are (sort_numbers qs ps) (sort_replays ss rs)
  all_sorted qs [] ss [] before all = before
  all_sorted qs (p ∷ ps) ss (r ∷ rs) before all = all_sorted (insert_number p qs) ps (insert_replay r ss) rs (inserted p r qs ss all.0 before) all.1
  all_sorted qs [] ss (r ∷ rs) before all = absurd all
  all_sorted qs (p ∷ ps) ss [] before all = absurd all

-- ---- the numbers in order

-- what a test that says the same gives
same_filter : (f g : ℕ → Bool) (ns : List ℕ) → AllByRecursion (λ n. f n ≡ g n) ns → filter f ns ≡ filter g ns
same_filter f g [] same = refl
same_filter f g (n ∷ ns) same =
    ap (λ (b : Bool). cond b (n ∷ filter f ns) (filter f ns)) same.0 ∙ ap (λ (rest : List ℕ). cond (g n) (n ∷ rest) rest) (same_filter f g ns same.1)

everywhere : (P : ℕ → Type 0) → ((n : ℕ) → P n) → (ns : List ℕ) → AllByRecursion P ns
everywhere P all [] = tt
everywhere P all (n ∷ ns) = (all n, everywhere P all ns)

all_so : (P Q : ℕ → Type 0) (ns : List ℕ) → ((n : ℕ) → P n → Q n) → AllByRecursion P ns → AllByRecursion Q ns
all_so P Q [] so all = tt
all_so P Q (n ∷ ns) so all = (so n all.0, all_so P Q ns so all.1)

filter_keeps : (P : ℕ → Type 0) (f : ℕ → Bool) (ns : List ℕ) → AllByRecursion P ns → AllByRecursion P (filter f ns)
filter_keeps P f [] all = tt
filter_keeps P f (n ∷ ns) all = by_test (f n) (filter_keeps P f ns all.1) where
  by_test : (b : Bool) → AllByRecursion P (filter f ns) → AllByRecursion P (cond b (n ∷ filter f ns) (filter f ns))
  by_test true rest = (all.0, rest)
  by_test false rest = rest

range_above : (p a n : ℕ) → p < a → AllByRecursion (λ m. p < m) (range_with_len a n)
range_above p a zero low = tt
range_above p a (suc n) low = (low, range_above p (a + 1) n (omega (arith, low)))

goes_first : (p : ℕ) (ns : List ℕ) → AllByRecursion (λ n. p < n) ns → insert_number p ns ≡ p ∷ ns
goes_first p [] above = refl
goes_first p (n ∷ ns) above = ap (λ (b : Bool). cond b (n ∷ insert_number p ns) (p ∷ n ∷ ns)) (le-ltb n p (omega (arith, above.0)))

-- a number that is put among those of a range that pass a test
abbrev or_is : (ℕ → Bool) → ℕ → ℕ → Bool
or_is f p n = f n || (p == n)

other_stays : (f : ℕ → Bool) (p n : ℕ) → p ≢ n → or_is f p n ≡ f n
other_stays f p n apart = ap (λ (b : Bool). f n || b) (ne_eqb p n apart) ∙ or-false (f n)

put : (f : ℕ → Bool) (p a n : ℕ) → a ≤ p → p < a + n → f p ≡ false → insert_number p (filter f (range_with_len a n)) ≡ filter (or_is f p) (range_with_len a n)
put f p a zero low high new = absurd (omega (arith, low, high))
put f p a (suc n) low high new =
    by_place (λ below. put f p (a + 1) n (omega (arith, below)) (omega (arith, high)) new) (cases_lt a p) where
      rest : List ℕ
      rest = range_with_len (a + 1) n

      before : ℕ → List ℕ
      before a = a ∷ filter (or_is f p) rest

      by_test : a < p → insert_number p (filter f rest) ≡ filter (or_is f p) rest → (b : Bool) → insert_number p (cond b (a ∷ filter f rest) (filter f rest)) ≡ cond b (before a) (filter (or_is f p) rest)
      by_test below more true = ap (λ (b : Bool). cond b (a ∷ insert_number p (filter f rest)) (p ∷ a ∷ filter f rest)) (lt-ltb a p below) ∙ ap (λ (ns : List ℕ). a ∷ ns) more
      by_test below more false = more

      by_place : (a < p → insert_number p (filter f rest) ≡ filter (or_is f p) rest) → (a < p) ⊎ (p ≤ a) → insert_number p (filter f (range_with_len a (suc n))) ≡ filter (or_is f p) (range_with_len a (suc n))
      by_place more (inl below) =
          by_test below (more below) (f a) ∙ ap (λ (b : Bool). cond b (before a) (filter (or_is f p) rest)) (sym (other_stays f p a (omega (arith, below))))
      by_place more (inr above) =
          let here : p ≡ a = omega (arith, low, above) in
          let later : AllByRecursion (λ m. p < m) rest = range_above p (a + 1) n (omega (arith, above)) in
          ap (λ (b : Bool). insert_number p (cond b (a ∷ filter f rest) (filter f rest))) (sym (ap f here) ∙ new)
          ∙ goes_first p (filter f rest) (filter_keeps (λ m. p < m) f rest later)
          ∙ ap (λ (ns : List ℕ). p ∷ ns) (same_filter f (or_is f p) rest (all_so (λ m. p < m) (λ m. f m ≡ or_is f p m) rest (λ m h. sym (other_stays f p m (omega (arith, h)))) later))
          ∙ ap before here
          ∙ ap (λ (b : Bool). cond b (before a) (filter (or_is f p) rest)) (sym (ap (λ (b : Bool). b || (p == a)) (sym (ap f here) ∙ new) ∙ eq-eqb p a here))

-- the numbers are below the limit, and pass the test not
abbrev AreNew : (ℕ → Bool) → ℕ → List ℕ → Type 0
AreNew f count ps = AllByRecursion (λ p. (p < count) × (f p ≡ false)) ps

still_new : (f : ℕ → Bool) (count p : ℕ) (ps : List ℕ) → AllByRecursion (λ q. p ≢ q) ps → AreNew f count ps → AreNew (or_is f p) count ps
still_new f count p [] apart new = tt
still_new f count p (q ∷ ps) apart new = ((new.0.0, other_stays f p q apart.0 ∙ new.0.1), still_new f count p ps apart.1 new.1)

sorts : (f : ℕ → Bool) (count : ℕ) (ps : List ℕ) → AreNew f count ps → AreDistinct ps
    → sort_numbers (filter f (range_with_len 0 count)) ps ≡ filter (λ n. f n || is_among ps n) (range_with_len 0 count)
sorts f count [] new apart = same_filter f (λ n. f n || false) (range_with_len 0 count) (everywhere (λ n. f n ≡ (f n || false)) (λ n. sym (or-false (f n))) (range_with_len 0 count))
sorts f count (p ∷ ps) new apart =
    let all = range_with_len 0 count in
    ap (λ (ns : List ℕ). sort_numbers ns ps) (put f p 0 count (omega arith) (omega (arith, new.0.0)) new.0.1)
    ∙ sorts (or_is f p) count ps (still_new f count p ps apart.0 new.1) apart.1
    ∙ same_filter (λ n. or_is f p n || is_among ps n) (λ n. f n || is_among (p ∷ ps) n) all
    (everywhere (λ n. (or_is f p n || is_among ps n) ≡ (f n || is_among (p ∷ ps) n)) (λ n. or_assoc (f n) (p == n) (is_among ps n)) all)

none_passes : (ns : List ℕ) → filter (λ n. false) ns ≡ []
none_passes [] = refl
none_passes (n ∷ ns) = none_passes ns

all_new : (count : ℕ) (ps : List ℕ) → AllByRecursion (λ p. p < count) ps → AreNew (λ n. false) count ps
all_new count [] below = tt
all_new count (p ∷ ps) below = ((below.0, refl), all_new count ps below.1)

pub in_order : (count : ℕ) (ps : List ℕ) → AreProcesses count ps → sort_numbers [] ps ≡ sorted_of count ps
in_order count ps are =
    ap (λ (ns : List ℕ). sort_numbers ns ps) (sym (none_passes (range_with_len 0 count))) ∙ sorts (λ n. false) count ps (all_new count ps are.within) (are_distinct ps are.apart)

-- ---- all numbers

insert_count : (p : ℕ) (qs : List ℕ) → length (insert_number p qs) ≡ suc (length qs)
insert_count p [] = refl
insert_count p (q ∷ qs) = by_test (nat_lt q p) (insert_count p qs) where
  by_test : (b : Bool) → length (insert_number p qs) ≡ suc (length qs) → length (cond b (q ∷ insert_number p qs) (p ∷ q ∷ qs)) ≡ suc (suc (length qs))
  by_test true rest = ap suc rest
  by_test false rest = refl

sort_count : (qs ps : List ℕ) → length (sort_numbers qs ps) ≡ length qs + length ps
sort_count qs [] = omega arith
sort_count qs (p ∷ ps) = omega (arith, sort_count (insert_number p qs) ps, insert_count p qs)

no_longer : (f : ℕ → Bool) (ns : List ℕ) → length (filter f ns) ≤ length ns
no_longer f [] = omega arith
no_longer f (n ∷ ns) = by_test (f n) (no_longer f ns) where
  by_test : (b : Bool) → length (filter f ns) ≤ length ns → length (cond b (n ∷ filter f ns) (filter f ns)) ≤ suc (length ns)
  by_test true rest = omega (arith, rest)
  by_test false rest = omega (arith, rest)

-- where as many pass as there are, all do
all_pass : (f : ℕ → Bool) (ns : List ℕ) → length (filter f ns) ≡ length ns → filter f ns ≡ ns
all_pass f [] full = refl
all_pass f (n ∷ ns) full = by_test (all_pass f ns) (f n) full where
  by_test : (length (filter f ns) ≡ length ns → filter f ns ≡ ns) → (b : Bool) → length (cond b (n ∷ filter f ns) (filter f ns)) ≡ suc (length ns) → cond b (n ∷ filter f ns) (filter f ns) ≡ n ∷ ns
  by_test rest true full = ap (λ (ms : List ℕ). n ∷ ms) (rest (omega (arith, full)))
  by_test rest false full = absurd (omega (arith, full, no_longer f ns))

range_at : (a n i : ℕ) → i < n → slice_get (range_with_len a n) i ≡ Some (a + i)
range_at a zero i below = absurd (omega (arith, below))
range_at a (suc n) zero below = let here : a ≡ a + 0 = omega arith in ap (λ (m : ℕ). Some m) here
range_at a (suc n) (suc i) below =
    let here : (a + 1) + i ≡ a + suc i = omega arith in range_at (a + 1) n i (omega (arith, below)) ∙ ap (λ (m : ℕ). Some m) here

pub sorted_count : (count : ℕ) (ps : List ℕ) → AreProcesses count ps → length (sorted_of count ps) ≡ length ps
sorted_count count ps are = omega (arith, ap length (in_order count ps are), sort_count [] ps)

pub all_numbered : (count : ℕ) (ps : List ℕ) → AreProcesses count ps → length ps ≡ count → (i : ℕ) → i < count → slice_get (sorted_of count ps) i ≡ Some i
all_numbered count ps are full i inside =
    let here : 0 + i ≡ i = omega arith in
    ap (λ (ns : List ℕ). slice_get ns i) (all_pass (is_among ps) (range_with_len 0 count) (omega (arith, sorted_count count ps are, full, length-range_with_len 0 count)))
    ∙ range_at 0 count i inside ∙ ap (λ (n : ℕ). Some n) here
