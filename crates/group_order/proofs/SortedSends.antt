-- Sends that are kept in order: what a search finds among them, and what one more changes.
use Rattle.std.proofs.Common.{◌≡◌, ℕ, zero, suc, ◌+◌, ◌-◌, ◌<◌, ◌≤◌, Bool, true, false, cond, List, [], ◌∷◌, length, get_or, Some, None, Result, Ok, Err, IfOk, IfErr, inl, inr, refl, ap, sym, ◌∙◌, subst, arith}
use Rattle.std.specs.List.{insert}
use Rattle.std.specs.List.Sorted.{IsSearchInRange, IsBinarySearchResult, IsNonDecreasingBy}
use Rattle.std.specs.Ordering.{is_eq, ordering_index, ordering_reverse}
use Rattle.std.specs.declared.cmp.Ordering.{Ordering}
use Rattle.std.specs.declared.cmp.Ordering.TheVariants.{Less, Equal, Greater}
use Rattle.std.specs.Cmp.{eq_by_cmp_equiv}
use Rattle.std.proofs.lemmas.Cmp.{tied_itself}
use Rattle.std.proofs.lemmas.Bool.{cases_lt, cases_order}
use Rattle.std.proofs.lemmas.List.Sorted.{IsNonDecreasingBy-from_default}
use Rattle.std.proofs.lemmas.List.Edits.{length-insert, get_or-insert_below, get_or-insert_at, get_or-insert_above}
use Rattle.group_order.specs.Sends.{by_sender}
use Rattle.group_order.specs.inside.SortedSends.{AreInOrder, IsAt, IsGapFor, sender_at}
use Rattle.group_order.proofs.SendReceivers.{antisymmetric, by_sender_total, kept_at}

abbrev Sends : Type 0
Sends = List ((ℕ × ℕ) × ℕ)

-- ---- the search

at_most : (o : Ordering) → ordering_index o ≤ 2
at_most Less = omega arith
at_most Equal = omega arith
at_most Greater = omega arith

-- what is below compares no higher
index_rises : (x y k : ℕ × ℕ) → by_sender x y ≡ Less → ordering_index (by_sender x k) ≤ ordering_index (by_sender y k)
index_rises x y k below = by_case (by_sender y k) refl
  where
    by_case : (o : Ordering) → by_sender y k ≡ o → ordering_index (by_sender x k) ≤ ordering_index (by_sender y k)
    by_case Less e = rw (e, by_sender_total.trans x y k below e) (omega arith)
    by_case Equal e = rw (e, subst (λ (z : ℕ × ℕ). by_sender x z ≡ Less) (antisymmetric y k e) below) (omega arith)
    by_case Greater e = rw e (at_most (by_sender x k))

module _ (sends : Sends) (ordered : AreInOrder sends) (k : ℕ × ℕ) where
  rises : IsNonDecreasingBy (λ send. ordering_index (by_sender send.0 k)) sends
  rises = IsNonDecreasingBy-from_default (λ send. ordering_index (by_sender send.0 k)) sends ((0, 0), 0) (λ i j most within. elim (cases_order i j) [
    | inl same ↦ omega (arith, ap (λ n. ordering_index (by_sender (sender_at sends n) k)) same)
    | inr apart ↦ elim apart [
      | inl before ↦ index_rises (sender_at sends i) (sender_at sends j) k (ordered i j before within)
      | inr behind ↦ absurd (omega (arith, behind, most))
    ]
  ])

  pub searched : (r : Result ℕ ℕ) → IsSearchInRange r (length sends) → IsBinarySearchResult (λ send. by_sender send.0 k) sends r → record { found : IfOk r (IsAt sends k); absent : IfErr r (IsGapFor sends k) }
  searched (Ok i) within equal = record { found = record { within = within; same = antisymmetric (sender_at sends i) k (equal ((0, 0), 0)) }; absent = tt }
  searched (Err i) within parted = record {
    found = tt;
    absent = record {
      within = within;
      below = λ j less. (parted rises).0 j ((0, 0), 0) (omega arith) less;
      above = λ j most inside. (parted rises).1 j ((0, 0), 0) most inside;
    };
  }

-- what is above the last send goes behind it
pub after_last : (sends : Sends) (k : ℕ × ℕ) → AreInOrder sends → 0 < length sends → by_sender (sender_at sends (length sends - 1)) k ≡ Less → IsGapFor sends k (length sends)
after_last sends k ordered some high = record {
  within = omega arith;
  below = λ j less. elim (cases_lt j (length sends - 1)) [
    | inl before ↦ by_sender_total.trans (sender_at sends j) (sender_at sends (length sends - 1)) k (ordered j (length sends - 1) before (omega (arith, some))) high
    | inr last ↦ subst (λ n. by_sender (sender_at sends n) k ≡ Less) {x = length sends - 1} (omega (arith, last, less)) high
  ];
  above = λ j most less. absurd (omega (arith, most, less));
}

-- ---- what is found

-- no send before place i is of the sender
abbrev NoneBefore : Sends → ℕ × ℕ → ℕ → Type 0
NoneBefore sends k i = (j : ℕ) → j < i → is_eq (by_sender k (sender_at sends j)) ≡ false

less_differs : (x k : ℕ × ℕ) → by_sender x k ≡ Less → is_eq (by_sender k x) ≡ false
less_differs x k e = ap is_eq (by_sender_total.antisymm k x ∙ ap ordering_reverse e)

greater_differs : (x k : ℕ × ℕ) → by_sender x k ≡ Greater → is_eq (by_sender k x) ≡ false
greater_differs x k e = ap is_eq (by_sender_total.antisymm k x ∙ ap ordering_reverse e)

none_in_tail : (x : (ℕ × ℕ) × ℕ) (sends : Sends) (k : ℕ × ℕ) (i : ℕ) → NoneBefore (x ∷ sends) k (suc i) → NoneBefore sends k i
none_in_tail x sends k i none j less = none (suc j) (omega arith)

kept_absent : (sends : Sends) (k : ℕ × ℕ) → NoneBefore sends k (length sends) → kept_at sends k ≡ None
kept_absent [] k none = refl
kept_absent (x ∷ sends) k none = ap (λ b. cond b (Some x.1) (kept_at sends k)) (none 0 (omega arith)) ∙ kept_absent sends k (none_in_tail x sends k (length sends) none)

kept_present : (sends : Sends) (k : ℕ × ℕ) (i : ℕ) → i < length sends → is_eq (by_sender k (sender_at sends i)) ≡ true → NoneBefore sends k i → kept_at sends k ≡ Some (get_or sends i ((0, 0), 0)).1
kept_present [] k i within same none = absurd (omega (arith, within))
kept_present (x ∷ sends) k zero within same none = ap (λ b. cond b (Some x.1) (kept_at sends k)) same
kept_present (x ∷ sends) k (suc i) within same none =
    ap (λ b. cond b (Some x.1) (kept_at sends k)) (none 0 (omega arith)) ∙ kept_present sends k i (omega (arith, within)) same (none_in_tail x sends k i none)

pub kept_there : (sends : Sends) (k : ℕ × ℕ) (i : ℕ) → AreInOrder sends → IsAt sends k i → kept_at sends k ≡ Some (get_or sends i ((0, 0), 0)).1
kept_there sends k i ordered at =
    kept_present sends k i at.within (rw at.same (ap is_eq (tied_itself by_sender_total k)))
    (λ j less. less_differs (sender_at sends j) k (subst (λ (z : ℕ × ℕ). by_sender (sender_at sends j) z ≡ Less) at.same (ordered j i less at.within)))

pub kept_nowhere : (sends : Sends) (k : ℕ × ℕ) (i : ℕ) → IsGapFor sends k i → kept_at sends k ≡ None
kept_nowhere sends k i gap = kept_absent sends k (λ j less. elim (cases_lt j i) [
  | inl below ↦ less_differs (sender_at sends j) k (gap.below j below)
  | inr above ↦ greater_differs (sender_at sends j) k (gap.above j above less)
])

-- ---- one send more

either : {A : Type 0} (a b : Bool) (x y z : A) → (a ≡ true → b ≡ true → ⊥) → cond a x (cond b y z) ≡ cond b y (cond a x z)
either true true x y z apart = absurd (apart refl refl)
either true false x y z apart = refl
either false b x y z apart = refl

turned : (k q : ℕ × ℕ) → is_eq (by_sender q k) ≡ is_eq (by_sender k q)
turned k q = sym ((eq_by_cmp_equiv by_sender_total).symm k q)

is_equal : (o : Ordering) → is_eq o ≡ true → o ≡ Equal
is_equal Less e = cc
is_equal Equal e = refl
is_equal Greater e = cc

pub kept_more : (sends : Sends) (k : ℕ × ℕ) (to i : ℕ) → NoneBefore sends k i → (q : ℕ × ℕ) → kept_at (insert sends i (k, to)) q ≡ cond (is_eq (by_sender k q)) (Some to) (kept_at sends q)
kept_more sends k to zero none q = ap (λ b. cond b (Some to) (kept_at sends q)) (turned k q)
kept_more [] k to (suc i) none q = ap (λ b. cond b (Some to) None) (turned k q)
kept_more (x ∷ sends) k to (suc i) none q =
    ap (cond (is_eq (by_sender q x.0)) (Some x.1)) (kept_more sends k to i (none_in_tail x sends k i none) q)
    ∙ either (is_eq (by_sender q x.0)) (is_eq (by_sender k q)) (Some x.1) (Some to) (kept_at sends q) (λ here there.
    let first = antisymmetric q x.0 (is_equal (by_sender q x.0) here) in
    let clash : is_eq (by_sender k x.0) ≡ true = subst (λ (z : ℕ × ℕ). is_eq (by_sender k z) ≡ true) first there in
    let no = none 0 (omega arith) in
    cc)

module _ (sends : Sends) (k : ℕ × ℕ) (place : ℕ) (gap : IsGapFor sends k place) where
  pub none_before : NoneBefore sends k place
  none_before j less = less_differs (sender_at sends j) k (gap.below j less)

  pub ordered_more : (to : ℕ) → AreInOrder sends → AreInOrder (insert sends place (k, to))
  ordered_more to ordered i j less within =
      let new = insert sends place (k, to) in
      let long = length-insert sends place (k, to) gap.within in
      let below : (i : ℕ) → i < place → sender_at new i ≡ sender_at sends i = λ i h. ap (λ (x : (ℕ × ℕ) × ℕ). x.0) (get_or-insert_below sends place (k, to) ((0, 0), 0) i h gap.within) in
      let here : (i : ℕ) → i ≡ place → sender_at new i ≡ k = λ i h. rw h (ap (λ (x : (ℕ × ℕ) × ℕ). x.0) (get_or-insert_at sends place (k, to) ((0, 0), 0) gap.within)) in
      let above : (i : ℕ) → place < i → sender_at new i ≡ sender_at sends (i - 1) =
      λ i h. subst (λ q. sender_at new q ≡ sender_at sends (i - 1)) {x = i - 1 + 1} (omega (arith, h)) (ap (λ (x : (ℕ × ℕ) × ℕ). x.0) (get_or-insert_above sends place (k, to) ((0, 0), 0) (i - 1) (omega (arith, h)) gap.within)) in
      elim (cases_order i place) [
        | inl first ↦ rw (here i first, above j (omega (arith, first, less))) (by_sender_total.antisymm k (sender_at sends (j - 1)) ∙ ap ordering_reverse (gap.above (j - 1) (omega (arith, first, less)) (omega (arith, within, long, less))))
        | inr apart ↦ elim apart [
          | inl before ↦ elim (cases_order j place) [
            | inl second ↦ rw (below i before, here j second) (gap.below i before)
            | inr others ↦ elim others [
              | inl low ↦ rw (below i before, below j low) (ordered i j less (omega (arith, low, gap.within)))
              | inr high ↦ rw (below i before, above j high) (ordered i (j - 1) (omega (arith, before, high)) (omega (arith, within, long, less)))
            ]
          ]
          | inr behind ↦ rw (above i behind, above j (omega (arith, behind, less))) (ordered (i - 1) (j - 1) (omega (arith, behind, less)) (omega (arith, within, long, less)))
        ]
      ]
