-- The map that a tree with these entries stands for.
use Rattle.std.proofs.Common.{◌≡◌, ℕ, Bool, true, false, cond, List, [], ◌∷◌, Option, Some, refl, sym, ap, subst, ◌∙◌}
use Rattle.std.specs.Ordering.{is_eq, is_lt, eq_by_cmp, nat_cmp}
use Rattle.std.specs.Cmp.{IsTotalOrder, eq_by_cmp_equiv, nat_cmp_total, on_total, then_total}
use Rattle.std.specs.declared.cmp.Ordering.{Ordering}
use Rattle.std.specs.declared.cmp.Ordering.TheVariants.{Less, Equal, Greater}
use Rattle.std.specs.List.{AllByRecursion}
use Rattle.std.specs.List.Sorted.{IsStrictlySortedBy}
use Rattle.std.specs.Map.{keys_of, lookup}
use Rattle.std.specs.BTreeMap.{is_at}
use Rattle.std.specs.Prelude.{◌&&◌, T}
use Rattle.std.specs.FinMap as map
use Rattle.std.specs.FinMap.Entries.{below_all}
use Rattle.std.specs.FinMap.{IsAntisymmetric, find, is_sorted, nat_cmp-IsAntisymmetric}
use Rattle.std.proofs.lemmas.Map.Lookups.{exact_pairs}
use Rattle.byte_streams.specs.Keys.{StreamKey, by_process_and_clock, by_stream}

tied : (r : Ordering) → is_eq r ≡ true → r ≡ Equal
tied Less e = cc
tied Equal e = refl
tied Greater e = cc

both_hold : (a b : Bool) → T a → T b → T (a && b)
both_hold true b h k = k
both_hold false b h k = absurd h

-- an order of keys that tells all of them apart
pub record IsExact {K : Type 0} (R : K → K → Ordering) : Type 0 where
  pub total : IsTotalOrder R
  pub same : IsAntisymmetric R

module _ {K X : Type 0} {R : K → K → Ordering} (o : IsExact R) where
  -- what the tree has at a key
  abbrev pub kept_at : List (K × X) → K → Option X
  kept_at entries key = lookup (is_at (R key)) entries

  lookup_find : (entries : List (K × X)) (key : K) → find R key entries ≡ kept_at entries key
  lookup_find [] key = refl
  lookup_find (e ∷ entries) key = ap (cond (eq_by_cmp R key e.0) (Some e.1)) (lookup_find entries key)

  get-kept : (entries : List (K × X)) (key : K) → map.get (map.from_entries {R = R} entries) key ≡ kept_at entries key
  get-kept entries key = map.get-from_entries o.total entries key ∙ lookup_find entries key

  -- and the map m that it stands for
  pub get-seen : (entries : List (K × X)) (m : map.FinMap R X) (key : K) (x : Option X) → map.from_entries entries ≡ m → x ≡ kept_at entries key → map.get m key ≡ x
  get-seen entries m key x seen found = ap (λ (n : map.FinMap R X). map.get n key) (sym seen) ∙ get-kept entries key ∙ sym found

  -- one entry more, or another value
  pub insert-seen : (old new : List (K × X)) (m : map.FinMap R X) (key : K) (x : X) → map.from_entries old ≡ m
      → ((q : K) → kept_at new q ≡ cond (is_eq (R key q)) (Some x) (kept_at old q)) → map.from_entries {R = R} new ≡ map.insert m key x
  insert-seen old new m key x seen updates = map.same_map o.total o.same _ _ (λ q.
      get-kept new q ∙ updates q ∙ ap (λ (b : Bool). cond b (Some x) (kept_at old q)) ((eq_by_cmp_equiv o.total).symm key q)
      ∙ ap (cond (eq_by_cmp R q key) (Some x)) (sym (get-kept old q) ∙ ap (λ (n : map.FinMap R X). map.get n q) seen)
      ∙ sym (map.get-insert o.total m key x q))

  held : (m : map.FinMap R X) (key q : K) (x : X) (b : Bool) → eq_by_cmp R q key ≡ b → map.get m key ≡ Some x → cond b (Some x) (map.get m q) ≡ map.get m q
  held m key q x true e has = sym has ∙ ap (map.get m) (sym (o.same q key (tied _ e)))
  held m key q x false e has = refl

  -- the value that a key has, once more
  pub insert_held : (m : map.FinMap R X) (key : K) (x : X) → map.get m key ≡ Some x → map.insert m key x ≡ m
  insert_held m key x has = map.same_map o.total o.same _ _ (λ q. map.get-insert o.total m key x q ∙ held m key q x _ refl has)

  ascending : (k : K) (entries : List (K × X)) → AllByRecursion (λ y. R k y ≡ Less) (keys_of entries) → T (below_all R k entries)
  ascending k [] h = tt
  ascending k (e ∷ entries) h = both_hold _ _ (subst (λ r. T (is_lt r)) (sym h.0) tt) (ascending k entries h.1)

  in_order : (entries : List (K × X)) → IsStrictlySortedBy R (keys_of entries) → T (is_sorted R entries)
  unfolding IsStrictlySortedBy
  in_order [] h = tt
  in_order (e ∷ entries) h = both_hold _ _ (ascending e.0 entries h.0) (in_order entries h.1)

  -- entries in the order of their keys are those of the map
  pub entries-seen : (entries : List (K × X)) (m : map.FinMap R X) → map.from_entries entries ≡ m → IsStrictlySortedBy R (keys_of entries) → map.entries m ≡ entries
  entries-seen entries m seen sorted =
      ap map.entries
      (sym seen ∙ map.same_map o.total o.same _ (map.from_sorted entries) (λ q. map.get-from_entries o.total entries q ∙ sym (map.get-from_sorted R entries q (in_order entries sorted))))
      ∙ map.entries-from_sorted R entries (in_order entries sorted)

-- ---- the orders of the keys

pub by_sender_exact : IsExact by_process_and_clock
by_sender_exact = record {
  total = then_total (on_total (λ (x : ℕ × ℕ). x.0) nat_cmp_total) (on_total (λ (x : ℕ × ℕ). x.1) nat_cmp_total);
  same = exact_pairs nat_cmp nat_cmp nat_cmp-IsAntisymmetric nat_cmp-IsAntisymmetric;
}

pub by_stream_exact : IsExact by_stream
by_stream_exact = record {
  total = then_total (on_total (λ (x : StreamKey). x.0) nat_cmp_total) (on_total (λ (x : StreamKey). x.1) by_sender_exact.total);
  same = exact_pairs nat_cmp by_process_and_clock nat_cmp-IsAntisymmetric by_sender_exact.same;
}
