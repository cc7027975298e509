-- A family is closed where each node's events within it are, place by place.
use Rattle.std.proofs.Common.{◌≡◌, ◌∙◌, ℕ, zero, suc, ◌<◌, Bool, List, [], ◌∷◌, map, take, Some, refl, ap, sym, arith}
use Rattle.std.specs.Prelude.{IsTrue, slice_get}
use Rattle.std.specs.List.{list_all}
use Rattle.std.proofs.lemmas.Bool.{and_from, and_parts}
use Rattle.std.proofs.lemmas.List.Folds.{list_all-append}
use Rattle.std.proofs.lemmas.Option.{same_Some}
use Rattle.lib_calls.specs.declared.entry.Entry.{Entry}
use Rattle.group_order.specs.Order.{list_of}
use Rattle.proc_replay.specs.Course.{entries_ahead}
use Rattle.proc_replay.specs.Replaying.{Replaying}
use Rattle.causal_cut.specs.Past.{events_within}
use Rattle.causal_cut.proofs.Families.{at}

module _ (test : Entry → Bool) where
  take_passes : (n : ℕ) (xs : List Entry) → IsTrue (list_all test (take n xs)) → (m : ℕ) (e : Entry) → m < n → slice_get xs m ≡ Some e → IsTrue (test e)
  take_passes zero xs all m e within there = absurd (omega (arith, within))
  take_passes (suc n) [] all m e within there = absurd (cc)
  take_passes (suc n) (x ∷ xs) all zero e within there = ap test (sym (same_Some x e there)) ∙ (and_parts (test x) (list_all test (take n xs)) all).0
  take_passes (suc n) (x ∷ xs) all (suc m) e within there = take_passes n xs (and_parts (test x) (list_all test (take n xs)) all).1 m e (omega (arith, within)) there

  passes_take : (n : ℕ) (xs : List Entry) → ((m : ℕ) (e : Entry) → m < n → slice_get xs m ≡ Some e → IsTrue (test e)) → IsTrue (list_all test (take n xs))
  passes_take zero xs each = refl
  passes_take (suc n) [] each = refl
  passes_take (suc n) (x ∷ xs) each =
      and_from (test x) (list_all test (take n xs)) (each 0 x (omega arith) refl) (passes_take n xs (λ m e within there. each (suc m) e (omega (arith, within)) there))

  -- each event of each node within the family passes
  abbrev pub EachPasses : (ℕ → List Entry) → List ℕ → Type 0
  EachPasses own family = (node m : ℕ) (e : Entry) → m < at family node → slice_get (own node) m ≡ Some e → IsTrue (test e)

  pub each_passes : (start : List Replaying) (family : List ℕ) → IsTrue (list_all test (events_within start family)) → EachPasses (list_of (map entries_ahead start)) family
  each_passes [] family all node m e within there = absurd (cc)
  each_passes (r ∷ rs) [] all node m e within there = absurd (omega (arith, within))
  each_passes (r ∷ rs) (n ∷ ns) all zero m e within there =
      take_passes n (entries_ahead r) (and_parts (list_all test (take n (entries_ahead r))) (list_all test (events_within rs ns)) (sym (list_all-append test (take n (entries_ahead r)) (events_within rs ns)) ∙ all)).0 m e within there
  each_passes (r ∷ rs) (n ∷ ns) all (suc node) m e within there =
      each_passes rs ns (and_parts (list_all test (take n (entries_ahead r))) (list_all test (events_within rs ns)) (sym (list_all-append test (take n (entries_ahead r)) (events_within rs ns)) ∙ all)).1 node m e within there

  pub passes_each : (start : List Replaying) (family : List ℕ) → EachPasses (list_of (map entries_ahead start)) family → IsTrue (list_all test (events_within start family))
  passes_each [] family each = refl
  passes_each (r ∷ rs) [] each = refl
  passes_each (r ∷ rs) (n ∷ ns) each =
      list_all-append test (take n (entries_ahead r)) (events_within rs ns)
      ∙ and_from (list_all test (take n (entries_ahead r))) (list_all test (events_within rs ns)) (passes_take n (entries_ahead r) (each 0)) (passes_each rs ns (λ node. each (suc node)))
