-- The map of the locks' holders, through a change of the tree that keeps it.
use Rattle.std.proofs.Common.{◌≡◌, ℕ, Bool, cond, List, [], ◌∷◌, Option, Some, None, refl, sym, ap, ◌∙◌}
use Rattle.std.specs.Ordering.{nat_cmp, is_eq, eq_by_cmp}
use Rattle.std.specs.Cmp.{nat_cmp_total, eq_by_cmp_equiv}
use Rattle.std.specs.Map.{lookup}
use Rattle.std.specs.BTreeMap.{is_at}
use Rattle.std.specs.FinMap as map
use Rattle.std.specs.FinMap.{find, nat_cmp-IsAntisymmetric}

-- what the tree with these entries has at a lock
abbrev pub held_at : List (ℕ × ℕ) → ℕ → Option ℕ
held_at entries m = lookup (is_at (nat_cmp m)) entries

lookup_find : (entries : List (ℕ × ℕ)) (m : ℕ) → find nat_cmp m entries ≡ held_at entries m
lookup_find [] m = refl
lookup_find (e ∷ entries) m = ap (λ (o : Option ℕ). cond (eq_by_cmp nat_cmp m e.0) (Some e.1) o) (lookup_find entries m)

pub get-held : (entries : List (ℕ × ℕ)) (m : ℕ) → map.get (map.from_entries {R = nat_cmp} entries) m ≡ held_at entries m
get-held entries m = map.get-from_entries nat_cmp_total entries m ∙ lookup_find entries m

turned : (m q : ℕ) → is_eq (nat_cmp m q) ≡ eq_by_cmp nat_cmp q m
turned m q = (eq_by_cmp_equiv nat_cmp_total).symm m q

-- one more lock is held
pub held-insert : (old new : List (ℕ × ℕ)) (m n : ℕ) → ((q : ℕ) → held_at new q ≡ cond (is_eq (nat_cmp m q)) (Some n) (held_at old q)) → map.from_entries {R = nat_cmp} new ≡ map.insert (map.from_entries old) m n
held-insert old new m n updates = map.same_map nat_cmp_total nat_cmp-IsAntisymmetric _ _ (λ q.
    get-held new q ∙ updates q ∙ ap (λ (b : Bool). cond b (Some n) (held_at old q)) (turned m q)
    ∙ ap (cond (eq_by_cmp nat_cmp q m) (Some n)) (sym (get-held old q))
    ∙ sym (map.get-insert nat_cmp_total (map.from_entries old) m n q))

-- one lock less is held
pub held-remove : (old new : List (ℕ × ℕ)) (m : ℕ) → ((q : ℕ) → held_at new q ≡ cond (is_eq (nat_cmp m q)) None (held_at old q)) → map.from_entries {R = nat_cmp} new ≡ map.remove (map.from_entries old) m
held-remove old new m updates = map.same_map nat_cmp_total nat_cmp-IsAntisymmetric _ _ (λ q.
    get-held new q ∙ updates q ∙ ap (λ (b : Bool). cond b None (held_at old q)) (turned m q)
    ∙ ap (cond (eq_by_cmp nat_cmp q m) None) (sym (get-held old q))
    ∙ sym (map.get-remove nat_cmp_total (map.from_entries old) m q))
