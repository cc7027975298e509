-- The map of the sends: what a further one changes, also through the tree that keeps it.
use Rattle.std.proofs.Common.{◌≡◌, ◌==◌, ◌&&◌, ℕ, Bool, cond, if◌then◌else◌, List, [], ◌∷◌, Option, Some, refl, sym, ap, ◌∙◌, arith}
use Rattle.std.proofs.lemmas.Bool.Decides.{nat_tests}
use Rattle.std.specs.Ordering.{is_eq, eq_by_cmp, nat_cmp}
use Rattle.std.specs.Cmp.{IsTotalOrder, eq_by_cmp_equiv, nat_cmp_total, on_total, then_total, tied_then}
use Rattle.std.specs.Map.{lookup}
use Rattle.std.specs.BTreeMap.{is_at}
use Rattle.std.specs.FinMap as map
use Rattle.std.specs.FinMap.{IsAntisymmetric, find, nat_cmp-IsAntisymmetric}
use Rattle.std.proofs.lemmas.Map.Lookups.{exact_pairs}
use Rattle.group_order.specs.Sends.{FindsOneMoreSend, by_sender}

pub by_sender_total : IsTotalOrder by_sender
by_sender_total = then_total (on_total (λ (x : ℕ × ℕ). x.0) nat_cmp_total) (on_total (λ (x : ℕ × ℕ). x.1) nat_cmp_total)

same_number : (a b : ℕ) → is_eq (nat_cmp b a) ≡ (a == b)
same_number a b = grind (arith, nat_tests)

same_sender : (p clock q at : ℕ) → eq_by_cmp by_sender (q, at) (p, clock) ≡ ((p == q) && (clock == at))
same_sender p clock q at = sym (tied_then (nat_cmp q p) (nat_cmp at clock)) ∙ (λ i. same_number p q i && same_number clock at i)

pub finds_one_more : FindsOneMoreSend
finds_one_more sends p clock to q at =
    map.get-insert by_sender_total sends (p, clock) to (q, at)
    ∙ ap (λ (b : Bool). if b then Some to else map.get sends (q, at)) (same_sender p clock q at)

pub antisymmetric : IsAntisymmetric by_sender
antisymmetric = exact_pairs nat_cmp nat_cmp nat_cmp-IsAntisymmetric nat_cmp-IsAntisymmetric

-- what the tree with these entries has of a sender
abbrev pub kept_at : List ((ℕ × ℕ) × ℕ) → ℕ × ℕ → Option ℕ
kept_at entries sender = lookup (is_at (by_sender sender)) entries

lookup_find : (entries : List ((ℕ × ℕ) × ℕ)) (sender : ℕ × ℕ) → find by_sender sender entries ≡ kept_at entries sender
lookup_find [] sender = refl
lookup_find (e ∷ entries) sender = ap (λ (o : Option ℕ). cond (eq_by_cmp by_sender sender e.0) (Some e.1) o) (lookup_find entries sender)

pub get-kept : (entries : List ((ℕ × ℕ) × ℕ)) (sender : ℕ × ℕ) → map.get (map.from_entries {R = by_sender} entries) sender ≡ kept_at entries sender
get-kept entries sender = map.get-from_entries by_sender_total entries sender ∙ lookup_find entries sender

-- one send more
pub kept-insert : (old new : List ((ℕ × ℕ) × ℕ)) (sender : ℕ × ℕ) (to : ℕ) → ((q : ℕ × ℕ) → kept_at new q ≡ cond (is_eq (by_sender sender q)) (Some to) (kept_at old q))
    → map.from_entries {R = by_sender} new ≡ map.insert (map.from_entries old) sender to
kept-insert old new sender to updates = map.same_map by_sender_total antisymmetric _ _ (λ q.
    get-kept new q ∙ updates q ∙ ap (λ (b : Bool). cond b (Some to) (kept_at old q)) ((eq_by_cmp_equiv by_sender_total).symm sender q)
    ∙ ap (cond (eq_by_cmp by_sender q sender) (Some to)) (sym (get-kept old q))
    ∙ sym (map.get-insert by_sender_total (map.from_entries old) sender to q))
