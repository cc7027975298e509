-- One place more among those of several nodes.
use Rattle.std.proofs.Common.{◌≡◌, ℕ, zero, suc, ◌+◌, ◌<◌, Bool, true, false, List, [], ◌∷◌, drop, get_or, length, set, take, Result, Ok, Err, Some, inl, inr, refl, sym, ap, ◌∙◌, add-one, arith}
use Rattle.std.proofs.lemmas.Bool.Decides.{nat_tests}
use Rattle.std.proofs.lemmas.List.Folds.{list_all-append, list_any-append, list_any_more}
use Rattle.std.proofs.Math.Bool.{or_assoc}
use Rattle.std.specs.Prelude.{◌&&◌, ◌||◌, OnOk, nat_eq, option_map, slice_get}
use Rattle.std.specs.List.{list_all, list_any}
use Rattle.watch_expr.specs.declared.reads.Place.{Place}
use Rattle.watch_expr.specs.Reads.{is_low_place}
use Rattle.page_watch.specs.declared.places.NodePlaces.{NodePlaces}
use Rattle.page_watch.specs.inside.Places.{AddsPlace, AreUnion, is_in_order, places_in}
use Rattle.page_watch.specs.Touch.{node_of}
use Rattle.page_watch.proofs.OneNode.{and-true}

or-self : (a b : Bool) → (a ≡ false → b ≡ false) → a ≡ (a || b)
or-self true b h = refl
or-self false b h = sym (h refl)

or-none : (a : Bool) → a ≡ (a || false)
or-none true = refl
or-none false = refl

or-last : (a x r : Bool) → ((a || x) || r) ≡ ((a || r) || x)
or-last true x r = refl
or-last false true true = refl
or-last false true false = refl
or-last false false true = refl
or-last false false false = refl

both-true : (a b : Bool) → a ≡ true → b ≡ true → (a && b) ≡ true
both-true true b e f = f
both-true false b e f = absurd (cc)

-- what follows where a call succeeded
pub on_ok : {A E : Type 0} (r : Result A E) (P Q : Type 0) → (P → Q) → OnOk r P → OnOk r Q
on_ok (Ok a) P Q follows holds = follows holds
on_ok (Err e) P Q follows holds = tt

-- ---- among the places of one node

pub adds_one : (old new : List Place) (place : Place) → AddsPlace old new place → AreUnion new old (place ∷ [])
adds_one old new place (inl more) p = ap (list_any p) more ∙ list_any-append p old (place ∷ [])
adds_one old new place (inr there) p = ap (list_any p) there.0 ∙ or-self (list_any p old) (list_any p (place ∷ [])) (there.1 p)

module _ (node : ℕ) where
  abbrev own : Place → Bool
  own l = is_low_place l && nat_eq (node_of l) node

  adds_own : (old new : List Place) (place : Place) → AddsPlace old new place → own place ≡ true → list_all own old ≡ true → list_all own new ≡ true
  adds_own old new place (inl more) this all =
      ap (list_all own) more ∙ list_all-append own old (place ∷ [])
      ∙ both-true (list_all own old) (list_all own (place ∷ [])) all (both-true (own place) true this refl)
  adds_own old new place (inr there) this all = ap (list_all own) there.0 ∙ all

-- ---- at one of the nodes

set_in_order : (nodes : List NodePlaces) (k : ℕ) (n : NodePlaces) → list_all is_in_order nodes ≡ true → is_in_order n ≡ true → list_all is_in_order (set nodes k n) ≡ true
set_in_order [] k n all this = all
set_in_order (m ∷ nodes) zero n all this = both-true (is_in_order n) (list_all is_in_order nodes) this (and-true (is_in_order m) (list_all is_in_order nodes) all).1
set_in_order (m ∷ nodes) (suc k) n all this =
    let both = and-true (is_in_order m) (list_all is_in_order nodes) all in
    both-true (is_in_order m) (list_all is_in_order (set nodes k n)) both.0 (set_in_order nodes k n both.1 this)

in_order_at : (nodes : List NodePlaces) (k : ℕ) (d : NodePlaces) → k < length nodes → list_all is_in_order nodes ≡ true → is_in_order (get_or nodes k d) ≡ true
in_order_at [] k d below all = absurd (omega (arith, below))
in_order_at (m ∷ nodes) zero d below all = (and-true (is_in_order m) (list_all is_in_order nodes) all).0
in_order_at (m ∷ nodes) (suc k) d below all = in_order_at nodes k d (omega (arith, below)) (and-true (is_in_order m) (list_all is_in_order nodes) all).1

set_in : (p : Place → Bool) (x : Bool) (nodes : List NodePlaces) (k : ℕ) (n new : NodePlaces) → k < length nodes → get_or nodes k n ≡ n
    → list_any p new.places.items ≡ (list_any p n.places.items || x) → list_any p (places_in (set nodes k new)) ≡ (list_any p (places_in nodes) || x)
set_in p x [] k n new below here is = absurd (omega (arith, below))
set_in p x (m ∷ nodes) zero n new below here is =
    let rest = list_any p (places_in nodes) in
    list_any-append p new.places.items (places_in nodes) ∙ ap (λ (b : Bool). b || rest) is ∙ or-last (list_any p n.places.items) x rest
    ∙ ap (λ (b : NodePlaces). (list_any p b.places.items || rest) || x) (sym here) ∙ ap (λ (b : Bool). b || x) (sym (list_any-append p m.places.items (places_in nodes)))
set_in p x (m ∷ nodes) (suc k) n new below here is =
    let first = list_any p m.places.items in
    list_any-append p m.places.items (places_in (set nodes k new))
    ∙ ap (λ (b : Bool). first || b) (set_in p x nodes k n new (omega (arith, below)) here is)
    ∙ sym (or_assoc first (list_any p (places_in nodes)) x) ∙ ap (λ (b : Bool). b || x) (sym (list_any-append p m.places.items (places_in nodes)))

pub node_at : (nodes : List NodePlaces) (k : ℕ) (n : NodePlaces) (m : ℕ) → k < length nodes → get_or nodes k n ≡ n → option_map (λ (p : NodePlaces). p.node) (slice_get nodes k) ≡ Some m → n.node ≡ m
node_at [] k n m below here is = absurd (omega (arith, below))
node_at (x ∷ nodes) zero n m below here is = let first : x.node ≡ m = cc in sym (ap (λ (p : NodePlaces). p.node) here) ∙ first
node_at (x ∷ nodes) (suc k) n m below here is = node_at nodes k n m (omega (arith, below)) here is

-- one place more at a node that is there
pub set_union : (nodes : List NodePlaces) (k : ℕ) (n new : NodePlaces) (place : Place) → k < length nodes → get_or nodes k n ≡ n
    → AddsPlace n.places.items new.places.items place → AreUnion (places_in (set nodes k new)) (places_in nodes) (place ∷ [])
set_union nodes k n new place below here adds p = set_in p (list_any p (place ∷ [])) nodes k n new below here (adds_one n.places.items new.places.items place adds p)

same_number : (m n : ℕ) → n ≡ m → nat_eq m n ≡ true
same_number m n same = grind (arith, nat_tests)

pub set_order : (nodes : List NodePlaces) (k : ℕ) (n : NodePlaces) (new : NodePlaces) (place : Place) → k < length nodes → get_or nodes k n ≡ n
    → n.node ≡ node_of place → new.node ≡ n.node → AddsPlace n.places.items new.places.items place → is_low_place place ≡ true → list_all is_in_order nodes ≡ true
    → list_all is_in_order (set nodes k new) ≡ true
set_order nodes k n new place below here own node adds low all =
    let before : is_in_order n ≡ true = sym (ap is_in_order here) ∙ in_order_at nodes k n below all in
    let this = both-true (is_low_place place) (nat_eq (node_of place) n.node) low (same_number (node_of place) n.node own) in
    let after = adds_own n.node n.places.items new.places.items place adds this before in
    set_in_order nodes k new all (ap (λ (m : ℕ). list_all (λ l. is_low_place l && nat_eq (node_of l) m) new.places.items) node ∙ after)

-- ---- place after place

regroup : (a b c : Bool) → ((a || b) || (c || false)) ≡ (a || (b || c))
regroup a b c = or_assoc a b (c || false) ∙ ap (λ (d : Bool). a || (b || d)) (sym (or-none c))

pub union_more : (places : List Place) (i : ℕ) (d : Place) (new old first : List Place) → i < length places → AreUnion new old (get_or places i d ∷ [])
    → AreUnion old first (take i places) → AreUnion new first (take (i + 1) places)
union_more places i d new old first below one so_far p =
    one p ∙ ap (λ (b : Bool). b || (p (get_or places i d) || false)) (so_far p)
    ∙ regroup (list_any p first) (list_any p (take i places)) (p (get_or places i d))
    ∙ ap (λ (b : Bool). list_any p first || b) (sym (list_any_more p places i d below))

low_next : (places : List Place) (i : ℕ) → list_all is_low_place (drop i places) ≡ true → list_all is_low_place (drop (suc i) places) ≡ true
low_next [] zero low = refl
low_next [] (suc i) low = refl
low_next (l ∷ places) zero low = (and-true (is_low_place l) (list_all is_low_place places) low).1
low_next (l ∷ places) (suc i) low = low_next places i low

pub low_behind : (places : List Place) (i : ℕ) → list_all is_low_place (drop i places) ≡ true → list_all is_low_place (drop (i + 1) places) ≡ true
low_behind places i low = ap (λ (n : ℕ). list_all is_low_place (drop n places)) (add-one i) ∙ low_next places i low
