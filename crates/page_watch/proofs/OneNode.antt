-- Places of the one node that had the last event, and of others.
use Rattle.std.proofs.Common.{◌≡◌, ℕ, ◌+◌, ◌<◌, Bool, true, false, List, [], ◌∷◌, drop, get_or, length, Option, Some, None, refl, sym, ap, ◌∙◌, arith}
use Rattle.std.proofs.lemmas.Bool.{eqb-true}
use Rattle.std.proofs.lemmas.Bool.Decides.{nat_tests}
use Rattle.std.proofs.lemmas.List.{drop_more}
use Rattle.std.proofs.lemmas.List.Folds.{list_any-append}
use Rattle.std.specs.Prelude.{◌&&◌, ◌||◌, nat_eq}
use Rattle.std.specs.List.{list_all}
use Rattle.watch_expr.specs.declared.reads.Place.{Place}
use Rattle.watch_expr.specs.declared.reads.Place.TheVariants as place
use Rattle.watch_expr.specs.Reads.{is_low_place}
use Rattle.page_watch.specs.declared.places.NodePlaces.{NodePlaces}
use Rattle.page_watch.specs.inside.Places.{is_in_order, places_in}
use Rattle.page_watch.specs.inside.Watching.{IsOnlyNode}
use Rattle.page_watch.specs.Touch.{meets, node_of}

pub and-true : (a b : Bool) → (a && b) ≡ true → (a ≡ true) × (b ≡ true)
and-true true b h = (refl, h)
and-true false b h = absurd (cc)

pub or-false : (a b : Bool) → (a || b) ≡ false → (a ≡ false) × (b ≡ false)
or-false true b h = absurd (cc)
or-false false b h = (refl, h)

pub and-false : (a b : Bool) → b ≡ false → false ≡ (a && b)
and-false true b e = sym e
and-false false b e = refl

pub unlike : (m n : ℕ) → (m ≡ n → ⊥) → nat_eq m n ≡ false
unlike m n h = grind (arith, nat_tests)

same_node : (o : Option ℕ) (m n : ℕ) → o ≡ Some m → o ≡ Some n → m ≡ n
same_node o m n e f = cc

-- ---- where the view tells the node

pub only : (marks : Place → ℕ) (at n : ℕ) (o : Option ℕ) → ((l : Place) → marks l ≡ at → marks (place.Motion (node_of l)) ≡ at)
    → ((m : ℕ) → marks (place.Motion m) ≡ at → o ≡ Some m) → o ≡ Some n → IsOnlyNode marks at n
only marks at n o moves tells is = λ l e. same_node o (node_of l) n (tells (node_of l) (moves l e)) is

pub none_met : (marks : Place → ℕ) (at : ℕ) (o : Option ℕ) → ((l : Place) → marks l ≡ at → marks (place.Motion (node_of l)) ≡ at)
    → ((m : ℕ) → marks (place.Motion m) ≡ at → o ≡ Some m) → o ≡ None → (places : List Place) → false ≡ meets marks at places
none_met marks at o moves tells is [] = refl
none_met marks at o moves tells is (l ∷ places) =
    let not : marks l ≡ at → ⊥ = λ e. let some : o ≡ Some (node_of l) = tells (node_of l) (moves l e) in absurd (cc) in
    none_met marks at o moves tells is places ∙ ap (λ (b : Bool). b || meets marks at places) (sym (unlike (marks l) at not))

-- ---- of another node

pub not_marked : (marks : Place → ℕ) (at node : ℕ) (l : Place) → IsOnlyNode marks at node → (node_of l ≡ node → ⊥) → false ≡ (is_low_place l && nat_eq (marks l) at)
not_marked marks at node l only other = and-false (is_low_place l) (nat_eq (marks l) at) (unlike (marks l) at (λ e. other (only l e)))

module _ (marks : Place → ℕ) (at node : ℕ) (only : IsOnlyNode marks at node) where
  unmet : (n : ℕ) (places : List Place) → (n ≡ node → ⊥) → list_all (λ l. is_low_place l && nat_eq (node_of l) n) places ≡ true → false ≡ meets marks at places
  unmet n [] other order = refl
  unmet n (l ∷ places) other order =
      let all = and-true (is_low_place l && nat_eq (node_of l) n) (list_all (λ l. is_low_place l && nat_eq (node_of l) n) places) order in
      let this = and-true (is_low_place l) (nat_eq (node_of l) n) all.0 in
      let own : node_of l ≡ n = eqb-true (node_of l) n this.1 in
      unmet n places other all.1
      ∙ ap (λ (b : Bool). b || meets marks at places) (sym (unlike (marks l) at (λ e. other (sym own ∙ only l e))))

  pub unmet_in : (n : NodePlaces) → (n.node ≡ node → ⊥) → is_in_order n ≡ true → false ≡ meets marks at n.places.items
  unmet_in n other order = unmet n.node n.places.items other order

pub low_in : (n : ℕ) (places : List Place) → list_all (λ l. is_low_place l && nat_eq (node_of l) n) places ≡ true → list_all is_low_place places ≡ true
low_in n [] order = refl
low_in n (l ∷ places) order =
    let all = and-true (is_low_place l && nat_eq (node_of l) n) (list_all (λ l. is_low_place l && nat_eq (node_of l) n) places) order in
    ap (λ (b : Bool). b && list_all is_low_place places) (and-true (is_low_place l) (nat_eq (node_of l) n) all.0).0 ∙ low_in n places all.1

-- ---- node after node

-- the places of the nodes before this one do not have the mark
pub record IsUnmetBelow (marks : Place → ℕ) (at : ℕ) (nodes : List NodePlaces) (i : ℕ) : Type 0 where
  pub order : list_all is_in_order (drop i nodes) ≡ true
  pub met : meets marks at (places_in nodes) ≡ meets marks at (places_in (drop i nodes))

module _ (marks : Place → ℕ) (at : ℕ) (nodes : List NodePlaces) (i : ℕ) (n : NodePlaces) (below : i < length nodes) (here : get_or nodes i n ≡ n) where
  -- this node and those after it
  ahead : drop i nodes ≡ n ∷ drop (i + 1) nodes
  ahead = drop_more nodes i n below ∙ ap (λ (m : NodePlaces). m ∷ drop (i + 1) nodes) here

  split : IsUnmetBelow marks at nodes i → (is_in_order n && list_all is_in_order (drop (i + 1) nodes)) ≡ true
  split h = sym (ap (list_all is_in_order) ahead) ∙ h.order

  pub order_here : IsUnmetBelow marks at nodes i → is_in_order n ≡ true
  order_here h = (and-true (is_in_order n) (list_all is_in_order (drop (i + 1) nodes)) (split h)).0

  met_here : IsUnmetBelow marks at nodes i → meets marks at (places_in nodes) ≡ (meets marks at n.places.items || meets marks at (places_in (drop (i + 1) nodes)))
  met_here h = h.met ∙ ap (λ (ns : List NodePlaces). meets marks at (places_in ns)) ahead
      ∙ list_any-append (λ l. nat_eq (marks l) at) n.places.items (places_in (drop (i + 1) nodes))

  pub found : IsUnmetBelow marks at nodes i → meets marks at n.places.items ≡ true → true ≡ meets marks at (places_in nodes)
  found h e = sym (met_here h ∙ ap (λ (b : Bool). b || meets marks at (places_in (drop (i + 1) nodes))) e)

  pub passed : IsUnmetBelow marks at nodes i → meets marks at n.places.items ≡ false → IsUnmetBelow marks at nodes (i + 1)
  passed h e = record {
    order = (and-true (is_in_order n) (list_all is_in_order (drop (i + 1) nodes)) (split h)).1;
    met = met_here h ∙ ap (λ (b : Bool). b || meets marks at (places_in (drop (i + 1) nodes))) e;
  }
