-- Every global that is read has a number below 2^32.
use Rattle.std.proofs.Common.{◌≡◌, ℕ, ◌+◌, ◌-◌, ◌/◌, Bool, true, false, cond, List, [], ◌∷◌, ◌++◌, Option, Some, None, refl, ap, ◌∙◌, ℤ, pos, negsuc}
use Rattle.std.proofs.lemmas.List.Folds.{list_all-append}
use Rattle.std.specs.Prelude.{◌&&◌, ◌==◌, ◌^◌, nat_lt, slice_get, length}
use Rattle.std.specs.List.{flat_map, list_all, range_with_len}
use Rattle.guest_memory.specs.Memory.{is_inside}
use Rattle.watch_expr.specs.declared.reads.Place.{Place}
use Rattle.watch_expr.specs.declared.reads.Place.TheVariants as place
use Rattle.expression_text.specs.Expression.{Clock, Events, Expression, Global, HasEnded, LastThread, Load, Number, One, Over, Size, Two, Var}
use Rattle.watch_expr.specs.Reads.{places_at_node, evaluates_right, is_low_place, load_places, reads_at}
use Rattle.watch_expr.specs.Value.{ExpressionSetting, byte_count, resolved_node, value_at}
use Rattle.watch_expr.specs.View.{Node}

-- none of these is a global that is too high
abbrev AreLow : List Place → Type 0
AreLow places = list_all is_low_place places ≡ true

both : (xs ys : List Place) → AreLow xs → AreLow ys → AreLow (xs ++ ys)
both xs ys a b = list_all-append is_low_place xs ys ∙ ap (λ (t : Bool). t && list_all is_low_place ys) a ∙ b

if_read : (t : Bool) (xs : List Place) → AreLow xs → AreLow (cond t xs [])
if_read true xs h = h
if_read false xs h = refl

at_one : (node : Option ℕ) (places : ℕ → List Place) → ((k : ℕ) → AreLow (places k)) → AreLow (places_at_node node places)
at_one None places h = refl
at_one (Some k) places h = h k

at_each : (places : ℕ → List Place) (ks : List ℕ) → ((k : ℕ) → AreLow (places k)) → AreLow (flat_map places ks)
at_each places [] h = refl
at_each places (k ∷ ks) h = both (places k) (flat_map places ks) (h k) (at_each places ks h)

low_pages : (t u : Bool) (node first last : ℕ)
    → AreLow (cond t (cond u (place.Page node first ∷ []) (place.Page node first ∷ place.Page node last ∷ [])) (place.Size node ∷ []))
low_pages true true node first last = refl
low_pages true false node first last = refl
low_pages false u node first last = refl

low_load : (node : ℕ) (o : Option Node) (count : ℕ) (addr : Option ℤ) → AreLow (load_places node o count addr)
low_load node None count addr = refl
low_load node (Some s) count None = refl
low_load node (Some s) count (Some (pos a)) = low_pages (is_inside s.memory a count) ((a / 4096) == ((a + count - 1) / 4096)) node (a / 4096) ((a + count - 1) / 4096)
low_load node (Some s) count (Some (negsuc n)) = refl

low_global : (t : Bool) (node n : ℕ) → nat_lt n (2 ^ 32) ≡ t → AreLow (cond t (place.Global node n ∷ []) [])
low_global true node n e = ap (λ (t : Bool). t && true) e
low_global false node n e = refl

low_at : (s : ExpressionSetting) (each : Option ℕ) (x : Expression) → AreLow (reads_at s each x)
low_at s each (Number n) = refl
low_at s each (Var name) = refl
low_at s each (One op x) = low_at s each x
low_at s each (Two op x y) =
    both (reads_at s each x) _ (low_at s each x) (if_read (evaluates_right op (value_at s each x)) (reads_at s each y) (low_at s each y))
low_at s each (Over agg x) = at_each (λ node. reads_at s (Some node) x) (range_with_len 0 (length s.nodes)) (λ k. low_at s (Some k) x)
low_at s each (Load name width x) =
    both (reads_at s each x) _ (low_at s each x)
    (at_one (resolved_node s.event each name) (λ node. load_places node (slice_get s.nodes node) (byte_count width) (value_at s each x))
    (λ k. low_load k (slice_get s.nodes k) (byte_count width) (value_at s each x)))
low_at s each (Global name n) =
    at_one (resolved_node s.event each name) (λ node. cond (nat_lt n (2 ^ 32)) (place.Global node n ∷ []) []) (λ k. low_global (nat_lt n (2 ^ 32)) k n refl)
low_at s each (Clock name) = at_one (resolved_node s.event each name) (λ node. place.Motion node ∷ []) (λ k. refl)
low_at s each (Events name) = at_one (resolved_node s.event each name) (λ node. place.Motion node ∷ []) (λ k. refl)
low_at s each (Size name) = at_one (resolved_node s.event each name) (λ node. place.Size node ∷ []) (λ k. refl)
low_at s each (LastThread name) = at_one (resolved_node s.event each name) (λ node. place.Motion node ∷ []) (λ k. refl)
low_at s each (HasEnded name) = at_one (resolved_node s.event each name) (λ node. place.Motion node ∷ []) (λ k. refl)

-- what is read after nothing else
pub low_read : (s : ExpressionSetting) (each : Option ℕ) (x : Expression) (before after : List Place) → before ≡ [] → after ≡ before ++ reads_at s each x → AreLow after
low_read s each x before after none is = ap (list_all is_low_place) (is ∙ ap (λ (ls : List Place). ls ++ reads_at s each x) none) ∙ low_at s each x
