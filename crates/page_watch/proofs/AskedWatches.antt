-- Several watches after an event.
use Rattle.std.proofs.Common.{◌≡◌, ℕ, ℤ, Option, zero, suc, ◌+◌, ◌-◌, ◌<◌, Bool, true, false, cond, List, [], ◌∷◌, ◌++◌, drop, get_or, length, map, set, take, refl, subst, sym, ap, ◌∙◌, add-one, arith}
use Rattle.std.proofs.lemmas.List.Elements.{All-from_recursion, recursion_from_All}
use Rattle.std.proofs.lemmas.List.Folds.{list_any-append}
use Rattle.std.proofs.lemmas.List.Sums.{sum_by-cons, sum_by_more}
use Rattle.std.specs.Prelude.{All, ◌||◌, count_by, nat_eq}
use Rattle.std.specs.List.{AllByRecursion, flat_map, list_any}
use Rattle.watch_expr.specs.declared.reads.Place.{Place}
use Rattle.expression_text.specs.Expression.{Expression}
use Rattle.watch_expr.specs.Parts.{Part, PartsMakeUp, parts_of, places_of_parts, value_of_parts}
use Rattle.watch_expr.specs.Reads.{ReadsTell, no_variables, reads_of_expression}
use Rattle.watch_expr.specs.Value.{value as value_at_nodes}
use Rattle.watch_expr.specs.View.{Node}
use Rattle.page_watch.specs.inside.Places.{AreUnion, CoversPlaces, places_of}
use Rattle.page_watch.specs.Touch.{MarksTell, meets}
use Rattle.page_watch.specs.Watched.{WatchStands, Watched}
use Rattle.page_watch.specs.inside.Watching.{watch_after_event, evaluated_watch}
use Rattle.page_watch.proofs.OneNode.{or-false}
use Rattle.page_watch.proofs.WatchStays.{keeps, parts_stay}

-- ---- the places of all

pub neither : (a b : Bool) → a ≡ false → b ≡ false → (a || b) ≡ false
neither true b e f = absurd (cc)
neither false b e f = f

module _ {X : Type 0} (places : X → List Place) (p : Place → Bool) where
  apart : (x : X) (xs : List X) → list_any p (flat_map places (x ∷ xs)) ≡ false → (list_any p (places x) ≡ false) × (list_any p (flat_map places xs) ≡ false)
  apart x xs none = or-false (list_any p (places x)) (list_any p (flat_map places xs)) (sym (list_any-append p (places x) (flat_map places xs)) ∙ none)

  together : (x : X) (xs : List X) → list_any p (places x) ≡ false → list_any p (flat_map places xs) ≡ false → list_any p (flat_map places (x ∷ xs)) ≡ false
  together x xs here none = list_any-append p (places x) (flat_map places xs) ∙ neither (list_any p (places x)) (list_any p (flat_map places xs)) here none

  pub at_place : (xs : List X) (n : ℕ) (d : X) → n < length xs → list_any p (flat_map places xs) ≡ false → list_any p (places (get_or xs n d)) ≡ false
  at_place [] n d below none = absurd (omega (arith, below))
  at_place (x ∷ xs) zero d below none = (apart x xs none).0
  at_place (x ∷ xs) (suc n) d below none = at_place xs n d (omega (arith, below)) (apart x xs none).1

  pub set_place : (xs : List X) (n : ℕ) (x : X) → list_any p (flat_map places xs) ≡ false → list_any p (places x) ≡ false → list_any p (flat_map places (set xs n x)) ≡ false
  set_place [] n x none here = none
  set_place (y ∷ xs) zero x none here = together x xs here (apart y xs none).1
  set_place (y ∷ xs) (suc n) x none here = let both = apart y xs none in together y (set xs n x) both.0 (set_place xs n x both.1 here)

  pub more_place : (xs : List X) (x : X) → list_any p (flat_map places xs) ≡ false → list_any p (places x) ≡ false → list_any p (flat_map places (xs ++ x ∷ [])) ≡ false
  more_place [] x none here = together x [] here refl
  more_place (y ∷ xs) x none here = let both = apart y xs none in together y (xs ++ x ∷ []) both.0 (more_place xs x both.1 here)

abbrev places_of_watch : Watched → List Place
places_of_watch w = places_of_parts w.parts

-- with the places of one watch more those of all are there
pub covers_more : (old new : List Place) (ws : List Watched) (w : Watched) → CoversPlaces new old → CoversPlaces new (places_of_parts w.parts) → CoversPlaces old (places_of ws)
    → CoversPlaces new (places_of (ws ++ w ∷ []))
covers_more old new ws w more here covers p none = more_place places_of_watch p ws w (covers p (more p none)) (here p none)

pub union_covers : (old new others : List Place) → AreUnion new old others → CoversPlaces new old
union_covers old new others union p none = (or-false (list_any p old) (list_any p others) (sym (union p) ∙ none)).0

pub union_covers_both : (old new others was : List Place) → AreUnion new old others → CoversPlaces (new ++ was) others
union_covers_both old new others was union p none =
    let apart = or-false (list_any p new) (list_any p was) (sym (list_any-append p new was) ∙ none) in
    (or-false (list_any p old) (list_any p others) (sym (union p) ∙ apart.0)).1

pub covers_last : (all was : List Place) → CoversPlaces (all ++ was) was
covers_last all was p none = (or-false (list_any p all) (list_any p was) (sym (list_any-append p all was) ∙ none)).1

pub covers_itself : (all : List Place) → CoversPlaces all all
covers_itself all p none = none

-- ---- one after the other

item_here : {X : Type 0} (f : X → X) (xs : List X) (n : ℕ) (d : X) → n < length xs → get_or (map f (take n xs) ++ drop n xs) n d ≡ get_or xs n d
item_here f [] n d below = absurd (omega (arith, below))
item_here f (x ∷ xs) zero d below = refl
item_here f (x ∷ xs) (suc n) d below = item_here f xs n d (omega (arith, below))

item_next : {X : Type 0} (f : X → X) (xs : List X) (n : ℕ) (d : X) → n < length xs → set (map f (take n xs) ++ drop n xs) n (f (get_or xs n d)) ≡ map f (take (suc n) xs) ++ drop (suc n) xs
item_next f [] n d below = absurd (omega (arith, below))
item_next f (x ∷ xs) zero d below = refl
item_next f (x ∷ xs) (suc n) d below = ap (λ (ys : List _). f x ∷ ys) (item_next f xs n d (omega (arith, below)))

same_length : {X : Type 0} (f : X → X) (xs : List X) (n : ℕ) → length (map f (take n xs) ++ drop n xs) ≡ length xs
same_length f [] zero = refl
same_length f [] (suc n) = refl
same_length f (x ∷ xs) zero = refl
same_length f (x ∷ xs) (suc n) = ap suc (same_length f xs n)

-- the first of them were asked, their evaluations were counted, and the places of all are held
pub record AreAsked (f : Watched → Watched) (test : Watched → Bool) (whole : List Watched) (first : ℕ) (n : ℕ) (now : List Watched) (held : List Place) (count : ℕ) : Type 0 where
  pub watches : now ≡ map f (take n whole) ++ drop n whole
  pub covers : CoversPlaces held (places_of now)
  pub steps : count ≡ first + count_by test (take n whole)

module _ (f : Watched → Watched) (test : Watched → Bool) (whole : List Watched) (first n : ℕ) (now : List Watched) (held : List Place) (count : ℕ) (so_far : AreAsked f test whole first n now held count) (d : Watched) (below : n < length whole) where
  pub this_one : get_or now n d ≡ get_or whole n d
  this_one = ap (λ (ws : List Watched). get_or ws n d) so_far.watches ∙ item_here f whole n d below

  pub stands_here : (nodes : List Node) (w : Watched) → get_or now n d ≡ w → All (λ w. WatchStands w nodes) whole → WatchStands w nodes
  stands_here nodes w here stand = subst (λ (v : Watched). WatchStands v nodes) (sym this_one ∙ here) (stand n d below)

  pub one_more : (w new : Watched) (more : List Place) (next : ℕ) → get_or now n d ≡ w → new ≡ f w → CoversPlaces more held → CoversPlaces (more ++ places_of_parts w.parts) (places_of_parts new.parts)
      → next ≡ count + cond (test w) 1 0 → AreAsked f test whole first (n + 1) (set now n new) more next
  one_more w new more next here is all places counts =
      let same : get_or whole n d ≡ w = sym this_one ∙ here in
      let inside : n < length now = omega (arith, below, same_length f whole n, ap (λ (ws : List Watched). length ws) so_far.watches) in
      let counted : cond (test (get_or whole n d)) 1 0 ≡ cond (test w) 1 0 = ap {B = ℕ} (λ (v : Watched). cond (test v) 1 0) same in
      record {
        watches = ap (set now n) (is ∙ ap f (sym same)) ∙ ap (λ (ws : List Watched). set ws n (f (get_or whole n d))) so_far.watches ∙ item_next f whole n d below
            ∙ ap (λ (k : ℕ). map f (take k whole) ++ drop k whole) (sym (add-one n));
        covers = λ p none.
            let old = so_far.covers p (all p none) in
            let was : list_any p (places_of_parts w.parts) ≡ false = ap (λ (v : Watched). list_any p (places_of_parts v.parts)) (sym here) ∙ at_place places_of_watch p now n d inside old in
            set_place places_of_watch p now n new old (places p (list_any-append p more (places_of_parts w.parts) ∙ neither (list_any p more) (list_any p (places_of_parts w.parts)) none was));
        steps = omega (arith, counts, so_far.steps, sum_by_more (λ (v : Watched). cond (test v) 1 0) whole n d below, counted);
      }

-- ---- what they are then

module _ (make_up : PartsMakeUp) (law : ReadsTell) (states : ℕ → List Node) (at : ℕ) (marks : Place → ℕ) (tells : MarksTell states at marks) (some : 0 < at) where
  abbrev old : List Node
  old = states (at - 1)

  abbrev new : List Node
  new = states at

  stands_by : (w : Watched) (b : Bool) → meets marks at (places_of_parts w.parts) ≡ b → WatchStands w old → WatchStands (cond b (evaluated_watch new w.expression) w) new
  stands_by w true is stood = record { value = refl; parts = refl; places = sym (make_up new w.expression).1; sound = tells.sound }
  stands_by w false is stood = keeps law states at marks w tells some stood is

  pub stands_after : (w after : Watched) → after ≡ watch_after_event marks at new w → WatchStands w old → WatchStands after new
  stands_after w after is stood = subst (λ (v : Watched). WatchStands v new) (sym is) (stands_by w (meets marks at (places_of_parts w.parts)) refl stood)

  all_stand : (ws : List Watched) → AllByRecursion (λ (w : Watched). WatchStands w old) ws → AllByRecursion (λ (w : Watched). WatchStands w new) (map (watch_after_event marks at new) ws)
  all_stand [] stood = tt
  all_stand (w ∷ ws) stood = (stands_by w (meets marks at (places_of_parts w.parts)) refl stood.0, all_stand ws stood.1)

  pub stand_now : (ws : List Watched) → All (λ w. WatchStands w old) ws → All (λ w. WatchStands w new) (map (watch_after_event marks at new) ws)
  stand_now ws stood = All-from_recursion (λ w. WatchStands w new) (map (watch_after_event marks at new) ws) (all_stand ws (recursion_from_All (λ w. WatchStands w old) ws stood))

  -- the evaluations are those at places that were read
  counts_same : (ws : List Watched) → AllByRecursion (λ (w : Watched). WatchStands w old) ws
      → count_by (λ w. meets marks at (places_of_parts w.parts)) ws ≡ count_by (λ w. meets marks at (reads_of_expression old w.expression)) ws
  counts_same [] stood = refl
  counts_same (w ∷ ws) stood =
      sum_by-cons (λ (w : Watched). cond (meets marks at (places_of_parts w.parts)) 1 0) w ws
      ∙ ap (λ (ls : List Place). cond (meets marks at ls) 1 0 + count_by (λ w. meets marks at (places_of_parts w.parts)) ws) stood.0.places
      ∙ ap (λ (n : ℕ). cond (meets marks at (reads_of_expression old w.expression)) 1 0 + n) (counts_same ws stood.1)
      ∙ sym (sum_by-cons (λ (w : Watched). cond (meets marks at (reads_of_expression old w.expression)) 1 0) w ws)

  pub counts : (ws : List Watched) → All (λ w. WatchStands w old) ws
      → count_by (λ w. meets marks at (places_of_parts w.parts)) ws ≡ count_by (λ w. meets marks at (reads_of_expression old w.expression)) ws
  counts ws stood = counts_same ws (recursion_from_All (λ w. WatchStands w old) ws stood)

  -- where nothing was touched, each is as it was
  as_it_was : (w : Watched) (b : Bool) → b ≡ false → cond b (evaluated_watch new w.expression) w ≡ w
  as_it_was w true none = absurd (cc)
  as_it_was w false none = refl

  nothing_more : {n : ℕ} → n ≡ 0 → 0 + n ≡ 0
  nothing_more is = omega (arith, is)

  pub none_asked : (ws : List Watched) → list_any (λ (l : Place). nat_eq (marks l) at) (places_of ws) ≡ false → (map (watch_after_event marks at new) ws ≡ ws) × (count_by (λ w. meets marks at (places_of_parts w.parts)) ws ≡ 0)
  none_asked [] none = (refl, refl)
  none_asked (w ∷ ws) none =
      let both = or-false (meets marks at (places_of_parts w.parts)) (meets marks at (places_of ws)) (sym (list_any-append (λ (l : Place). nat_eq (marks l) at) (places_of_parts w.parts) (places_of ws)) ∙ none) in
      let rest = none_asked ws both.1 in (
        ap (λ (v : Watched). v ∷ map (watch_after_event marks at new) ws) (as_it_was w (meets marks at (places_of_parts w.parts)) both.0) ∙ ap (λ (vs : List Watched). w ∷ vs) rest.0,
        sum_by-cons (λ (w : Watched). cond (meets marks at (places_of_parts w.parts)) 1 0) w ws
            ∙ ap (λ (b : Bool). cond b 1 0 + count_by (λ w. meets marks at (places_of_parts w.parts)) ws) both.0 ∙ nothing_more rest.1,
      )

  pub none_stand : (ws : List Watched) → list_any (λ (l : Place). nat_eq (marks l) at) (places_of ws) ≡ false → All (λ w. WatchStands w old) ws → All (λ w. WatchStands w new) ws
  none_stand ws none stood = subst (λ (vs : List Watched). All (λ w. WatchStands w new) vs) (none_asked ws none).0 (stand_now ws stood)

  pub none_counted : (ws : List Watched) → list_any (λ (l : Place). nat_eq (marks l) at) (places_of ws) ≡ false → All (λ w. WatchStands w old) ws
      → count_by (λ w. meets marks at (reads_of_expression old w.expression)) ws ≡ 0
  none_counted ws none stood = sym (counts ws stood) ∙ (none_asked ws none).1

expression_by : (w : Watched) (nodes : List Node) (b : Bool) → (cond b (evaluated_watch nodes w.expression) w).expression ≡ w.expression
expression_by w nodes true = refl
expression_by w nodes false = refl

pub same_expressions : (marks : Place → ℕ) (at : ℕ) (nodes : List Node) (ws : List Watched) → map (λ (w : Watched). w.expression) (map (watch_after_event marks at nodes) ws) ≡ map (λ (w : Watched). w.expression) ws
same_expressions marks at nodes [] = refl
same_expressions marks at nodes (w ∷ ws) =
    ap (λ (x : Expression). x ∷ map (λ (w : Watched). w.expression) (map (watch_after_event marks at nodes) ws)) (expression_by w nodes (meets marks at (places_of_parts w.parts)))
    ∙ ap (λ (xs : List Expression). w.expression ∷ xs) (same_expressions marks at nodes ws)

-- ---- one that was asked

abbrev watch_of : Expression → Option ℤ → List Part → Watched
watch_of x value parts = record { expression = x; value = value; parts = parts }

pub asked_touched : PartsMakeUp → (marks : Place → ℕ) (at : ℕ) (nodes : List Node) (w : Watched) (value : Option ℤ) (parts : List Part) (touched : Bool) → touched ≡ true
    → touched ≡ meets marks at (places_of_parts w.parts) → parts ≡ parts_of nodes w.expression → value ≡ value_of_parts w.expression parts
    → record { expression = w.expression; value = value; parts = parts } ≡ watch_after_event marks at nodes w
asked_touched make_up marks at nodes w value parts touched true_is met are is =
    let x = w.expression in
    let evaluated : value ≡ value_at_nodes nodes no_variables x = is ∙ ap (value_of_parts x) are ∙ sym (make_up nodes x).0 in
    ap (λ (o : Option ℤ). watch_of x o parts) evaluated ∙ ap (watch_of x (value_at_nodes nodes no_variables x)) are
    ∙ ap (λ (b : Bool). cond b (evaluated_watch nodes x) w) (sym true_is ∙ met)

pub asked_untouched : ReadsTell → (states : ℕ → List Node) (at : ℕ) (marks : Place → ℕ) → MarksTell states at marks → 0 < at → (w : Watched) (parts : List Part) (touched : Bool)
    → WatchStands w (states (at - 1)) → touched ≡ false → touched ≡ meets marks at (places_of_parts w.parts) → parts ≡ parts_of (states at) w.expression
    → record { expression = w.expression; value = w.value; parts = parts } ≡ watch_after_event marks at (states at) w
asked_untouched law states at marks tells some w parts touched stood false_is met are =
    let x = w.expression in
    let unmet : meets marks at (places_of_parts w.parts) ≡ false = sym met ∙ false_is in
    let same = parts_stay law states at marks tells some stood.sound x (ap (λ (ps : List Part). meets marks at (places_of_parts ps)) (sym stood.parts) ∙ unmet) in
    ap (watch_of x w.value) (are ∙ same ∙ sym stood.parts) ∙ ap (λ (b : Bool). cond b (evaluated_watch (states at) x) w) (sym unmet)

pub All-one : (nodes : List Node) (w : Watched) → WatchStands w nodes → All (λ (w : Watched). WatchStands w nodes) (w ∷ [])
All-one nodes w stands = All-from_recursion (λ (w : Watched). WatchStands w nodes) (w ∷ []) (stands, tt)
