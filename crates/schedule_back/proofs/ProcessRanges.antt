-- Every process is in the ranges of its module at each position.
use Rattle.std.proofs.Common.{◌≡◌, ◌≢◌, ℕ, zero, suc, ◌≤◌, Bool, true, false, cond, List, [], ◌∷◌, length, map, Some, refl, ap, sym, subst, ◌∙◌, arith}
use Rattle.std.specs.Prelude.{◌==◌, slice_get, slice_set}
use Rattle.std.proofs.lemmas.Bool.{eqb-false, eqb-true}
use Rattle.std.proofs.lemmas.List.Elements.{recursion_from_All}
use Rattle.std.proofs.lemmas.Option.{same_Some}
use Rattle.std.specs.List.{AllByRecursion}
use Rattle.guest_process.specs.Fits.{StateFits}
use Rattle.guest_process.specs.Next.{next}
use Rattle.guest_process.specs.OneEvent.{IsKeptByEvents}
use Rattle.guest_process.specs.State.{State}
use Rattle.proc_replay.specs.Replaying.{Replaying}
use Rattle.group_state.specs.Laws.{Stepwise}
use Rattle.group_state.specs.Place.{AreGroupReplays, ReplaysFit, events_of_replays, states_of_nodes}
use Rattle.schedule_back.proofs.ListPlaces.{element}

-- ---- the elements after one of them was set

set_here : {A : Type 0} (xs : List A) (i : ℕ) (x y : A) → slice_get xs i ≡ Some x → slice_get (slice_set xs i y) i ≡ Some y
set_here [] i x y at = cc
set_here (a ∷ xs) zero x y at = refl
set_here (a ∷ xs) (suc i) x y at = set_here xs i x y at

set_there : {A : Type 0} (xs : List A) (i j : ℕ) (y : A) → i ≢ j → slice_get (slice_set xs i y) j ≡ slice_get xs j
set_there [] i j y differ = refl
set_there (a ∷ xs) zero zero y differ = absurd (differ refl)
set_there (a ∷ xs) zero (suc j) y differ = refl
set_there (a ∷ xs) (suc i) zero y differ = refl
set_there (a ∷ xs) (suc i) (suc j) y differ = set_there xs i j y (λ same. differ (ap suc same))

pub get_set : {A : Type 0} (xs : List A) (i : ℕ) (x y : A) → slice_get xs i ≡ Some x → (j : ℕ) → slice_get (slice_set xs i y) j ≡ cond (i == j) (Some y) (slice_get xs j)
get_set xs i x y at j = by_test (i == j) refl where
  by_test : (b : Bool) → (i == j) ≡ b → slice_get (slice_set xs i y) j ≡ cond (i == j) (Some y) (slice_get xs j)
  by_test true same =
      ap (slice_get (slice_set xs i y)) (sym (eqb-true i j same)) ∙ set_here xs i x y at ∙ ap (λ b. cond b (Some y) (slice_get xs j)) (sym same)
  by_test false other = set_there xs i j y (eqb-false i j other) ∙ ap (λ b. cond b (Some y) (slice_get xs j)) (sym other)

-- each state at a position is in its ranges
abbrev pub AllFit : List State → Type 0
AllFit states = (p : ℕ) (S : State) → slice_get states p ≡ Some S → StateFits S

fit_at : (rs : List Replaying) → AllByRecursion (λ (r : Replaying). StateFits r.state) rs → AllFit (map (λ (r : Replaying). r.state) rs)
fit_at [] fits p S at = cc
fit_at (r ∷ rs) fits zero S at = subst StateFits (same_Some r.state S at) fits.0
fit_at (r ∷ rs) fits (suc p) S at = fit_at rs fits.1 p S at

fit_next : (before : List State) (p : ℕ) (S S' : State) → AllFit before → slice_get before p ≡ Some S → StateFits S' → AllFit (slice_set before p S')
fit_next before p S S' fits at fits' q T is = by_test (p == q) (sym (get_set before p S S' at q) ∙ is) where
  by_test : (b : Bool) → cond b (Some S') (slice_get before q) ≡ Some T → StateFits T
  by_test true is = subst StateFits (same_Some S' T is) fits'
  by_test false is = fits q T is

pub all_fit : Stepwise → IsKeptByEvents → (start : List Replaying) → AreGroupReplays start → ReplaysFit start → (k : ℕ) → k ≤ length (events_of_replays start) → AllFit (states_of_nodes start k)
all_fit stepwise kept start replayers fits zero within =
    subst AllFit (sym (stepwise.begins start)) (fit_at start (recursion_from_All (λ (r : Replaying). StateFits r.state) start fits))
all_fit stepwise kept start replayers fits (suc k) within =
    let e = element (events_of_replays start) k (omega (arith, within)) in
    let s = stepwise.steps start replayers fits k e.0 e.1 in
    let before = all_fit stepwise kept start replayers fits k (omega (arith, within)) in
    subst AllFit (sym s.after) (fit_next (states_of_nodes start k) e.0.node s.state (next s.state e.0.entry) before s.stands (kept s.state e.0.entry (before e.0.node s.state s.stands) s.legal))
