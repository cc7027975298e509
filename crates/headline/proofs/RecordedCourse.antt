-- The events of a process and the states after them, in the steps of a run.
use Rattle.std.proofs.Common.{◌≡◌, ◌⊎◌, ℕ, zero, suc, Bool, true, false, List, [], ◌∷◌, ◌++◌, length, length-append, slice_get, Some, inl, inr, arith, refl}
use Rattle.std.specs.Prelude.{◌==◌}
use Rattle.std.proofs.lemmas.Option.{same_Some}
use Rattle.lib_calls.specs.declared.entry.Entry.{Entry}
use Rattle.group_world.specs.History.{Act, put_last_if}
use Rattle.group_world.specs.History as world
use Rattle.group_record.specs.Run.{GroupStart, Had, Did, RunStep, entries_of_steps, process_states}
use Rattle.group_record.specs.Standing.{IsRun}

-- ---- lists that grow at their end

pub last_at : {A : Type 0} (xs : List A) (x : A) → slice_get (xs ++ x ∷ []) (length xs) ≡ Some x
last_at [] x = refl
last_at (y ∷ xs) x = last_at xs x

pub before_last : {A : Type 0} (xs : List A) (x y : A) (k : ℕ) → slice_get xs k ≡ Some y → slice_get (xs ++ x ∷ []) k ≡ Some y
before_last [] x y k at = cc
before_last (z ∷ xs) x y zero at = at
before_last (z ∷ xs) x y (suc k) at = before_last xs x y k at

pub at_end : {A : Type 0} (xs : List A) (x y : A) (k : ℕ) → slice_get (xs ++ x ∷ []) k ≡ Some y → (slice_get xs k ≡ Some y) ⊎ (x ≡ y)
at_end [] x y zero at = inr (same_Some x y at)
at_end [] x y (suc k) at = cc
at_end (z ∷ xs) x y zero at = inl at
at_end (z ∷ xs) x y (suc k) at = at_end xs x y k at

-- ---- as many states as events

put_both : {A B : Type 0} (b : Bool) (xs : List A) (ys : List B) (x : A) (y : B) → length xs ≡ length ys → length (put_last_if b xs x) ≡ length (put_last_if b ys y)
put_both true xs ys x y same = omega (arith, same, length-append xs (x ∷ []), length-append ys (y ∷ []))
put_both false xs ys x y same = same

pub states_count : (group : GroupStart) (steps : List RunStep) (p : ℕ) → IsRun group steps → length (process_states steps p) ≡ length (entries_of_steps steps p)
states_count group [] p run = refl
states_count group (Had q e ∷ steps) p run = put_both (q == p) (process_states steps p) (entries_of_steps steps p) e.state e.entry (states_count group steps p run.1)
states_count group (Did (world.Event q e) ∷ steps) p run = absurd run.0
states_count group (Did (world.Deliver q n) ∷ steps) p run = states_count group steps p run.1
states_count group (Did (world.Inject q bytes) ∷ steps) p run = states_count group steps p run.1
states_count group (Did (world.Clock q value) ∷ steps) p run = states_count group steps p run.1
states_count group (Did (world.Random q bytes) ∷ steps) p run = states_count group steps p run.1
states_count group (Did (world.Signal q signal) ∷ steps) p run = states_count group steps p run.1
states_count group (Did (world.Kill q) ∷ steps) p run = states_count group steps p run.1

-- ---- events stay

put_keeps : {A : Type 0} (b : Bool) (xs : List A) (x y : A) (k : ℕ) → slice_get xs k ≡ Some y → slice_get (put_last_if b xs x) k ≡ Some y
put_keeps true xs x y k at = before_last xs x y k at
put_keeps false xs x y k at = at

pub entries_stay : (later early : List RunStep) (p k : ℕ) (e : Entry) → slice_get (entries_of_steps early p) k ≡ Some e → slice_get (entries_of_steps (later ++ early) p) k ≡ Some e
entries_stay [] early p k e at = at
entries_stay (Had q x ∷ later) early p k e at = put_keeps (q == p) (entries_of_steps (later ++ early) p) x.entry e k (entries_stay later early p k e at)
entries_stay (Did (world.Event q x) ∷ later) early p k e at = put_keeps (q == p) (entries_of_steps (later ++ early) p) x e k (entries_stay later early p k e at)
entries_stay (Did (world.Deliver q n) ∷ later) early p k e at = entries_stay later early p k e at
entries_stay (Did (world.Inject q bytes) ∷ later) early p k e at = entries_stay later early p k e at
entries_stay (Did (world.Clock q value) ∷ later) early p k e at = entries_stay later early p k e at
entries_stay (Did (world.Random q bytes) ∷ later) early p k e at = entries_stay later early p k e at
entries_stay (Did (world.Signal q signal) ∷ later) early p k e at = entries_stay later early p k e at
entries_stay (Did (world.Kill q) ∷ later) early p k e at = entries_stay later early p k e at
