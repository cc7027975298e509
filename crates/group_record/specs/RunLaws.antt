-- What follows by computing of the state of a process after some steps.
use Rattle.std.proofs.Common.{◌≡◌, ℕ, Bool, true, false, cond, eqb, List, [], ◌∷◌, ◌++◌, slice_get, Option, Some, None, refl}
use Rattle.std.specs.List.{last_or}
use Rattle.std.specs.Option.{option_to_list}
use Rattle.guest_process.specs.Live.{Event}
use Rattle.guest_process.specs.State.{State}
use Rattle.group_world.specs.History.{put_last_if}
use Rattle.group_record.specs.Run.{GroupStart, Had, RunStep, process_after, process_states}

last_put : (first : Option State) (test : Bool) (states : List State) (S : State) → last_or first (put_last_if test states S) ≡ cond test (Some S) (last_or first states)
last_put first true [] S = refl
last_put first true (other ∷ states) S = last_put (Some other) true states S
last_put first false states S = refl

last_from : (first : Option State) (test : Bool) (states : List State) (S : State)
    → last_or None (option_to_list first ++ put_last_if test states S) ≡ cond test (Some S) (last_or None (option_to_list first ++ states))
last_from None test states S = last_put None test states S
last_from (Some first) test states S = last_put (Some first) test states S

first_alone : (first : Option State) → last_or None (option_to_list first ++ []) ≡ first
first_alone None = refl
first_alone (Some first) = refl

-- before any step it is the first one
pub before_steps : (group : GroupStart) (p : ℕ) → process_after group [] p ≡ slice_get group.first p
before_steps group p = first_alone (slice_get group.first p)

-- after an event it is the event's, where the event is of that process
pub after_had : (group : GroupStart) (steps : List RunStep) (q p : ℕ) (e : Event) → process_after group (Had q e ∷ steps) p ≡ cond (eqb q p) (Some e.state) (process_after group steps p)
after_had group steps q p e = last_from (slice_get group.first p) (eqb q p) (process_states steps p) e.state
