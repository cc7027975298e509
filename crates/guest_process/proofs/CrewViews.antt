-- Threads and locks as the code sees them.
use Rattle.std.proofs.Common.{◌≡◌, ℕ, ◌≤◌, zero, suc, Bool, true, false, cond, List, [], ◌∷◌, length, Option, Some, None, refl, ap, ◌∙◌, arith}
use Rattle.std.specs.Prelude.{◌==◌, slice_get}
use Rattle.std.proofs.lemmas.Bool.{eq-eqb, eqb-true}
use Rattle.coop_threads.specs.Crew.{holder_of, status_of}
use Rattle.coop_threads.specs.Locks.{grip_of, holders_after}
use Rattle.coop_threads.specs.declared.grip.Grip.TheVariants.{Already, Held}
use Rattle.coop_threads.specs.declared.slot.Slot.{Slot}
use Rattle.coop_threads.specs.declared.status.Status.TheVariants.{Unknown}
use Rattle.guest_process.specs.Answers.{after_need, locked, asks_for_lock, unlocked}
use Rattle.guest_process.specs.declared.waiting.Waiting.{Waiting}
use Rattle.guest_process.specs.State.{State, with_lock, without_lock}

-- no thread was made past the last one
pub unknown_past : (slots : List (Slot Waiting)) (t : ℕ) → length slots ≤ t → status_of (slice_get slots t) ≡ Unknown
unknown_past [] t past = refl
unknown_past (slot ∷ slots) zero past = absurd (omega arith)
unknown_past (slot ∷ slots) (suc t) past = unknown_past slots t (omega arith)

-- a thread takes the lock that it asks for exactly where it is answered so
pub lock_taken : (S : State) (m t : ℕ) → with_lock S m t ≡ after_need (locked S m t) S
lock_taken S m t = by_holder (holder_of S.crew m) refl
  where
    by_test : (holder : ℕ) (b : Bool) → S ≡ after_need (asks_for_lock S m t (cond b Already (Held holder))) S
    by_test holder true = refl
    by_test holder false = refl

    by_holder : (o : Option ℕ) → holder_of S.crew m ≡ o → with_lock S m t ≡ after_need (asks_for_lock S m t (grip_of o t)) S
    by_holder None e = refl
    by_holder (Some holder) e =
        ap {B = State} (λ o. record S { crew = record S.crew { holders = holders_after S.crew.holders m t o } }) e ∙ by_test holder (holder == t)

-- and gives back the lock that it holds
pub lock_freed : (S : State) (m t : ℕ) → holder_of S.crew m ≡ Some t → without_lock S m ≡ after_need (unlocked S m t) S
lock_freed S m t e = rw (e, eq-eqb t t refl) refl

pub lock_kept : (S : State) (m t : ℕ) → (holder_of S.crew m ≡ Some t → ⊥) → S ≡ after_need (unlocked S m t) S
lock_kept S m t other = by_holder (holder_of S.crew m) refl
  where
    by_test : (b : Bool) (holder : ℕ) → holder_of S.crew m ≡ Some holder → (holder == t) ≡ b → S ≡ after_need (unlocked S m t) S
    by_test true holder e test = absurd (other (e ∙ ap Some (eqb-true holder t test)))
    by_test false holder e test = rw (e, test) refl

    by_holder : (o : Option ℕ) → holder_of S.crew m ≡ o → S ≡ after_need (unlocked S m t) S
    by_holder None e = rw e refl
    by_holder (Some holder) e = by_test (holder == t) holder e refl
