-- What the answers to calls do, kind by kind.
use Rattle.std.proofs.Common.{◌≡◌, ℕ, Bool, true, false, cond, Option, Some, None, refl, ap, ◌∙◌}
use Rattle.std.specs.Prelude.{◌==◌, slice_get}
use Rattle.std.proofs.lemmas.Bool.{eqb-true}
use Rattle.call_table.specs.declared.kind.Kind.{Kind}
use Rattle.call_table.specs.declared.kind.Kind.TheVariants.{Begin, Exit, Note, Print, Random, Me, Send, Recv, TryRecv, Spawn, Yield, Join, Lock, Unlock, OnSignal, Thread as Number}
use Rattle.coop_threads.specs.Crew.{holder_of, status_of}
use Rattle.coop_threads.specs.Locks.{grip_of}
use Rattle.coop_threads.specs.declared.grip.Grip.TheVariants.{Already, Held}
use Rattle.coop_threads.specs.declared.status.Status.{Status}
use Rattle.coop_threads.specs.declared.status.Status.TheVariants.{Unknown, Live, Taken, Ended}
use Rattle.lib_calls.specs.Answer.{Answer}
use Rattle.lib_calls.specs.Effects.{is_good, minus_one}
use Rattle.lib_calls.specs.declared.entry.Call.{Call}
use Rattle.guest_signals.specs.Signals.{with_handler}
use Rattle.wasm_step.specs.Strand.{new_thread}
use Rattle.wasm_stack.specs.Thread.{Thread}
use Rattle.guest_process.specs.inside.Advancing.{acted_on_answer}
use Rattle.guest_process.specs.Answers.{Fixed, World, after_need, need_of_world, effects_of_answer, exited_process, handled, handler_given, handles_signal, is_lock_holder, joined, joins_standing, locked, asks_for_lock, narrow, spawnable, spawned, spawned_at_index, spawns_thread, unlocked, with_answer}
use Rattle.guest_process.specs.Start.{waiting_at}
use Rattle.guest_process.specs.State.{State, with_handlers, with_lock, with_new_thread, without_lock}

-- what holds with bad arguments and what holds where the world answers holds after a call that asks the world
pub asked_has : (Q : State → Type 0) (S : State) (c : Call) (S' : State) → Q S → Q S' → Q (after_need (need_of_world S c) S')
asked_has Q S c S' bad good = by_test (is_good c S.store.memory)
  where
    by_test : (b : Bool) → Q (after_need (cond b World (Fixed minus_one S)) S')
    by_test true = good
    by_test false = bad

joined_has : (Q : State → Type 0) (S : State) (t u : ℕ) (S' : State) → Q S → Q S' → Q (after_need (joined S t u) S')
joined_has Q S t u S' same other = by_test (u == t)
  where
    by_status : (status : Status) → Q (after_need (joins_standing S status) S')
    by_status Unknown = same
    by_status Live = other
    by_status Taken = other
    by_status Ended = same

    by_test : (b : Bool) → Q (after_need (cond b (Fixed minus_one S) (joins_standing S (status_of (slice_get S.crew.threads u)))) S')
    by_test true = same
    by_test false = by_status (status_of (slice_get S.crew.threads u))

locked_has : (Q : State → Type 0) (S : State) (m t : ℕ) (S' : State) → Q S → Q S' → (holder_of S.crew m ≡ None → Q (with_lock S m t)) → Q (after_need (locked S m t) S')
locked_has Q S m t S' same other taken = by_holder (holder_of S.crew m) refl
  where
    by_test : (holder : ℕ) (b : Bool) → Q (after_need (asks_for_lock S m t (cond b Already (Held holder))) S')
    by_test holder true = same
    by_test holder false = other

    by_holder : (o : Option ℕ) → holder_of S.crew m ≡ o → Q (after_need (asks_for_lock S m t (grip_of o t)) S')
    by_holder None free = taken free
    by_holder (Some holder) held = by_test holder (holder == t)

unlocked_has : (Q : State → Type 0) (S : State) (m t : ℕ) (S' : State) → Q S → (holder_of S.crew m ≡ Some t → Q (without_lock S m)) → Q (after_need (unlocked S m t) S')
unlocked_has Q S m t S' same freed = by_holder (holder_of S.crew m) refl
  where
    by_test : (holder : ℕ) (b : Bool) → (holder == t) ≡ b → holder_of S.crew m ≡ Some holder → Q (after_need (cond b (Fixed 0 (without_lock S m)) (Fixed minus_one S)) S')
    by_test holder true test held = freed (held ∙ ap Some (eqb-true holder t test))
    by_test holder false test held = same

    by_holder : (o : Option ℕ) → holder_of S.crew m ≡ o → Q (after_need (cond (is_lock_holder o t) (Fixed 0 (without_lock S m)) (Fixed minus_one S)) S')
    by_holder None free = same
    by_holder (Some holder) held = by_test holder (holder == t) refl held

handled_has : (Q : State → Type 0) (S : State) (signal number : ℕ) (S' : State) → Q S → ((h : Option ℕ) → handler_given S signal number ≡ Some h → Q (with_handlers S (with_handler S.handlers signal h))) → Q (after_need (handled S signal number) S')
handled_has Q S signal number S' same set = by_given (handler_given S signal number) refl
  where
    by_given : (o : Option (Option ℕ)) → handler_given S signal number ≡ o → Q (after_need (handles_signal S signal o) S')
    by_given None given = same
    by_given (Some h) given = set h given

spawned_has : (Q : State → Type 0) (S : State) (index arg : ℕ) (S' : State) → Q S → ((f : ℕ) → spawnable S index ≡ Some f → (thread : Thread) → new_thread S.store.«module» f arg ≡ Some thread → Q (with_new_thread S (waiting_at S.store.«module» thread))) → Q (after_need (spawned S index arg) S')
spawned_has Q S index arg S' same made = by_func (spawnable S index) refl
  where
    by_thread : (f : ℕ) → spawnable S index ≡ Some f → (o : Option Thread) → new_thread S.store.«module» f arg ≡ o → Q (after_need (spawns_thread S o) S')
    by_thread f found None starts = same
    by_thread f found (Some thread) starts = made f found thread starts

    by_func : (o : Option ℕ) → spawnable S index ≡ o → Q (after_need (spawned_at_index S arg o) S')
    by_func None found = same
    by_func (Some f) found = by_thread f found (new_thread S.store.«module» f arg) refl

-- what is to hold after the answers that change more than the memory
pub record Cases (Q : State → Type 0) (k : Kind) (S : State) (t : ℕ) (c : Call) : Type 0 where
  pub locks : k ≡ Lock → holder_of S.crew (narrow c.a0) ≡ None → Q (with_lock S (narrow c.a0) t)
  pub unlocks : k ≡ Unlock → holder_of S.crew (narrow c.a0) ≡ Some t → Q (without_lock S (narrow c.a0))
  pub handles : k ≡ OnSignal → (h : Option ℕ) → handler_given S (narrow c.a0) (narrow c.a1) ≡ Some h → Q (with_handlers S (with_handler S.handlers (narrow c.a0) h))
  pub spawns : k ≡ Spawn → (f : ℕ) → spawnable S (narrow c.a0) ≡ Some f → (thread : Thread) → new_thread S.store.«module» f (narrow c.a1) ≡ Some thread → Q (with_new_thread S (waiting_at S.store.«module» thread))

-- holds after each answer
pub effects_has : (Q : State → Type 0) (k : Kind) (S : State) (t : ℕ) (c : Call) (a : Answer) → Cases Q k S t c → Q S → Q (with_answer S c a) → (k ≡ Exit → Q (exited_process S t c.a0)) → Q (effects_of_answer k S t c a)
effects_has Q Exit S t c a cases same writes exits = exits refl
effects_has Q Random S t c a cases same writes exits = asked_has Q S c (with_answer S c a) same writes
effects_has Q Recv S t c a cases same writes exits = asked_has Q S c (with_answer S c a) same writes
effects_has Q TryRecv S t c a cases same writes exits = asked_has Q S c (with_answer S c a) same writes
effects_has Q Join S t c a cases same writes exits = joined_has Q S t (narrow c.a0) (with_answer S c a) same writes
effects_has Q Lock S t c a cases same writes exits = locked_has Q S (narrow c.a0) t (with_answer S c a) same writes (cases.locks refl)
effects_has Q Unlock S t c a cases same writes exits = unlocked_has Q S (narrow c.a0) t (with_answer S c a) same (cases.unlocks refl)
effects_has Q OnSignal S t c a cases same writes exits = handled_has Q S (narrow c.a0) (narrow c.a1) (with_answer S c a) same (cases.handles refl)
effects_has Q Spawn S t c a cases same writes exits = spawned_has Q S (narrow c.a0) (narrow c.a1) (with_answer S c a) same (cases.spawns refl)
effects_has Q Begin S t c a cases same writes exits = same
effects_has Q Note S t c a cases same writes exits = same
effects_has Q Print S t c a cases same writes exits = same
effects_has Q Me S t c a cases same writes exits = same
effects_has Q Send S t c a cases same writes exits = same
effects_has Q Yield S t c a cases same writes exits = same
effects_has Q Number S t c a cases same writes exits = same
effects_has Q _ S t c a cases same writes exits = writes

-- and but for the end of the thread
pub acted_has : (Q : State → Type 0) (k : Kind) (S : State) (t : ℕ) (c : Call) (a : Answer) → ((k : Kind) → Cases Q k S t c) → Q S → Q (with_answer S c a) → Q (acted_on_answer k S t c a)
acted_has Q Lock S t c a cases same writes = locked_has Q S (narrow c.a0) t S same same ((cases Lock).locks refl)
acted_has Q Unlock S t c a cases same writes = unlocked_has Q S (narrow c.a0) t S same ((cases Unlock).unlocks refl)
acted_has Q OnSignal S t c a cases same writes = handled_has Q S (narrow c.a0) (narrow c.a1) S same ((cases OnSignal).handles refl)
acted_has Q Spawn S t c a cases same writes = spawned_has Q S (narrow c.a0) (narrow c.a1) S same ((cases Spawn).spawns refl)
acted_has Q _ S t c a cases same writes = writes
