-- What an event does to the other threads, and to the locks.
use Rattle.std.proofs.Common.{◌≡◌, ◌≢◌, ℕ, zero, suc, ◌<◌, Bool, true, false, cond, List, [], ◌∷◌, ◌++◌, arith, length, Option, Some, None, refl, ap, sym, ◌∙◌, subst}
use Rattle.std.specs.Prelude.{◌==◌, slice_get}
use Rattle.std.specs.Cmp.{nat_cmp_total, unsigned_tied}
use Rattle.std.specs.FinMap as map
use Rattle.std.proofs.lemmas.Bool.{eqb-true}
use Rattle.std.proofs.lemmas.List.{length-set}
use Rattle.call_table.specs.declared.kind.Kind.TheVariants.{Spawn, Lock, Unlock}
use Rattle.coop_threads.specs.Crew.{holder_of}
use Rattle.coop_threads.specs.Locks.{LockHolders, holders_after}
use Rattle.coop_threads.specs.declared.slot.Slot.{Slot}
use Rattle.coop_threads.specs.declared.slot.Slot.TheVariants.{Kept, Over}
use Rattle.lib_calls.specs.Answer.{answer_of}
use Rattle.lib_calls.specs.declared.entry.Entry.{Entry}
use Rattle.wasm_step.specs.Laws.{KeepsModule}
use Rattle.wasm_store.specs.Store.{handler_at}
use Rattle.wasm_step.specs.Strand.{new_thread}
use Rattle.wasm_stack.specs.Thread.{Thread}
use Rattle.guest_process.specs.declared.waiting.Waiting.{Waiting}
use Rattle.guest_process.specs.Answers.{effects_of_answer, narrow, spawnable}
use Rattle.guest_process.specs.Crews.{AsMany, LockAfter, LockKept, Locked, ThreadCountAfter, OneMore, OnlySpawnAdds, OtherThreadsStay, Same, Unlocked}
use Rattle.guest_process.specs.Fits.{StateFits, WaitingFits}
use Rattle.guest_process.specs.GoesOn.{with_event_counted}
use Rattle.guest_process.specs.Legal.{entry_checks, reason_at}
use Rattle.guest_process.specs.Next.{next_at_thread}
use Rattle.guest_process.specs.Start.{waiting_at}
use Rattle.guest_process.specs.State.{State, is_running, thread_at, with_lock, with_new_thread, without_lock}
use Rattle.guest_process.proofs.KeptByEvents.{Keeps, Stand, affected, one_more, set_other, went_on}
use Rattle.guest_process.proofs.CallEffects.{effects_has}
use Rattle.guest_process.proofs.FirstFailure.{Hold, all_hold, unless_none}
use Rattle.guest_process.proofs.KeptFits.{begin_fits, stand_fits}
use Rattle.guest_process.proofs.OneEvent.{live_low}
use Rattle.guest_process.proofs.MadeThreads.{found_at, has_room}
use Rattle.guest_process.proofs.LegalEntries.{call_told}

-- what the thread changes that goes on after the answer
goes : KeepsModule → (S : State) (e : Entry) → StateFits S → (w : Waiting) → Keeps WaitingFits e.thread (with_event_counted (effects_of_answer w.call.kind S e.thread w.call (answer_of e)) e.thread e.clock) (next_at_thread S e (Some w))
goes keeps S e s w =
    let S' = effects_of_answer w.call.kind S e.thread w.call (answer_of e) in
    let n = affected WaitingFits w.call.kind S e.thread w.call (answer_of e) s.threads (begin_fits S.store.«module») in
    went_on WaitingFits keeps w.call.kind S' e.thread w e.reply e.signal e.clock n.threads (subst (Stand WaitingFits) (sym n.«module») (stand_fits S.store.«module»))

-- ---- the other threads

before_last : (slots : List (Slot Waiting)) (u : ℕ) (w : Waiting) → u < length slots → slice_get (slots ++ Kept w ∷ []) u ≡ slice_get slots u
before_last [] u w low = absurd (omega arith)
before_last (slot ∷ slots) zero w low = refl
before_last (slot ∷ slots) (suc u) w low = before_last slots u w (omega arith)

last : (slots : List (Slot Waiting)) (w : Waiting) → slice_get (slots ++ Kept w ∷ []) (length slots) ≡ Some (Kept w)
last [] w = refl
last (slot ∷ slots) w = last slots w

answer_others : (S : State) (e : Entry) (w : Waiting) (u : ℕ) → u ≢ e.thread → u < length S.crew.threads → slice_get (effects_of_answer w.call.kind S e.thread w.call (answer_of e)).crew.threads u ≡ slice_get S.crew.threads u
answer_others S e w u other low =
    effects_has (λ S'. slice_get S'.crew.threads u ≡ slice_get S.crew.threads u) w.call.kind S e.thread w.call (answer_of e)
    (record { locks = λ k free. refl; unlocks = λ k held. refl; handles = λ k h given. refl; spawns = λ k f found thread starts. before_last S.crew.threads u (waiting_at S.store.«module» thread) low })
    refl refl (λ k. set_other S.crew.threads e.thread u Over other)

others_at : KeepsModule → (S : State) (e : Entry) → StateFits S → (o : Option Waiting) → reason_at S e o ≡ None → (u : ℕ) → u ≢ e.thread → u < length S.crew.threads → slice_get (next_at_thread S e o).crew.threads u ≡ slice_get S.crew.threads u
others_at keeps S e s None h u other low = cc
others_at keeps S e s (Some w) h u other low = (goes keeps S e s w).others u other ∙ answer_others S e w u other low

-- the other threads stay as they were
pub others_kept : KeepsModule → OtherThreadsStay
others_kept keeps S e s h = others_at keeps S e s (thread_at S e.thread) (unless_none (is_running S) _ _ h).1

-- ---- the threads that are made

-- the thread's call is of this kind
told_kind : (S : State) (e : Entry) (w : Waiting) → Hold (entry_checks S e w) → e.call.kind ≡ w.call.kind
told_kind S e w holds = ap (λ call. call.kind) (call_told S e w holds)

thread_made : (S : State) (e : Entry) (w : Waiting) (f : ℕ) (thread : Thread) → e.call.kind ≡ Spawn → e.call ≡ w.call → spawnable S (narrow w.call.a0) ≡ Some f → new_thread S.store.«module» f (narrow w.call.a1) ≡ Some thread → ThreadCountAfter S e (with_new_thread S (waiting_at S.store.«module» thread))
thread_made S e w f thread kind call found starts = OneMore (record {
  func = f;
  thread = thread;
  kind = kind;
  room = has_room S (narrow w.call.a0) f found;
  found = ap (λ call. handler_at S.store (narrow call.a0)) call ∙ found_at S (narrow w.call.a0) f found;
  starts = ap (λ call. new_thread S.store.«module» f (narrow call.a1)) call ∙ starts;
  one_more = one_more S.crew.threads (waiting_at S.store.«module» thread);
  made = last S.crew.threads (waiting_at S.store.«module» thread);
})

-- the thread that goes on is another
made_later : (S S' S'' : State) (e : Entry) → e.thread < length S.crew.threads → length S''.crew.threads ≡ length S'.crew.threads → ((u : ℕ) → u ≢ e.thread → slice_get S''.crew.threads u ≡ slice_get S'.crew.threads u) → ThreadCountAfter S e S' → ThreadCountAfter S e S''
made_later S S' S'' e low same others (AsMany h) = AsMany (same ∙ h)
made_later S S' S'' e low same others (OneMore n) = OneMore (record {
  func = n.func;
  thread = n.thread;
  kind = n.kind;
  room = n.room;
  found = n.found;
  starts = n.starts;
  one_more = same ∙ n.one_more;
  made = others (length S.crew.threads) (λ is. absurd (omega (arith, low, is))) ∙ n.made;
})

made_at : KeepsModule → (S : State) (e : Entry) → StateFits S → (o : Option Waiting) → thread_at S e.thread ≡ o → reason_at S e o ≡ None → ThreadCountAfter S e (next_at_thread S e o)
made_at keeps S e s None at h = cc
made_at keeps S e s (Some w) at h =
    let holds = all_hold (entry_checks S e w) h in
    let call = call_told S e w holds in
    let kind = told_kind S e w holds in
    let later = goes keeps S e s w in
    made_later S (effects_of_answer w.call.kind S e.thread w.call (answer_of e)) (next_at_thread S e (Some w)) e (live_low S.crew.threads e.thread w at) later.room later.others
    (effects_has (ThreadCountAfter S e) w.call.kind S e.thread w.call (answer_of e)
    (record {
      locks = λ k free. AsMany refl;
      unlocks = λ k held. AsMany refl;
      handles = λ k h given. AsMany refl;
      spawns = λ k f found thread starts. thread_made S e w f thread (kind ∙ k) call found starts;
    })
    (AsMany refl) (AsMany refl) (λ k. AsMany (length-set S.crew.threads e.thread Over)))

-- only `spawn` makes a thread
pub spawn_adds : KeepsModule → OnlySpawnAdds
spawn_adds keeps S e s h = made_at keeps S e s (thread_at S e.thread) refl (unless_none (is_running S) _ _ h).1

-- ---- the locks

get_insert : (holders : LockHolders) (m n q : ℕ) → map.get (map.insert holders m n) q ≡ cond (q == m) (Some n) (map.get holders q)
get_insert holders m n q = map.get-insert nat_cmp_total holders m n q ∙ ap (λ (b : Bool). cond b (Some n) (map.get holders q)) (unsigned_tied q m)

get_remove : (holders : LockHolders) (m q : ℕ) → map.get (map.remove holders m) q ≡ cond (q == m) None (map.get holders q)
get_remove holders m q = map.get-remove nat_cmp_total holders m q ∙ ap (λ (b : Bool). cond b None (map.get holders q)) (unsigned_tied q m)

lock_taken : (S : State) (e : Entry) (w : Waiting) (m : ℕ) → e.call.kind ≡ Lock → e.call ≡ w.call → holder_of S.crew (narrow w.call.a0) ≡ None → LockAfter S e m (with_lock S (narrow w.call.a0) e.thread)
lock_taken S e w m kind call free = by_test (m == narrow w.call.a0) refl
  where
    held : holder_of (with_lock S (narrow w.call.a0) e.thread).crew m ≡ cond (m == narrow w.call.a0) (Some e.thread) (holder_of S.crew m)
    held =
        ap (λ o. map.get (holders_after S.crew.holders (narrow w.call.a0) e.thread o) m) free
        ∙ get_insert S.crew.holders (narrow w.call.a0) e.thread m

    by_test : (b : Bool) → (m == narrow w.call.a0) ≡ b → LockAfter S e m (with_lock S (narrow w.call.a0) e.thread)
    by_test true test =
        let is : m ≡ narrow w.call.a0 = eqb-true m (narrow w.call.a0) test in
        Locked (record {
          kind = kind;
          lock = ap (λ call. narrow call.a0) call ∙ sym is;
          free = ap (holder_of S.crew) is ∙ free;
          held = held ∙ ap (λ b. cond b (Some e.thread) (holder_of S.crew m)) test;
        })
    by_test false test = Same (held ∙ ap (λ b. cond b (Some e.thread) (holder_of S.crew m)) test)

lock_freed : (S : State) (e : Entry) (w : Waiting) (m : ℕ) → e.call.kind ≡ Unlock → e.call ≡ w.call → holder_of S.crew (narrow w.call.a0) ≡ Some e.thread → LockAfter S e m (without_lock S (narrow w.call.a0))
lock_freed S e w m kind call held = by_test (m == narrow w.call.a0) refl
  where
    freed : holder_of (without_lock S (narrow w.call.a0)).crew m ≡ cond (m == narrow w.call.a0) None (holder_of S.crew m)
    freed = get_remove S.crew.holders (narrow w.call.a0) m

    by_test : (b : Bool) → (m == narrow w.call.a0) ≡ b → LockAfter S e m (without_lock S (narrow w.call.a0))
    by_test true test =
        let is : m ≡ narrow w.call.a0 = eqb-true m (narrow w.call.a0) test in
        Unlocked (record {
          kind = kind;
          lock = ap (λ call. narrow call.a0) call ∙ sym is;
          held = ap (holder_of S.crew) is ∙ held;
          free = freed ∙ ap (λ b. cond b None (holder_of S.crew m)) test;
        })
    by_test false test = Same (freed ∙ ap (λ b. cond b None (holder_of S.crew m)) test)

-- what the answer does to a lock stays as the thread goes on
lock_later : (S S' S'' : State) (e : Entry) (m : ℕ) → S''.crew.holders ≡ S'.crew.holders → LockAfter S e m S' → LockAfter S e m S''
lock_later S S' S'' e m same (Same h) = Same (ap (λ holders. map.get holders m) same ∙ h)
lock_later S S' S'' e m same (Locked l) =
    Locked (record { kind = l.kind; lock = l.lock; free = l.free; held = ap (λ holders. map.get holders m) same ∙ l.held })
lock_later S S' S'' e m same (Unlocked l) =
    Unlocked (record { kind = l.kind; lock = l.lock; held = l.held; free = ap (λ holders. map.get holders m) same ∙ l.free })

lock_at : KeepsModule → (S : State) (e : Entry) → StateFits S → (o : Option Waiting) → thread_at S e.thread ≡ o → reason_at S e o ≡ None → (m : ℕ) → LockAfter S e m (next_at_thread S e o)
lock_at keeps S e s None at h m = cc
lock_at keeps S e s (Some w) at h m =
    let holds = all_hold (entry_checks S e w) h in
    let call = call_told S e w holds in
    let kind = told_kind S e w holds in
    let S' = effects_of_answer w.call.kind S e.thread w.call (answer_of e) in
    lock_later S S' (next_at_thread S e (Some w)) e m (goes keeps S e s w).holders
    (effects_has (LockAfter S e m) w.call.kind S e.thread w.call (answer_of e)
    (record {
      locks = λ k free. lock_taken S e w m (kind ∙ k) call free;
      unlocks = λ k held. lock_freed S e w m (kind ∙ k) call held;
      handles = λ k h given. Same refl;
      spawns = λ k f found thread starts. Same refl;
    })
    (Same refl) (Same refl) (λ k. Same refl))

-- no event but its holder's `unlock` takes a lock away
pub locks_kept : KeepsModule → LockKept
locks_kept keeps S e s h = lock_at keeps S e s (thread_at S e.thread) refl (unless_none (is_running S) _ _ h).1
