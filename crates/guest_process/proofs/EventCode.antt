-- What the code of an event rests on.
use Rattle.std.proofs.Common.{◌≡◌, ℕ, zero, suc, true, false, cond, List, [], ◌∷◌, ◌++◌, Option, Some, None, refl, ap, sym, subst, ◌∙◌}
use Rattle.std.specs.Prelude.{◌%◌, ◌^◌, slice_get, slice_set, option_and_then}
use Rattle.std.specs.Int.{w32, cast_signed}
use Rattle.coop_threads.specs.Crew.{Crew, IsTaken, live_at, status_of, value_of as value_in, with_slot}
use Rattle.coop_threads.specs.declared.slot.Slot.{Slot}
use Rattle.coop_threads.specs.declared.slot.Slot.TheVariants.{Kept, Lent, Over}
use Rattle.coop_threads.specs.declared.status.Status.TheVariants.{Taken}
use Rattle.lib_calls.specs.declared.entry.Call.{Call}
use Rattle.lib_calls.specs.declared.entry.Entry.{Entry}
use Rattle.guest_module.specs.Library.{kind_at}
use Rattle.wasm_types.specs.Modules.{module_of}
use Rattle.wasm_types.specs.declared.traps.Trap.TheVariants.{Exhausted, Unreachable}
use Rattle.wasm_stack.specs.After.{Halt, Calls, Ends, Traps, Sticks}
use Rattle.wasm_step.specs.Strand.{Strand, answered_strand}
use Rattle.wasm_step.specs.Burst.{burst}
use Rattle.wasm_store.specs.Suits.{SuitsModule}
use Rattle.wasm_step.specs.Laws.{KeepsModule}
use Rattle.wasm_stack.specs.Thread.{Thread, functions_of}
use Rattle.wasm_stack.specs.declared.call.CallSite.{CallSite}
use Rattle.guest_process.specs.declared.end.End.{End}
use Rattle.guest_process.specs.declared.end.End.TheVariants.{Exited, Trapped}
use Rattle.call_table.specs.declared.kind.Kind.{Kind}
use Rattle.call_table.specs.declared.kind.Kind.TheVariants.{Exit}
use Rattle.guest_process.specs.declared.body.Body.{Body}
use Rattle.guest_process.specs.declared.waiting.Waiting.{Waiting}
use Rattle.lib_calls.specs.Answer.{Answer, answer_of}
use Rattle.guest_process.specs.inside.Advancing.{acted_on_answer}
use Rattle.guest_process.specs.Answers.{effects_of_answer, exited_process, narrow}
use Rattle.guest_process.specs.Fits.{Each, StateFits}
use Rattle.guest_process.proofs.LiveThreads.{live_has}
use Rattle.guest_process.specs.GoesOn.{after_running, instruction_budget, with_event_counted, finished_if_all_over, handler, runs_handled, thread_runs_on, stands, stopped_thread, stopped_at_call, with_handler_frame}
use Rattle.guest_process.specs.Kinds.{ends_process, reply_value}
use Rattle.guest_process.specs.Legal.{reason, reason_at}
use Rattle.guest_process.specs.Next.{next, next_at_thread}
use Rattle.guest_process.specs.inside.Meanings.{BodyInvariant, state_of}
use Rattle.guest_process.specs.Sound.{IsSoundProcess, IsStandingAtCall}
use Rattle.guest_process.specs.Start.{waiting_at}
use Rattle.guest_process.specs.State.{State, awaits_event, is_running, thread_at, with_thread}
use Rattle.guest_process.proofs.EventMarks.{MarkLaws}
use Rattle.guest_process.proofs.KeptFits.{state_kept}
use Rattle.guest_process.proofs.KeptSound.{next_module, sound_kept}
use Rattle.guest_process.proofs.FirstFailure.{unless_none}
use Rattle.guest_process.proofs.LegalEntries.{call_told, legal_at}
use Rattle.guest_process.proofs.AnswerWrites.{effects_acted, exit_written}
use Rattle.guest_process.proofs.CallEffects.{acted_has}
use Rattle.guest_process.proofs.HandlerCalls.{AreHandlers, given_is, set_sound}

pub none_taken : (P : Waiting → Type 0) (slots : List (Slot Waiting)) (t : ℕ) → Each P slots → status_of (slice_get slots t) ≡ Taken → ⊥
none_taken P [] t f h = cc
none_taken P (Kept w ∷ slots) zero f h = cc
none_taken P (Lent ∷ slots) zero f h = f.0
none_taken P (Over ∷ slots) zero f h = cc
none_taken P (slot ∷ slots) (suc t) f h = none_taken P slots t f.1 h

-- ---- what is known of the thread of a legal entry

pub live_is : (S : State) (e : Entry) → reason S e ≡ None → thread_at S e.thread ≡ None → ⊥
live_is S e h none = by_thread (thread_at S e.thread) none (unless_none (is_running S) _ _ h).1
  where
    by_thread : (o : Option Waiting) → o ≡ None → reason_at S e o ≡ None → ⊥
    by_thread None n r = cc
    by_thread (Some w) n r = cc

pub stands_at : (S : State) (t : ℕ) (w : Waiting) → Each (IsStandingAtCall S.store.«module») S.crew.threads → thread_at S t ≡ Some w → IsStandingAtCall S.store.«module» w
stands_at S t w f at = live_has (IsStandingAtCall S.store.«module») S.crew.threads t f w at

pub is_out : (crew : Crew Waiting) (t : ℕ) (w : Waiting) → live_at crew t ≡ Some w → IsTaken (with_slot crew t Lent) t
is_out crew t w at = by_slots crew.threads t at
  where
    by_slots : (slots : List (Slot Waiting)) (t : ℕ) → option_and_then value_in (slice_get slots t) ≡ Some w → slice_get (slice_set slots t Lent) t ≡ Some Lent
    by_slots [] t at = cc
    by_slots (slot ∷ slots) zero at = refl
    by_slots (slot ∷ slots) (suc t) at = by_slots slots t at

-- ---- a thread that was taken out stops as one that was not

set_again : (slots : List (Slot Waiting)) (t : ℕ) (a b : Slot Waiting) → slice_set (slice_set slots t a) t b ≡ slice_set slots t b
set_again [] t a b = refl
set_again (slot ∷ slots) zero a b = refl
set_again (slot ∷ slots) (suc t) a b = ap (λ slots. slot ∷ slots) (set_again slots t a b)

with_again : (S : State) (t : ℕ) (slot : Slot Waiting) → with_thread (with_thread S t Lent) t slot ≡ with_thread S t slot
with_again S t slot = ap (λ slots. record S { crew = record S.crew { threads = slots } }) (set_again S.crew.threads t Lent slot)

abbrev ended : State → End → List ℕ → State
ended S end frames = record S { end = end; trap_frames = frames }

called_out : (S : State) (t : ℕ) (thread : Thread) (site : CallSite) (o : Option Kind) → stopped_at_call (with_thread S t Lent) t thread site o ≡ stopped_at_call S t thread site o
called_out S t thread site (Some kind) = with_again S t (Kept (stands S thread site kind))
called_out S t thread site None = ap (λ S'. ended S' (Trapped Unreachable) []) (with_again S t Over)

stopped_out : (S : State) (t : ℕ) (stop : Halt) → stopped_thread (with_thread S t Lent) t stop ≡ stopped_thread S t stop
stopped_out S t (Calls thread site) = called_out S t thread site (kind_at S.store.«module» site.func)
stopped_out S t Ends = ap (λ S'. finished_if_all_over S') (with_again S t Over)
stopped_out S t (Traps trap functions) = ap (λ S'. ended S' (Trapped trap) functions) (with_again S t Over)
stopped_out S t Sticks = ap (λ S'. ended S' (Trapped Unreachable) []) (with_again S t Over)

runs_out : (S : State) (t : ℕ) (thread : Thread) (o : Option Thread) → after_running (with_thread S t Lent) t thread o ≡ after_running S t thread o
runs_out S t thread None = ap (λ S'. ended S' (Trapped Exhausted) (functions_of thread)) (with_again S t Over)
runs_out S t thread (Some above) =
    let run = burst instruction_budget above S.store in
    stopped_out (record S { store = run.store }) t run.stop

exits_by : (k : Kind) (S : State) (t : ℕ) (w : Waiting) (a : Answer) (signal clock : ℕ) → w.call.kind ≡ k → ends_process k ≡ true
    → exited_process (with_event_counted (with_thread (acted_on_answer k S t w.call a) t Lent) t clock) t w.call.a0 ≡ thread_runs_on k (effects_of_answer k S t w.call a) t w.strand a.reply signal clock
exits_by Exit S t w a signal clock e h =
    ap (λ S'. exited_process (with_event_counted (with_thread S' t Lent) t clock) t w.call.a0) (exit_written S w.call a e)
    ∙ ap (λ S'. record (with_event_counted S' t clock) { end = Exited (cast_signed w32 (w.call.a0 % 2 ^ 32)) }) (with_again S t Over)
exits_by _ S t w a signal clock e h = cc

-- how a thread goes on that was taken out of the state after its answer
abbrev pub goes_out : Kind → State → ℕ → Strand → ℕ → ℕ → ℕ → State
goes_out k S t strand reply signal clock =
    runs_handled (with_event_counted (with_thread S t Lent) t clock) t (answered_strand strand (reply_value k reply)) signal

runs_by : (k : Kind) (S : State) (t : ℕ) (strand : Strand) (reply signal clock : ℕ) → ends_process k ≡ false → goes_out k S t strand reply signal clock ≡ thread_runs_on k S t strand reply signal clock
runs_by k S t strand reply signal clock h =
    let counted = with_event_counted S t clock in
    let answered = answered_strand strand (reply_value k reply) in
    runs_out counted t answered.thread (with_handler_frame S.store.«module» answered signal (handler S.handlers signal))
    ∙ ap (λ ends. cond ends counted (runs_handled counted t answered signal)) (sym h)

-- ---- what is done before the thread is taken out

-- a thread that is made leaves those that are there
kept_before : (slots : List (Slot Waiting)) (t : ℕ) (new w : Waiting) → option_and_then value_in (slice_get slots t) ≡ Some w → option_and_then value_in (slice_get (slots ++ Kept new ∷ []) t) ≡ Some w
kept_before [] t new w at = cc
kept_before (slot ∷ slots) zero new w at = at
kept_before (slot ∷ slots) (suc t) new w at = kept_before slots t new w at

-- the thread stands as it stood
same_thread : (k : Kind) (S : State) (t : ℕ) (c : Call) (a : Answer) (w : Waiting) → thread_at S t ≡ Some w → thread_at (acted_on_answer k S t c a) t ≡ Some w
same_thread k S t c a w at =
    acted_has (λ S'. thread_at S' t ≡ Some w) k S t c a (λ k. record { locks = λ e free. at; unlocks = λ e held. at; handles = λ e h given. at; spawns = λ e f found thread starts. kept_before S.crew.threads t (waiting_at S.store.«module» thread) w at }) at at

pub taken_is : (S : State) (e : Entry) (w : Waiting) → reason S e ≡ None → thread_at (acted_on_answer e.call.kind S e.thread e.call (answer_of e)) e.thread ≡ Some w → thread_at S e.thread ≡ Some w
taken_is S e w legal after = by_thread (thread_at S e.thread) refl
  where
    by_thread : (found : Option Waiting) → thread_at S e.thread ≡ found → thread_at S e.thread ≡ Some w
    by_thread None at = absurd (live_is S e legal at)
    by_thread (Some found) at = at ∙ sym (same_thread e.call.kind S e.thread e.call (answer_of e) found at) ∙ after

pub still_live : (S : State) (e : Entry) → reason S e ≡ None → thread_at (acted_on_answer e.call.kind S e.thread e.call (answer_of e)) e.thread ≡ None → ⊥
still_live S e legal after = by_thread (thread_at S e.thread) refl
  where
    by_thread : (found : Option Waiting) → thread_at S e.thread ≡ found → ⊥
    by_thread None at = live_is S e legal at
    by_thread (Some found) at = let there = same_thread e.call.kind S e.thread e.call (answer_of e) found at in cc

pub acted_module : (S : State) (e : Entry) → (acted_on_answer e.call.kind S e.thread e.call (answer_of e)).store.«module» ≡ S.store.«module»
acted_module S e =
    acted_has (λ S'. S'.store.«module» ≡ S.store.«module») e.call.kind S e.thread e.call (answer_of e) (λ k. record { locks = λ h free. refl; unlocks = λ h held. refl; handles = λ e h given. refl; spawns = λ e f found thread starts. refl }) refl refl

pub acted_events : (S : State) (e : Entry) → (acted_on_answer e.call.kind S e.thread e.call (answer_of e)).events ≡ S.events
acted_events S e =
    acted_has (λ S'. S'.events ≡ S.events) e.call.kind S e.thread e.call (answer_of e) (λ k. record { locks = λ h free. refl; unlocks = λ h held. refl; handles = λ e h given. refl; spawns = λ e f found thread starts. refl }) refl refl

pub acted_handlers : (S : State) (e : Entry) → AreHandlers S.store.«module» S.handlers → AreHandlers S.store.«module» (acted_on_answer e.call.kind S e.thread e.call (answer_of e)).handlers
acted_handlers S e sound =
    acted_has (λ S'. AreHandlers S.store.«module» S'.handlers) e.call.kind S e.thread e.call (answer_of e) (λ k. record {
      locks = λ h free. sound;
      unlocks = λ h held. sound;
      handles = λ h set given. set_sound S.store.«module» S.handlers (narrow e.call.a0) set (λ f is. given_is S (narrow e.call.a0) (narrow e.call.a1) f (given ∙ ap Some is)) sound;
      spawns = λ e f found thread starts. sound;
    })
    sound sound

-- the event of a thread that calls `exit`
pub exits : (S : State) (e : Entry) (w : Waiting) → reason S e ≡ None → thread_at S e.thread ≡ Some w → ends_process w.call.kind ≡ true
    → awaits_event (exited_process (with_event_counted (with_thread (acted_on_answer e.call.kind S e.thread e.call (answer_of e)) e.thread Lent) e.thread e.clock) e.thread w.call.a0) ≡ next S e
exits S e w legal at h =
    ap awaits_event (ap (λ call. exited_process (with_event_counted (with_thread (acted_on_answer call.kind S e.thread call (answer_of e)) e.thread Lent) e.thread e.clock) e.thread w.call.a0) (call_told S e w (legal_at S e w legal at))
    ∙ exits_by w.call.kind S e.thread w (answer_of e) e.signal e.clock refl h)
    ∙ ap (next_at_thread S e) (sym at)

-- the event of another
pub goes : (S : State) (e : Entry) (w : Waiting) → reason S e ≡ None → thread_at S e.thread ≡ Some w → ends_process w.call.kind ≡ false
    → awaits_event (goes_out w.call.kind (acted_on_answer e.call.kind S e.thread e.call (answer_of e)) e.thread w.strand e.reply e.signal e.clock) ≡ next S e
goes S e w legal at h =
    let effect = effects_acted w.call.kind S e.thread w.call (answer_of e) refl h in
    ap awaits_event (ap (λ call. goes_out w.call.kind (acted_on_answer call.kind S e.thread call (answer_of e)) e.thread w.strand e.reply e.signal e.clock) (call_told S e w (legal_at S e w legal at))
    ∙ ap (λ S'. goes_out w.call.kind S' e.thread w.strand e.reply e.signal e.clock) (sym effect)
    ∙ runs_by w.call.kind (effects_of_answer w.call.kind S e.thread w.call (answer_of e)) e.thread w.strand e.reply e.signal e.clock h)
    ∙ ap (next_at_thread S e) (sym at)

-- ---- the body after a legal entry's event is that of a process

pub process_kept : KeepsModule → MarkLaws → (p q : Body) (e : Entry) → BodyInvariant p → reason (state_of p) e ≡ None → state_of q ≡ next (state_of p) e → q.«module» ≡ p.«module» → SuitsModule q.store → BodyInvariant q
process_kept keeps marks p q e is h state same_module suits = record {
  suits = suits;
  same_module = ap (λ r. module_of r.now) same_module ∙ is.same_module ∙ sym (ap (λ S. S.store.«module») state ∙ next_module keeps (state_of p) e is.sound);
  fits = subst StateFits (sym state) (state_kept keeps marks (state_of p) e is.fits h);
  sound = subst IsSoundProcess (sym state) (sound_kept keeps (state_of p) e is.sound h);
}
