-- A recorded event agrees with its replay.
use Rattle.std.proofs.Common.{◌≡◌, ℕ, zero, suc, ◌+◌, ◌<◌, ◌≤◌, ◌^◌, Bool, true, false, ◌&&◌, ◌||◌, not, cond, List, [], ◌∷◌, length, Option, Some, None, refl, ap, subst, arith, inl, inr, ⊎_elim}
use Rattle.std.specs.Prelude.{◌==◌, nat_le, is_some, slice_get, option_and_then}
use Rattle.std.proofs.lemmas.Bool.{and_parts, and_from, or_right, le-leb as le-leb', eqb-true, leb-true, or_cases}
use Rattle.std.proofs.lemmas.Option.{same_Some}
use Rattle.std.proofs.lemmas.Slice.Eq.{bytes_eq-Decides}
use Rattle.call_table.specs.Table.{row}
use Rattle.coop_threads.specs.Crew.{most_threads, value_of}
use Rattle.coop_threads.specs.declared.slot.Slot.{Slot}
use Rattle.lamport_tag.specs.Laws.{IsFromGroup, StaysUntagged}
use Rattle.lamport_tag.specs.Tag.{clock_of, next_clock_of}
use Rattle.lib_calls.specs.declared.entry.Call.{Call}
use Rattle.lib_calls.specs.Effects.{outgoing_of}
use Rattle.lib_calls.specs.Entry.{IsStringIf, IsTagIf}
use Rattle.call_table.specs.declared.kind.Kind.{Kind}
use Rattle.guest_signals.specs.Signals.{most_signal}
use Rattle.guest_process.specs.declared.waiting.Waiting.{Waiting}
use Rattle.guest_process.specs.Answers.{Need, Fixed, Blocked, World, need, is_possible, with_answer, after_need, effects_of_answer}
use Rattle.guest_process.specs.Fits.{EnvFits, StateFits, WaitingFits}
use Rattle.guest_process.proofs.LiveThreads.{live_has}
use Rattle.guest_process.specs.GoesOn.{thread_goes_on, handler}
use Rattle.guest_process.specs.Kinds.{ends_process}
use Rattle.guest_process.specs.Legal.{entry_checks, need_gives_answer, is_handled, reason_at}
use Rattle.guest_process.specs.Live.{Env, Event, AnsweredCall, answered_now, as_given, chosen_signal, event, from_world, event_of_waiting, live, lowest_signal, world_answer}
use Rattle.guest_process.specs.OneEvent.{AgreesWithEvent, BearsLowest, LowestFirst, OneEvent, with_signal}
use Rattle.guest_process.specs.State.{State, is_running, thread_at}
use Rattle.guest_process.proofs.FirstFailure.{same, kept, mapped, none_failing, all_hold, unless_none, lowest_holds, lowest_least}
use Rattle.guest_process.proofs.Outgoing.{outgoing_fits}
use Rattle.guest_process.proofs.EachKind.{no_bytes, no_tag, ReplyFits, reply_fits, world_matches}
use Rattle.guest_process.proofs.AnswerWrites.{given_written}

pub live_low : (slots : List (Slot Waiting)) (t : ℕ) (w : Waiting) → option_and_then value_of (slice_get slots t) ≡ Some w → t < length slots
live_low [] t w h = cc
live_low (slot ∷ slots) zero w h = omega arith
live_low (slot ∷ slots) (suc t) w h = omega (arith, live_low slots t w h)

-- what the laws of the kinds say together
record Answers (k : Kind) (S : State) (c : Call) (n : Need) (a : AnsweredCall) : Type 0 where
  pub possible : need_gives_answer n a.answer (is_possible k S c a.answer) ≡ true
  pub same : after_need n (with_answer S c a.answer) ≡ a.after
  pub reply : a.answer.reply < 2 ^ 64
  pub incoming : IsStringIf (row k).entry.incoming a.answer.incoming
  pub tag : IsTagIf (row k).entry.tag a.answer.tag
  pub clock : clock_of a.answer.tag ≤ 2 ^ 62

answered_holds : StaysUntagged → IsFromGroup → (k : Kind) (S : State) (t : ℕ) (c : Call) (env : Env) → S.count ≤ 16 → EnvFits env → c.kind ≡ k → (n : Need) → need k S t c ≡ n → ReplyFits n → (a : AnsweredCall) → answered_now n (from_world k S c env) ≡ Some a → Answers k S c n a
answered_holds stays sent k S t c env few e is (Fixed r S') need_is fits a h =
    subst (Answers k S c (Fixed r S')) (same_Some _ _ h) (record {
      possible = and_from _ _ (same r) refl;
      same = refl;
      reply = fits;
      incoming = no_bytes _;
      tag = no_tag _;
      clock = omega arith;
    })
answered_holds stays sent k S t c env few e is Blocked need_is fits a h = cc
answered_holds stays sent k S t c env few e is World need_is fits a h =
    let w = mapped (as_given k S c) (world_answer k c S.count env) a h in
    let m = world_matches stays sent k S t c env few e is need_is w.0 w.1 in
    subst (Answers k S c World) w.2 (record {
      possible = m.possible;
      same = given_written k S t c w.0 is need_is;
      reply = m.reply;
      incoming = m.incoming;
      tag = m.tag;
      clock = m.clock;
    })

handled_at : (p : ℕ → Bool) (pending : Bool) (s : ℕ) → (pending && p s) ≡ true → s < 1 + most_signal → ((s == 0) || (true && (nat_le s most_signal && p s))) ≡ true
handled_at p pending s h low = or_right _ _ (and_from _ _ (le-leb' s most_signal (omega arith)) (and_parts _ _ h).1)

handled_by : (p q : ℕ → Bool) (b : Bool) (n : ℕ) → n ≡ cond b 0 (lowest_signal (λ s. q s && p s) most_signal 1) → ((n == 0) || (not b && (nat_le n most_signal && p n))) ≡ true
handled_by p q true n is = rw is refl
handled_by p q false n is =
    rw is (elim (lowest_holds (λ s. q s && p s) most_signal 1) [ inl h ↦ rw h refl | inr h ↦ handled_at p (q (lowest_signal (λ s. q s && p s) most_signal 1)) (lowest_signal (λ s. q s && p s) most_signal 1) h.0 h.1 ])

chosen_handled : (k : Kind) (handlers : List (Option ℕ)) (pending : ℕ → Bool) → is_handled k handlers (chosen_signal k handlers pending) ≡ true
chosen_handled k handlers pending =
    handled_by (λ s. is_some (handler handlers s)) pending (ends_process k) (chosen_signal k handlers pending) refl

chosen_low : (p : ℕ → Bool) (b : Bool) → cond b 0 (lowest_signal p most_signal 1) < 2 ^ 8
chosen_low p true = omega arith
chosen_low p false = elim (lowest_holds p most_signal 1) [ inl h ↦ omega arith | inr h ↦ omega (arith, h.1) ]

event_agrees : (S : State) (t : ℕ) (w : Waiting) (env : Env) → StateFits S → S.events < 2 ^ 61 → is_running S ≡ true → thread_at S t ≡ Some w → WaitingFits w → (a : AnsweredCall) → Answers w.call.kind S w.call (need w.call.kind S t w.call) a → AgreesWithEvent S (event S t env w a)
event_agrees S t w env s few running stands fits a m =
    let k = w.call.kind in
    let now = event S t env w a in
    let effect : effects_of_answer k S t w.call a.answer ≡ a.after = m.same in
    let handled : is_handled k (effects_of_answer k S t w.call a.answer).handlers now.entry.signal ≡ true = rw effect (chosen_handled k a.after.handlers env.pending) in
    record {
      shape = record {
        clock = omega (arith, s.clock, m.clock);
        thread = omega (arith, live_low S.crew.threads t w stands, s.room);
        signal = chosen_low _ (ends_process k);
        arguments = fits.arguments;
        reply = m.reply;
        outgoing = outgoing_fits w.call S.store.memory;
        incoming = m.incoming;
        tag = m.tag;
      };
      legal = rw (running, stands) (none_failing (entry_checks S now.entry w) (record {
        call = same (row w.call.kind).number;
        arguments = and_from _ _ (same w.call.a0) (and_from _ _ (same w.call.a1) (same w.call.a2));
        bytes = (bytes_eq-Decides (outgoing_of w.call S.store.memory) (outgoing_of w.call S.store.memory)).1 refl;
        reply = m.possible;
        handler = handled;
        clock = same (next_clock_of S.clock a.answer.tag);
      }));
      same = rw stands (ap (λ S'. thread_goes_on k S' t w.strand a.answer.reply now.entry.signal now.entry.clock) effect);
    }

-- ---- the lowest signal

chosen_first : (p q : ℕ → Bool) (b : Bool) (s : ℕ) → 1 ≤ s → q s ≡ true → ((s == 0) || (not b && (nat_le s most_signal && p s))) ≡ true
    → (1 ≤ cond b 0 (lowest_signal (λ r. q r && p r) most_signal 1)) × (cond b 0 (lowest_signal (λ r. q r && p r) most_signal 1) ≤ s)
chosen_first p q b s least is h = by_ends b (⊎_elim (λ none. absurd (let zero_is = eqb-true s 0 none in omega arith)) (λ e. e) (or_cases (s == 0) (not b && (nat_le s most_signal && p s)) h)) where
  by_ends : (b : Bool) → (not b && (nat_le s most_signal && p s)) ≡ true
      → (1 ≤ cond b 0 (lowest_signal (λ r. q r && p r) most_signal 1)) × (cond b 0 (lowest_signal (λ r. q r && p r) most_signal 1) ≤ s)
  by_ends true e = absurd cc
  by_ends false e =
      let parts = and_parts (nat_le s most_signal) (p s) e in
      lowest_least (λ r. q r && p r) most_signal 1 s (omega arith) least (omega (arith, leb-true s most_signal parts.0)) (and_from (q s) (p s) is parts.1)

chosen_pending : (p q : ℕ → Bool) (b : Bool) → 1 ≤ cond b 0 (lowest_signal (λ r. q r && p r) most_signal 1) → q (cond b 0 (lowest_signal (λ r. q r && p r) most_signal 1)) ≡ true
chosen_pending p q true some = absurd (omega arith)
chosen_pending p q false some = elim (lowest_holds (λ r. q r && p r) most_signal 1) [ inl none ↦ absurd (omega arith) | inr h ↦ (and_parts _ _ h.0).0 ]

event_lowest : (S : State) (t : ℕ) (w : Waiting) (env : Env) → is_running S ≡ true → thread_at S t ≡ Some w → (a : AnsweredCall) → effects_of_answer w.call.kind S t w.call a.answer ≡ a.after
    → BearsLowest S env (event S t env w a).entry
event_lowest S t w env running stands a effect =
    let k = w.call.kind in
    let e = (event S t env w a).entry in
    let handled : ℕ → Bool = λ s. is_some (handler a.after.handlers s) in record {
      pending = chosen_pending handled env.pending (ends_process k);
      first = λ signal least pending legal.
          let at : reason_at S (with_signal e signal) (thread_at S t) ≡ None = (unless_none (is_running S) _ _ legal).1 in
          let here : reason_at S (with_signal e signal) (Some w) ≡ None = subst (λ (o : Option Waiting). reason_at S (with_signal e signal) o ≡ None) stands at in
          let is : is_handled k (effects_of_answer k S t w.call a.answer).handlers signal ≡ true = (all_hold (entry_checks S (with_signal e signal) w) here).handler in
          chosen_first handled env.pending (ends_process k) signal least pending (subst (λ (S' : State). is_handled k S'.handlers signal ≡ true) effect is);
    }

-- ---- one try

-- what is said of the event of a try
abbrev IsSaid : State → Env → Event → Type 0
IsSaid S env e = AgreesWithEvent S e × BearsLowest S env e.entry

one_at : StaysUntagged → IsFromGroup → (S : State) (t : ℕ) (env : Env) → StateFits S → S.events < 2 ^ 61 → EnvFits env → is_running S ≡ true → (o : Option Waiting) → thread_at S t ≡ o → (e : Event) → event_of_waiting S t env o ≡ Some e → IsSaid S env e
one_at stays sent S t env s few f running None stands e h = cc
one_at stays sent S t env s few f running (Some w) stands e h =
    let k = w.call.kind in
    let m = mapped (event S t env w) (answered_now (need k S t w.call) (from_world k S w.call env)) e h in
    let fits : WaitingFits w = live_has WaitingFits S.crew.threads t s.threads w stands in
    let low : t < most_threads = omega (arith, live_low S.crew.threads t w stands, s.room) in
    let n = need k S t w.call in
    let holds = answered_holds stays sent k S t w.call env s.count f refl n refl (reply_fits k S t w.call s low fits.arguments) m.0 m.1 in
    subst (IsSaid S env) m.2 (event_agrees S t w env s few running stands fits m.0 holds, event_lowest S t w env running stands m.0 holds.same)

said : StaysUntagged → IsFromGroup → (S : State) (t : ℕ) (env : Env) → StateFits S → S.events < 2 ^ 61 → EnvFits env → (e : Event) → live S t env ≡ Some e → IsSaid S env e
said stays sent S t env s few f e h =
    let k = kept _ _ _ h in
    one_at stays sent S t env s few f (and_parts _ _ k.0).1 (thread_at S t) refl e k.1

pub one_event : StaysUntagged → IsFromGroup → OneEvent
one_event stays sent S t env s few f e h = (said stays sent S t env s few f e h).0

pub lowest_first : StaysUntagged → IsFromGroup → LowestFirst
lowest_first stays sent S t env s few f e h = (said stays sent S t env s few f e h).1
