-- Signals: which are ready after an answer, and that an event depends on the pending ones from 1 to 31 alone.
use Rattle.std.proofs.Common.{◌≡◌, ℕ, zero, suc, ◌+◌, ◌-◌, ◌<◌, ◌≤◌, Bool, true, false, ◌&&◌, not, cond, List, Option, Some, None, refl, ap, sym, ◌∙◌, arith}
use Rattle.std.specs.Prelude.{◌==◌, is_some, option_map}
use Rattle.std.proofs.lemmas.Option.{same_Some}
use Rattle.call_table.specs.declared.kind.Kind.{Kind}
use Rattle.call_table.specs.declared.kind.Kind.TheVariants.{Now, SleepUntil, Random, Recv, TryRecv}
use Rattle.lamport_tag.specs.Tag.{next_clock_of}
use Rattle.lib_calls.specs.Answer.{Answer}
use Rattle.lib_calls.specs.Effects.{minus_two, with_received}
use Rattle.lib_calls.specs.declared.entry.Call.{Call}
use Rattle.guest_process.specs.declared.waiting.Waiting.{Waiting}
use Rattle.guest_process.specs.Answers.{Need, Fixed, Blocked, World, after_need, effects_of_answer, need, with_answer}
use Rattle.guest_process.specs.GoesOn.{handler}
use Rattle.guest_process.specs.Kinds.{ends_process}
use Rattle.guest_process.specs.Live.{AnsweredCall, Env, answered_now, as_given, chosen_signal, event, event_by, event_of_waiting, from_world, with_given, is_ready_signal, live, lowest_signal, world_answer}
use Rattle.guest_process.specs.Meanings.{answered_at}
use Rattle.guest_process.specs.State.{State, is_running, thread_at, with_memory}
use Rattle.group_record.specs.inside.Around.{handlers_at, signal_with_answer}

-- ---- the handlers after an answer

given_handlers : (k : Kind) (S : State) (c : Call) (a : Answer) → (with_given k S c a).handlers ≡ S.handlers
given_handlers TryRecv S c a = by_test (a.reply == minus_two)
  where
    by_test : (none : Bool) → (cond none S (with_memory S (with_received c a S.store.memory))).handlers ≡ S.handlers
    by_test true = refl
    by_test false = refl
given_handlers _ S c a = refl

-- the world changes none
world_handlers : (k : Kind) (S : State) (c : Call) (o : Option Answer) (x : AnsweredCall) → option_map (as_given k S c) o ≡ Some x → x.after.handlers ≡ S.handlers
world_handlers k S c None x h = cc
world_handlers k S c (Some a) x h = sym (ap (λ (x : AnsweredCall). x.after.handlers) (same_Some _ _ h)) ∙ given_handlers k S c a

need_handlers : (n : Need) (world : Option AnsweredCall) (W : State) (x : AnsweredCall) → ((x : AnsweredCall) → world ≡ Some x → x.after.handlers ≡ W.handlers)
    → answered_now n world ≡ Some x → x.after.handlers ≡ (after_need n W).handlers
need_handlers (Fixed reply S) world W x kept h = sym (ap (λ (x : AnsweredCall). x.after.handlers) (same_Some _ _ h))
need_handlers Blocked world W x kept h = cc
need_handlers World world W x kept h = kept x h

-- so process and call determine them
pub handlers_after : (k : Kind) (S : State) (t : ℕ) (c : Call) (env : Env) (x : AnsweredCall) (a : Answer) → answered_now (need k S t c) (from_world k S c env) ≡ Some x
    → x.after.handlers ≡ (effects_of_answer k S t c a).handlers
handlers_after k S t c env x a h = need_handlers (need k S t c) (from_world k S c env) (with_answer S c a) x (λ x is. world_handlers k S c (world_answer k c S.count env) x is) h

-- and the signal that is delivered
pub chosen_is : (S : State) (t : ℕ) (a : Answer) (w : Waiting) (c : Call) (pending : ℕ → Bool) (handlers : List (Option ℕ)) → thread_at S t ≡ Some w
    → c.kind ≡ w.call.kind → handlers ≡ (effects_of_answer w.call.kind S t w.call a).handlers → chosen_signal w.call.kind handlers pending ≡ signal_with_answer S t a c pending
chosen_is S t a w c pending handlers there kind are =
    ap (λ (hs : List (Option ℕ)). chosen_signal w.call.kind hs pending) (are ∙ sym (ap (λ (o : Option Waiting). (answered_at S t a o).handlers) there))
    ∙ sym (ap (λ (k : Kind). chosen_signal k (handlers_at S t a) pending) kind)

-- ---- the lowest

-- the next number is tried
lowest_next : (p : ℕ → Bool) (s : ℕ) → s < 32 → lowest_signal p (32 - s) s ≡ cond (p s) s (lowest_signal p (32 - (s + 1)) (s + 1))
unfolding lowest_signal
lowest_next p s within = let more : 32 - s ≡ suc (32 - (s + 1)) = omega (arith, within) in rw more refl

pub lowest_found : (p : ℕ → Bool) (s : ℕ) → s < 32 → p s ≡ true → lowest_signal p (32 - s) s ≡ s
lowest_found p s within holds = lowest_next p s within ∙ ap (λ b. cond b s (lowest_signal p (32 - (s + 1)) (s + 1))) holds

pub lowest_past : (p : ℕ → Bool) (s : ℕ) → s < 32 → p s ≡ false → lowest_signal p (32 - s) s ≡ lowest_signal p (32 - (s + 1)) (s + 1)
lowest_past p s within fails = lowest_next p s within ∙ ap (λ b. cond b s (lowest_signal p (32 - (s + 1)) (s + 1))) fails

pub lowest_none : (p : ℕ → Bool) (s : ℕ) → 32 ≤ s → lowest_signal p (32 - s) s ≡ 0
unfolding lowest_signal
lowest_none p s past = let none : 32 - s ≡ 0 = omega (arith, past) in rw none refl

-- where none holds
lowest_nowhere : (p : ℕ → Bool) (n s : ℕ) → ((r : ℕ) → p r ≡ false) → lowest_signal p n s ≡ 0
unfolding lowest_signal
lowest_nowhere p zero s none = refl
lowest_nowhere p (suc n) s none = ap (λ b. cond b s (lowest_signal p n (s + 1))) (none s) ∙ lowest_nowhere p n (s + 1) none

-- no signal is ready where none is pending
pub none_ready : (handlers : List (Option ℕ)) (pending : ℕ → Bool) → ((s : ℕ) → pending s ≡ false) → lowest_signal (is_ready_signal handlers pending) 31 1 ≡ 0
none_ready handlers pending none = lowest_nowhere (is_ready_signal handlers pending) 31 1 (λ s. ap (λ (is : Bool). is && is_some (handler handlers s)) (none s))

lowest_same : (p q : ℕ → Bool) (n s : ℕ) → 1 ≤ s → s + n ≤ 32 → ((r : ℕ) → 1 ≤ r → r ≤ 31 → p r ≡ q r) → lowest_signal p n s ≡ lowest_signal q n s
unfolding lowest_signal
lowest_same p q zero s first last same = refl
lowest_same p q (suc n) s first last same =
    ap (λ b. cond b s (lowest_signal p n (s + 1))) (same s first (omega (arith, last)))
    ∙ ap (λ m. cond (q s) s m) (lowest_same p q n (s + 1) (omega arith) (omega (arith, last)) same)

-- ---- which are pending

abbrev pub with_signals : Env → (ℕ → Bool) → Env
with_signals env pending = record env { pending = pending }

chosen_same : (k : Kind) (handlers : List (Option ℕ)) (p q : ℕ → Bool) → ((r : ℕ) → 1 ≤ r → r ≤ 31 → p r ≡ q r) → chosen_signal k handlers p ≡ chosen_signal k handlers q
chosen_same k handlers p q same =
    ap (λ n. cond (ends_process k) 0 n)
    (lowest_same (is_ready_signal handlers p) (is_ready_signal handlers q) 31 1 (omega arith) (omega arith)
    (λ r first last. ap (λ b. b && is_some (handler handlers r)) (same r first last)))

from_world_same : (k : Kind) (S : State) (c : Call) (env : Env) (pending : ℕ → Bool) → from_world k S c (with_signals env pending) ≡ from_world k S c env
from_world_same Now S c env pending = refl
from_world_same SleepUntil S c env pending = refl
from_world_same Random S c env pending = refl
from_world_same Recv S c env pending = refl
from_world_same TryRecv S c env pending = refl
from_world_same _ S c env pending = refl

mapped_same : (S : State) (t : ℕ) (env : Env) (pending : ℕ → Bool) (w : Waiting) (o : Option AnsweredCall) → ((r : ℕ) → 1 ≤ r → r ≤ 31 → pending r ≡ env.pending r)
    → option_map (event S t (with_signals env pending) w) o ≡ option_map (event S t env w) o
mapped_same S t env pending w None same = refl
mapped_same S t env pending w (Some x) same =
    ap (λ signal. Some (event_by S t w x signal (next_clock_of S.clock x.answer.tag))) (chosen_same w.call.kind x.after.handlers pending env.pending same)

live_at_same : (S : State) (t : ℕ) (env : Env) (pending : ℕ → Bool) (o : Option Waiting) → ((r : ℕ) → 1 ≤ r → r ≤ 31 → pending r ≡ env.pending r)
    → event_of_waiting S t (with_signals env pending) o ≡ event_of_waiting S t env o
live_at_same S t env pending None same = refl
live_at_same S t env pending (Some w) same =
    ap (λ world. option_map (event S t (with_signals env pending) w) (answered_now (need w.call.kind S t w.call) world)) (from_world_same w.call.kind S w.call env pending)
    ∙ mapped_same S t env pending w (answered_now (need w.call.kind S t w.call) (from_world w.call.kind S w.call env)) same

-- a world in which the same signals are pending lets the process have the same event
pub live_same : (S : State) (t : ℕ) (env : Env) (pending : ℕ → Bool) → ((r : ℕ) → 1 ≤ r → r ≤ 31 → pending r ≡ env.pending r)
    → live S t (with_signals env pending) ≡ live S t env
live_same S t env pending same = ap (λ o. cond (not env.killed && is_running S) o None) (live_at_same S t env pending (thread_at S t) same)
