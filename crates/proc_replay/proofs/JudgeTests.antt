-- What the code judges by.
use Rattle.std.proofs.Common.{◌≡◌, ◌≤◌, ℕ, Bool, true, false, cond, Option, None, Some, refl, ap, ◌∙◌}
use Rattle.std.specs.Prelude.{◌==◌, ◌&&◌, ◌||◌, nat_le, not, is_some, option_map}
use Rattle.std.proofs.lemmas.Bool.{le-leb, ne_eqb}
use Rattle.std.proofs.lemmas.Option.{same_Some}
use Rattle.guest_signals.specs.Signals.{most_signal}
use Rattle.lib_calls.specs.Answer.{Answer, answer_of}
use Rattle.lib_calls.specs.declared.entry.Call.{Call}
use Rattle.lib_calls.specs.declared.entry.Entry.{Entry}
use Rattle.guest_process.specs.declared.divergence.Divergence.TheVariants.{AfterEnd}
use Rattle.guest_process.specs.declared.waiting.Waiting.{Waiting}
use Rattle.guest_process.specs.Answers.{effects_of_answer}
use Rattle.guest_process.specs.GoesOn.{handler}
use Rattle.guest_process.specs.Kinds.{ends_process}
use Rattle.guest_process.specs.Legal.{checks_by, first_failing, is_handled, reason, reason_at, unless_checked}
use Rattle.guest_process.specs.Meanings.{able, answered_at, handles_after}
use Rattle.guest_process.specs.State.{State, is_running, thread_at}

-- the thread's call waits
abbrev pub HasCall : State → ℕ → Call → Type 0
HasCall S t c = option_map (λ w. w.call) (able S t) ≡ Some c

-- why an entry is refused then
pub judged : (S : State) (e : Entry) (c : Call) → HasCall S e.thread c → reason S e ≡ first_failing (checks_by c.kind S e c (answer_of e))
judged S e c h = by_test (is_running S) (thread_at S e.thread) h
  where
    by_test : (runs : Bool) (o : Option Waiting) → option_map (λ w. w.call) (cond runs o None) ≡ Some c
        → unless_checked runs AfterEnd (reason_at S e o) ≡ first_failing (checks_by c.kind S e c (answer_of e))
    by_test true (Some w) h = ap (λ c. first_failing (checks_by c.kind S e c (answer_of e))) (same_Some _ _ h)
    by_test true None h = cc
    by_test false o h = cc

handles : (S : State) (t : ℕ) (c : Call) (a : Answer) (signal : ℕ) → HasCall S t c
    → handles_after S t a signal ≡ is_some (handler (effects_of_answer c.kind S t c a).handlers signal)
handles S t c a signal h = by_test (is_running S) (thread_at S t) h
  where
    by_test : (runs : Bool) (o : Option Waiting) → option_map (λ w. w.call) (cond runs o None) ≡ Some c
        → is_some (handler (answered_at S t a o).handlers signal) ≡ is_some (handler (effects_of_answer c.kind S t c a).handlers signal)
    by_test true (Some w) h = ap (λ c. is_some (handler (effects_of_answer c.kind S t c a).handlers signal)) (same_Some _ _ h)
    by_test true None h = cc
    by_test false o h = cc

-- a signal that a handler decides on
decided : (ends : Bool) (signal : ℕ) (has : Bool) → (signal ≡ 0 → ⊥) → ends ≡ false → signal ≤ most_signal → has ≡ ((signal == 0) || (not ends && (nat_le signal most_signal && has)))
decided ends signal has some goes within = rw (ne_eqb _ _ some) (rw goes (rw (le-leb _ _ within) refl))

-- whether it can be delivered then
pub handled : (S : State) (t : ℕ) (c : Call) (a : Answer) (signal : ℕ) (result : Bool) → HasCall S t c → (signal ≡ 0 → ⊥) → ends_process c.kind ≡ false → signal ≤ most_signal
    → result ≡ handles_after S t a signal → result ≡ is_handled c.kind (effects_of_answer c.kind S t c a).handlers signal
handled S t c a signal result h some goes within is =
    is ∙ handles S t c a signal h ∙ decided (ends_process c.kind) signal (is_some (handler (effects_of_answer c.kind S t c a).handlers signal)) some goes within
