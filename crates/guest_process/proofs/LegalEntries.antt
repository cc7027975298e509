-- What is known of a legal entry.
use Rattle.std.proofs.Common.{◌≡◌, ℕ, true, None, Some, Option, refl, ap, sym, ◌∙◌, subst}
use Rattle.std.specs.Prelude.{◌==◌}
use Rattle.std.proofs.lemmas.Bool.{and_parts, eqb-true}
use Rattle.std.proofs.lemmas.Option.{same_Some}
use Rattle.call_table.specs.Numbers.{numbered}
use Rattle.call_table.specs.Table.{kind_numbered, row}
use Rattle.call_table.specs.declared.kind.Kind.{Kind}
use Rattle.lib_calls.specs.declared.entry.Call.{Call}
use Rattle.lib_calls.specs.declared.entry.Entry.{Entry}
use Rattle.lib_calls.specs.Answer.{answer_of}
use Rattle.lib_calls.specs.Effects.{is_answer}
use Rattle.guest_process.specs.declared.waiting.Waiting.{Waiting}
use Rattle.guest_process.specs.Fits.{StateFits, WaitingFits}
use Rattle.guest_process.proofs.LiveThreads.{live_has}
use Rattle.guest_process.specs.Legal.{entry_checks, reason, reason_at}
use Rattle.guest_process.specs.State.{State, is_running, thread_at}
use Rattle.guest_process.proofs.FirstFailure.{Hold, all_hold, unless_none}
use Rattle.guest_process.proofs.AnswerWrites.{legal_answer}

-- kinds with one number are one
same_kind : (j k : Kind) → (row j).number ≡ (row k).number → j ≡ k
same_kind j k same = same_Some j k (sym (numbered j) ∙ ap kind_numbered same ∙ numbered k)

same_call : (c d : Call) → c.kind ≡ d.kind → c.a0 ≡ d.a0 → c.a1 ≡ d.a1 → c.a2 ≡ d.a2 → c ≡ d
same_call c d kind a0 a1 a2 =
    ap {B = Call} (λ n. record { kind = n; a0 = c.a0; a1 = c.a1; a2 = c.a2 }) kind
    ∙ ap {B = Call} (λ n. record { kind = d.kind; a0 = n; a1 = c.a1; a2 = c.a2 }) a0
    ∙ ap {B = Call} (λ n. record { kind = d.kind; a0 = d.a0; a1 = n; a2 = c.a2 }) a1
    ∙ ap {B = Call} (λ n. record { kind = d.kind; a0 = d.a0; a1 = d.a1; a2 = n }) a2

-- the entry tells the pending call
pub call_told : (S : State) (e : Entry) (w : Waiting) → Hold (entry_checks S e w) → e.call ≡ w.call
call_told S e w holds =
    let rest = and_parts (e.call.a0 == w.call.a0) _ holds.arguments in
    let last = and_parts (e.call.a1 == w.call.a1) (e.call.a2 == w.call.a2) rest.1 in
    same_call e.call w.call (same_kind e.call.kind w.call.kind (eqb-true _ _ holds.call)) (eqb-true _ _ rest.0) (eqb-true _ _ last.0) (eqb-true _ _ last.1)

-- all is as it has to be with the thread that stands there
pub legal_at : (S : State) (e : Entry) (w : Waiting) → reason S e ≡ None → thread_at S e.thread ≡ Some w → Hold (entry_checks S e w)
legal_at S e w h at = all_hold (entry_checks S e w) (subst (λ o. reason_at S e o ≡ None) at (unless_none (is_running S) _ _ h).1)

pub fits_at : (S : State) (t : ℕ) (w : Waiting) → StateFits S → thread_at S t ≡ Some w → WaitingFits w
fits_at S t w s at = live_has WaitingFits S.crew.threads t s.threads w at

-- what came in is such as the call lets come in
pub is_answer_of : (S : State) (e : Entry) → StateFits S → reason S e ≡ None → is_answer e.call (answer_of e) S.store.memory ≡ true
is_answer_of S e s h = by_thread (thread_at S e.thread) refl (unless_none (is_running S) _ _ h).1
  where
    by_thread : (o : Option Waiting) → thread_at S e.thread ≡ o → reason_at S e o ≡ None → is_answer e.call (answer_of e) S.store.memory ≡ true
    by_thread None at r = cc
    by_thread (Some w) at r =
        let holds = all_hold (entry_checks S e w) r in
        let answer = legal_answer w.call.kind S e.thread w.call (answer_of e) refl holds.reply in
        ap (λ call. is_answer call (answer_of e) S.store.memory) (call_told S e w holds) ∙ answer
