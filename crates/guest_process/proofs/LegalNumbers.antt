-- What a legal entry says is within the limits of its process.
use Rattle.std.proofs.Common.{◌≡◌, ◌⊎◌, inl, inr, ℕ, zero, suc, ◌<◌, ◌≤◌, Bool, true, false, cond, ◌&&◌, ◌||◌, not, List, [], ◌∷◌, length, Option, Some, None, refl, ap, sym, ◌∙◌, arith}
use Rattle.std.specs.Prelude.{◌==◌, nat_le, is_some, slice_get, option_and_then}
use Rattle.std.proofs.lemmas.Bool.{and_parts, or_cases, eqb-true, leb-true}
use Rattle.std.proofs.lemmas.Option.{same_Some}
use Rattle.std.proofs.lemmas.Slice.Eq.{bytes_eq-Decides}
use Rattle.call_table.specs.declared.kind.Kind.{Kind}
use Rattle.call_table.specs.declared.kind.Kind.TheVariants.{Now, SleepUntil, Random, Recv, TryRecv}
use Rattle.coop_threads.specs.Crew.{value_of}
use Rattle.coop_threads.specs.declared.slot.Slot.{Slot}
use Rattle.lamport_tag.specs.declared.Tag.{Tag}
use Rattle.lamport_tag.specs.Tag.{is_sendable, next_clock_of}
use Rattle.lib_calls.specs.declared.entry.Call.{Call}
use Rattle.lib_calls.specs.declared.entry.Entry.{Entry}
use Rattle.lib_calls.specs.Answer.{Answer, answer_of}
use Rattle.lib_calls.specs.Effects.{is_good, minus_one, minus_two, outgoing_of, takes_counted}
use Rattle.lib_calls.specs.Traffic.{is_taken, takes_as}
use Rattle.guest_signals.specs.Signals.{most_signal}
use Rattle.guest_process.specs.declared.waiting.Waiting.{Waiting}
use Rattle.guest_process.specs.Answers.{Need, Fixed, Blocked, World, need_of_world, brings_nothing, effects_of_answer, is_drawn, is_due, is_empty, is_payload, is_possible, need, takes_datagram}
use Rattle.guest_process.specs.Fits.{StateFits}
use Rattle.guest_process.specs.GoesOn.{handler}
use Rattle.guest_process.specs.Kinds.{ends_process}
use Rattle.guest_process.specs.Legal.{entry_checks, need_gives_answer, is_handled, reason_at}
use Rattle.guest_process.specs.Numbers.{HasLegalNumbers, LegalNumbers}
use Rattle.guest_process.specs.State.{State, is_running, thread_at}
use Rattle.guest_process.proofs.EachKind.{drawn_tag, plain_tag}
use Rattle.guest_process.proofs.FirstFailure.{all_hold, unless_none}
use Rattle.guest_process.proofs.LegalEntries.{call_told}
use Rattle.guest_process.proofs.Outgoing.{outgoing_short}
use Rattle.guest_process.proofs.AnswerWrites.{not_minus_one, not_minus_two, random_short, recv_short, try_recv_short}

-- ---- the thread and the signal

-- a thread that is live was made
live_made : (slots : List (Slot Waiting)) (t : ℕ) (w : Waiting) → option_and_then value_of (slice_get slots t) ≡ Some w → t < length slots
live_made [] t w h = cc
live_made (slot ∷ slots) zero w h = omega arith
live_made (slot ∷ slots) (suc t) w h = omega (arith, live_made slots t w h)

handled_low : (k : Kind) (handlers : List (Option ℕ)) (signal : ℕ) → is_handled k handlers signal ≡ true → signal ≤ most_signal
handled_low k handlers signal h = elim (or_cases (signal == 0) (not (ends_process k) && (nat_le signal most_signal && is_some (handler handlers signal))) h) [
  | inl none ↦ omega (arith, eqb-true signal 0 none)
  | inr some ↦
      let low = and_parts (not (ends_process k)) (nat_le signal most_signal && is_some (handler handlers signal)) some in
      leb-true signal most_signal (and_parts (nat_le signal most_signal) (is_some (handler handlers signal)) low.1).0
]

-- ---- what comes in

-- what an answer to a call of this kind brings
record HasBrought (S : State) (k : Kind) (e : Entry) : Type 0 where
  incoming : length e.incoming ≤ 60000
  sent : (tag : Tag) → e.tag ≡ Some tag → is_sendable S.count tag ≡ true
  tagged : (tag : Tag) → e.tag ≡ Some tag → takes_as k e ≡ true
  counted : takes_as k e ≡ true → e.reply ≡ length e.incoming

nothing_short : (tag : Option Tag) (incoming : List ℕ) → brings_nothing tag incoming ≡ true → length incoming ≤ 60000
nothing_short None [] h = omega arith
nothing_short None (_ ∷ _) h = cc
nothing_short (Some tag) incoming h = cc

-- bytes without a tag, and no datagram that was taken
untagged : (S : State) (k : Kind) (e : Entry) → length e.incoming ≤ 60000 → e.tag ≡ None → takes_as k e ≡ false → HasBrought S k e
untagged S k e short none other = record {
  incoming = short;
  sent = λ tag h. cc;
  tagged = λ tag h. cc;
  counted = λ h. cc;
}

nothing : (S : State) (k : Kind) (e : Entry) → brings_nothing e.tag e.incoming ≡ true → takes_as k e ≡ false → HasBrought S k e
nothing S k e h other = untagged S k e (nothing_short e.tag e.incoming h) (plain_tag e.tag e.incoming h) other

-- a tag that is with a payload is one that can have been sent
payload_sent : (count : ℕ) (tag : Option Tag) (payload : List ℕ) → is_payload count tag payload ≡ true → (found : Tag) → tag ≡ Some found → is_sendable count found ≡ true
payload_sent count None payload h found e = cc
payload_sent count (Some tag) payload h found e = ap (is_sendable count) (sym (same_Some _ _ e)) ∙ h

-- the payload of a datagram that was taken is as long as the call has room for, and the reply counts it
record IsCounted (c : Call) (e : Entry) : Type 0 where
  reply : e.reply ≡ length e.incoming
  short : length e.incoming ≤ c.a1

counted_by : (c : Call) (e : Entry) → takes_counted c (answer_of e) ≡ true → IsCounted c e
counted_by c e h =
    let parts = and_parts (e.reply == length e.incoming) (nat_le (length e.incoming) c.a1) h in
    record { reply = eqb-true e.reply (length e.incoming) parts.0; short = leb-true (length e.incoming) c.a1 parts.1 }

datagram : (S : State) (k : Kind) (c : Call) (e : Entry) → c.a1 ≤ 60000 → (e.reply ≤ 60000 → takes_as k e ≡ true) → takes_datagram S.count c (answer_of e) ≡ true → HasBrought S k e
datagram S k c e room taken h =
    let parts = and_parts (takes_counted c (answer_of e)) (is_payload S.count e.tag e.incoming) h in
    let count = counted_by c e parts.0 in
    let short : length e.incoming ≤ 60000 = omega (arith, count.short) in
    record {
      incoming = short;
      sent = payload_sent S.count e.tag e.incoming parts.1;
      tagged = λ tag is. taken (omega (arith, count.reply));
      counted = λ is. count.reply;
    }

-- ---- what comes in, kind by kind

-- where the world brings nothing, no answer does
plain_need : (n : Need) (a : Answer) (possible : Bool) → (possible ≡ true → brings_nothing a.tag a.incoming ≡ true) → need_gives_answer n a possible ≡ true → brings_nothing a.tag a.incoming ≡ true
plain_need (Fixed r S) a possible plain h = (and_parts (a.reply == r) (brings_nothing a.tag a.incoming) h).1
plain_need Blocked a possible plain h = cc
plain_need World a possible plain h = plain h

-- good arguments are answered by the world, and bad ones with -1
record IsBad (a : Answer) : Type 0 where
  reply : a.reply ≡ minus_one
  plain : brings_nothing a.tag a.incoming ≡ true

asked_cases : (S : State) (c : Call) (a : Answer) (possible : Bool) → need_gives_answer (need_of_world S c) a possible ≡ true → ((is_good c S.store.memory ≡ true) × (possible ≡ true)) ⊎ IsBad a
asked_cases S c a possible h = by_test (is_good c S.store.memory) h
  where
    by_test : (b : Bool) → need_gives_answer (cond b World (Fixed minus_one S)) a possible ≡ true → ((b ≡ true) × (possible ≡ true)) ⊎ IsBad a
    by_test true h = inl (refl, h)
    by_test false h =
        let parts = and_parts (a.reply == minus_one) (brings_nothing a.tag a.incoming) h in
        inr (record { reply = eqb-true a.reply minus_one parts.0; plain = parts.1 })

random_brought : (S : State) (c : Call) (e : Entry) → c.kind ≡ Random → need_gives_answer (need_of_world S c) (answer_of e) (is_drawn c (answer_of e)) ≡ true → HasBrought S Random e
random_brought S c e is h = elim (asked_cases S c (answer_of e) (is_drawn c (answer_of e)) h) [
  | inl good ↦
      let parts = and_parts (e.reply == c.a1) (length e.incoming == c.a1 && not (is_some e.tag)) good.1 in
      let rest = and_parts (length e.incoming == c.a1) (not (is_some e.tag)) parts.1 in
      untagged S Random e (omega (arith, random_short S c is good.0, eqb-true (length e.incoming) c.a1 rest.0)) (drawn_tag e.tag rest.1) refl
  | inr bad ↦ nothing S Random e bad.plain refl
]

recv_brought : (S : State) (c : Call) (e : Entry) → c.kind ≡ Recv → need_gives_answer (need_of_world S c) (answer_of e) (takes_datagram S.count c (answer_of e)) ≡ true → HasBrought S Recv e
recv_brought S c e is h = elim (asked_cases S c (answer_of e) (takes_datagram S.count c (answer_of e)) h) [
  | inl good ↦ datagram S Recv c e (recv_short S c is good.0) (not_minus_one e.reply) good.1
  | inr bad ↦ nothing S Recv e bad.plain (ap (λ reply. not (reply == minus_one)) bad.reply)
]

try_taken : (e : Entry) → e.reply ≤ 60000 → takes_as TryRecv e ≡ true
try_taken e low = rw (not_minus_one e.reply low, not_minus_two e.reply low) refl

try_recv_brought : (S : State) (c : Call) (e : Entry) → c.kind ≡ TryRecv → need_gives_answer (need_of_world S c) (answer_of e) (takes_datagram S.count c (answer_of e) || is_empty (answer_of e)) ≡ true → HasBrought S TryRecv e
try_recv_brought S c e is h = elim (asked_cases S c (answer_of e) (takes_datagram S.count c (answer_of e) || is_empty (answer_of e)) h) [
  | inl good ↦ elim (or_cases (takes_datagram S.count c (answer_of e)) (is_empty (answer_of e)) good.1) [
    | inl taken ↦ datagram S TryRecv c e (try_recv_short S c is good.0) (try_taken e) taken
    | inr empty ↦
        let parts = and_parts (e.reply == minus_two) (brings_nothing e.tag e.incoming) empty in
        nothing S TryRecv e parts.1 (ap (λ reply. not (reply == minus_one) && not (reply == minus_two)) (eqb-true e.reply minus_two parts.0))
  ]
  | inr bad ↦ nothing S TryRecv e bad.plain (ap (λ reply. not (reply == minus_one) && not (reply == minus_two)) bad.reply)
]

brought : (k : Kind) (S : State) (t : ℕ) (c : Call) (e : Entry) → c.kind ≡ k → need_gives_answer (need k S t c) (answer_of e) (is_possible k S c (answer_of e)) ≡ true → HasBrought S k e
brought Random S t c e is h = random_brought S c e is h
brought Recv S t c e is h = recv_brought S c e is h
brought TryRecv S t c e is h = try_recv_brought S c e is h
brought Now S t c e is h = nothing S Now e (plain_need (need Now S t c) (answer_of e) (is_possible Now S c (answer_of e)) (λ plain. plain) h) refl
brought SleepUntil S t c e is h =
    nothing S SleepUntil e
    (plain_need (need SleepUntil S t c) (answer_of e) (is_possible SleepUntil S c (answer_of e)) (λ plain. (and_parts (is_due c.a0 e.reply) (brings_nothing e.tag e.incoming) plain).1) h) refl
brought k S t c e is h = nothing S k e (plain_need (need k S t c) (answer_of e) (is_possible k S c (answer_of e)) (λ plain. cc) h) refl

-- ---- all of it

taken_is : (k : Kind) (e : Entry) → e.call.kind ≡ k → is_taken e ≡ takes_as k e
unfolding is_taken
taken_is k e is = ap (λ o. takes_as o e) is

numbers_at : (S : State) (e : Entry) → StateFits S → (w : Waiting) → thread_at S e.thread ≡ Some w → reason_at S e (Some w) ≡ None → HasLegalNumbers S e
numbers_at S e s w at h =
    let holds = all_hold (entry_checks S e w) h in
    let out = outgoing_of w.call S.store.memory in
    let sent : e.outgoing ≡ out = (bytes_eq-Decides e.outgoing out).0 holds.bytes in
    let brings = brought w.call.kind S e.thread w.call e refl holds.reply in
    let taken = taken_is w.call.kind e (ap (λ (call : Call). call.kind) (call_told S e w holds)) in
    record {
      thread = omega (arith, live_made S.crew.threads e.thread w at, s.room);
      signal = handled_low w.call.kind (effects_of_answer w.call.kind S e.thread w.call (answer_of e)).handlers e.signal holds.handler;
      outgoing = omega (arith, ap length sent, outgoing_short w.call S.store.memory);
      incoming = brings.incoming;
      clock = eqb-true e.clock (next_clock_of S.clock e.tag) holds.clock;
      sent = brings.sent;
      tagged = λ tag is. taken ∙ brings.tagged tag is;
      counted = λ is. brings.counted (sym taken ∙ is);
    }

numbers_of : (S : State) (e : Entry) → StateFits S → (o : Option Waiting) → thread_at S e.thread ≡ o → reason_at S e o ≡ None → HasLegalNumbers S e
numbers_of S e s None at h = cc
numbers_of S e s (Some w) at h = numbers_at S e s w at h

pub legal_numbers : LegalNumbers
legal_numbers S e s h = numbers_of S e s (thread_at S e.thread) refl (unless_none (is_running S) _ _ h).1
