-- What a legal entry tells of datagrams and of random bytes is so by its call's arguments.
use Rattle.std.proofs.Common.{◌≡◌, ◌↔◌, ◌⊎◌, inl, inr, ℕ, ◌<◌, ◌≤◌, Bool, true, false, cond, ◌&&◌, ◌||◌, not, length, Option, Some, None, refl, ap, sym, ◌∙◌, subst, arith}
use Rattle.std.specs.Prelude.{◌==◌, ◌≢◌, nat_le, nat_lt, is_some}
use Rattle.std.proofs.lemmas.Bool.{and_from, and_parts, or_cases, eq-eqb, eqb-true, leb-true, ltb-true, lt-ltb, ne_eqb}
use Rattle.call_table.specs.declared.kind.Kind.{Kind}
use Rattle.call_table.specs.declared.kind.Kind.TheVariants.{Random, Send, Recv, TryRecv}
use Rattle.lib_calls.specs.declared.entry.Call.{Call}
use Rattle.lib_calls.specs.declared.entry.Entry.{Entry}
use Rattle.lib_calls.specs.Answer.{Answer, answer_of}
use Rattle.lib_calls.specs.Effects.{is_good, minus_one, minus_two, takes_counted}
use Rattle.lib_calls.specs.Traffic.{drawn, draws_as, is_sent, is_taken, sends_as, takes_as}
use Rattle.guest_process.specs.declared.waiting.Waiting.{Waiting}
use Rattle.guest_process.specs.Answers.{Fixed, World, need_of_world, brings_nothing, is_drawn, is_empty, is_payload, is_possible, need, replied, takes_datagram}
use Rattle.guest_process.specs.Legal.{entry_checks, need_gives_answer, reason_at}
use Rattle.guest_process.specs.Numbers.{CallsWell, HasTraffic, LegalTraffic}
use Rattle.guest_process.specs.State.{State, is_running, thread_at}
use Rattle.guest_process.proofs.FirstFailure.{all_hold, unless_none}
use Rattle.guest_process.proofs.LegalEntries.{call_told}
use Rattle.guest_process.proofs.AnswerWrites.{not_minus_one, random_short, recv_short, send_short, try_recv_short}

-- ---- the reply says whether the arguments are good

abbrev AnsweredWell : State → Call → Answer → Type 0
AnsweredWell S c a = not (a.reply == minus_one) ≡ is_good c S.store.memory

replied_well : (S : State) (c : Call) (a : Answer) (possible : Bool) → (is_good c S.store.memory ≡ true → c.a2 ≤ 60000) → need_gives_answer (replied S c c.a2) a possible ≡ true → AnsweredWell S c a
replied_well S c a possible short h = by_test (is_good c S.store.memory) short h
  where
    by_test : (b : Bool) → (b ≡ true → c.a2 ≤ 60000) → need_gives_answer (Fixed (cond b c.a2 minus_one) S) a possible ≡ true → not (a.reply == minus_one) ≡ b
    by_test true short h =
        let is = eqb-true a.reply c.a2 (and_parts (a.reply == c.a2) (brings_nothing a.tag a.incoming) h).0 in
        not_minus_one a.reply (omega (arith, is, short refl))
    by_test false short h =
        ap (λ reply. not (reply == minus_one)) (eqb-true a.reply minus_one (and_parts (a.reply == minus_one) (brings_nothing a.tag a.incoming) h).0)

asked_well : (S : State) (c : Call) (a : Answer) (possible : Bool) → (is_good c S.store.memory ≡ true → possible ≡ true → not (a.reply == minus_one) ≡ true) → need_gives_answer (need_of_world S c) a possible ≡ true
    → AnsweredWell S c a
asked_well S c a possible well h = by_test (is_good c S.store.memory) well h
  where
    by_test : (b : Bool) → (b ≡ true → possible ≡ true → not (a.reply == minus_one) ≡ true) → need_gives_answer (cond b World (Fixed minus_one S)) a possible ≡ true → not (a.reply == minus_one) ≡ b
    by_test true well h = well refl h
    by_test false well h =
        ap (λ reply. not (reply == minus_one)) (eqb-true a.reply minus_one (and_parts (a.reply == minus_one) (brings_nothing a.tag a.incoming) h).0)

counted_well : (count : ℕ) (c : Call) (a : Answer) → c.a1 ≤ 60000 → takes_datagram count c a ≡ true → not (a.reply == minus_one) ≡ true
counted_well count c a short h =
    let parts = and_parts (takes_counted c a) (is_payload count a.tag a.incoming) h in
    let counted = and_parts (a.reply == length a.incoming) (nat_le (length a.incoming) c.a1) parts.0 in
    not_minus_one a.reply (omega (arith, short, eqb-true a.reply (length a.incoming) counted.0, leb-true (length a.incoming) c.a1 counted.1))

empty_well : (a : Answer) → is_empty a ≡ true → not (a.reply == minus_one) ≡ true
empty_well a h =
    ap (λ reply. not (reply == minus_one)) (eqb-true a.reply minus_two (and_parts (a.reply == minus_two) (brings_nothing a.tag a.incoming) h).0)

drawn_reply : (c : Call) (a : Answer) → is_drawn c a ≡ true → a.reply ≡ c.a1
drawn_reply c a h = eqb-true a.reply c.a1 (and_parts (a.reply == c.a1) (length a.incoming == c.a1 && not (is_some a.tag)) h).0

drawn_length : (c : Call) (a : Answer) → is_drawn c a ≡ true → length a.incoming ≡ c.a1
drawn_length c a h =
    let rest = and_parts (a.reply == c.a1) (length a.incoming == c.a1 && not (is_some a.tag)) h in
    eqb-true (length a.incoming) c.a1 (and_parts (length a.incoming == c.a1) (not (is_some a.tag)) rest.1).0

-- the answer to the entry's call, of this kind, is one that can be given
abbrev IsGiven : Kind → State → Entry → Type 0
IsGiven k S e = need_gives_answer (need k S e.thread e.call) (answer_of e) (is_possible k S e.call (answer_of e)) ≡ true

send_well : (S : State) (e : Entry) → e.call.kind ≡ Send → IsGiven Send S e → AnsweredWell S e.call (answer_of e)
send_well S e is h = replied_well S e.call (answer_of e) false (send_short S e.call is) h

random_well : (S : State) (e : Entry) → e.call.kind ≡ Random → IsGiven Random S e → AnsweredWell S e.call (answer_of e)
random_well S e is h =
    asked_well S e.call (answer_of e) (is_drawn e.call (answer_of e))
    (λ good drawn. not_minus_one e.reply (omega (arith, random_short S e.call is good, drawn_reply e.call (answer_of e) drawn))) h

recv_well : (S : State) (e : Entry) → e.call.kind ≡ Recv → IsGiven Recv S e → AnsweredWell S e.call (answer_of e)
recv_well S e is h =
    asked_well S e.call (answer_of e) (takes_datagram S.count e.call (answer_of e))
    (λ good taken. counted_well S.count e.call (answer_of e) (recv_short S e.call is good) taken) h

try_recv_well : (S : State) (e : Entry) → e.call.kind ≡ TryRecv → IsGiven TryRecv S e → AnsweredWell S e.call (answer_of e)
try_recv_well S e is h =
    let taken = takes_datagram S.count e.call (answer_of e) in
    let empty = is_empty (answer_of e) in
    asked_well S e.call (answer_of e) (taken || empty)
    (λ good given. elim (or_cases taken empty given) [
      | inl counted ↦ counted_well S.count e.call (answer_of e) (try_recv_short S e.call is good) counted
      | inr none ↦ empty_well (answer_of e) none
    ])
    h

-- ---- what is sent

sent_by : (S : State) (e : Entry) (count : ℕ) → e.call.kind ≡ Send → AnsweredWell S e.call (answer_of e)
    → (sends_as Send count e ≡ true) ↔ (CallsWell Send S e × (e.call.a0 < count))
sent_by S e count is well = (
  λ h. let parts = and_parts (not (e.reply == minus_one)) (nat_lt e.call.a0 count) h in ((is, sym well ∙ parts.0), ltb-true e.call.a0 count parts.1),
  λ w. and_from (not (e.reply == minus_one)) (nat_lt e.call.a0 count) (well ∙ w.0.1) (lt-ltb e.call.a0 count w.1),
)

sent_as : (k : Kind) (S : State) (e : Entry) (count : ℕ) → e.call.kind ≡ k → IsGiven k S e → (sends_as k count e ≡ true) ↔ (CallsWell Send S e × (e.call.a0 < count))
sent_as Send S e count is h = sent_by S e count is (send_well S e is h)
sent_as _ S e count is h = (λ sent. cc, λ w. let both = sym is ∙ w.0.0 in cc)

-- ---- what is taken

abbrev Takes : State → Entry → Type 0
Takes S e = CallsWell Recv S e ⊎ (CallsWell TryRecv S e × (e.reply ≢ minus_two))

taken_as : (k : Kind) (S : State) (e : Entry) → e.call.kind ≡ k → IsGiven k S e → (takes_as k e ≡ true) ↔ Takes S e
taken_as Recv S e is h =
    let well = recv_well S e is h in
    (λ taken. inl (is, sym well ∙ taken), λ w. elim w [ inl recv ↦ well ∙ recv.1 | inr try ↦ let both = sym is ∙ try.0.0 in cc ])
taken_as TryRecv S e is h =
    let well = try_recv_well S e is h in
    let some = not (e.reply == minus_two) in (
      λ taken. let parts = and_parts (not (e.reply == minus_one)) some taken in inr ((is, sym well ∙ parts.0), λ none. let eq = eq-eqb e.reply minus_two none in let clash = sym (ap not eq) ∙ parts.1 in cc),
      λ w. elim w [ inl recv ↦ let both = sym is ∙ recv.0 in cc | inr try ↦ and_from (not (e.reply == minus_one)) some (well ∙ try.0.1) (ap not (ne_eqb e.reply minus_two try.1)) ],
    )
taken_as _ S e is h = (λ taken. cc, λ w. elim w [ inl recv ↦ let both = sym is ∙ recv.0 in cc | inr try ↦ let both = sym is ∙ try.0.0 in cc ])

-- ---- what is drawn

random_drawn : (S : State) (e : Entry) → IsGiven Random S e → is_good e.call S.store.memory ≡ true → length e.incoming ≡ e.call.a1
random_drawn S e h good = by_test (is_good e.call S.store.memory) good h
  where
    by_test : (b : Bool) → b ≡ true → need_gives_answer (cond b World (Fixed minus_one S)) (answer_of e) (is_drawn e.call (answer_of e)) ≡ true → length e.incoming ≡ e.call.a1
    by_test true good h = drawn_length e.call (answer_of e) h
    by_test false good h = cc

draws_well : (S : State) (e : Entry) → AnsweredWell S e.call (answer_of e) → is_good e.call S.store.memory ≡ true → draws_as Random e ≡ length e.incoming
draws_well S e well good = by_test (e.reply == minus_one) (well ∙ good)
  where
    by_test : (b : Bool) → not b ≡ true → cond b 0 (length e.incoming) ≡ length e.incoming
    by_test true is = cc
    by_test false is = refl

draws_none : (S : State) (e : Entry) → AnsweredWell S e.call (answer_of e) → (is_good e.call S.store.memory ≡ true → ⊥) → draws_as Random e ≡ 0
draws_none S e well bad = by_test (e.reply == minus_one) (λ is. bad (sym well ∙ is))
  where
    by_test : (b : Bool) → (not b ≡ true → ⊥) → cond b 0 (length e.incoming) ≡ 0
    by_test true is = refl
    by_test false is = absurd (is refl)

drawn_as : (k : Kind) (S : State) (e : Entry) → e.call.kind ≡ k → IsGiven k S e → CallsWell Random S e → draws_as k e ≡ e.call.a1
drawn_as Random S e is h w = draws_well S e (random_well S e is h) w.1 ∙ random_drawn S e h w.1
drawn_as _ S e is h w = let both = sym is ∙ w.0 in cc

undrawn_as : (k : Kind) (S : State) (e : Entry) → e.call.kind ≡ k → IsGiven k S e → (CallsWell Random S e → ⊥) → draws_as k e ≡ 0
undrawn_as Random S e is h bad = draws_none S e (random_well S e is h) (λ good. bad (is, good))
undrawn_as _ S e is h bad = refl

-- ---- all of it

traffic : (k : Kind) (S : State) (e : Entry) → e.call.kind ≡ k → IsGiven k S e → HasTraffic S e
unfolding is_sent is_taken drawn
traffic k S e is h = record {
  sent = λ count. subst (λ k. (sends_as k count e ≡ true) ↔ (CallsWell Send S e × (e.call.a0 < count))) (sym is) (sent_as k S e count is h);
  taken = subst (λ k. (takes_as k e ≡ true) ↔ Takes S e) (sym is) (taken_as k S e is h);
  draws = λ w. ap (λ k. draws_as k e) is ∙ drawn_as k S e is h w;
  draws_none = λ bad. ap (λ k. draws_as k e) is ∙ undrawn_as k S e is h bad;
}

traffic_at : (S : State) (e : Entry) (w : Waiting) → reason_at S e (Some w) ≡ None → HasTraffic S e
traffic_at S e w h =
    let holds = all_hold (entry_checks S e w) h in
    let told = call_told S e w holds in
    let given : IsGiven w.call.kind S e =
    subst (λ (c : Call). need_gives_answer (need w.call.kind S e.thread c) (answer_of e) (is_possible w.call.kind S c (answer_of e)) ≡ true) (sym told) holds.reply in
    traffic w.call.kind S e (ap (λ (c : Call). c.kind) told) given

traffic_of : (S : State) (e : Entry) (o : Option Waiting) → reason_at S e o ≡ None → HasTraffic S e
traffic_of S e None h = cc
traffic_of S e (Some w) h = traffic_at S e w h

pub legal_traffic : LegalTraffic
legal_traffic S e s h = traffic_of S e (thread_at S e.thread) (unless_none (is_running S) _ _ h).1
