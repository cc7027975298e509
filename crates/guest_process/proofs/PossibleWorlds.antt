-- A legal entry is the event of a try in each world that has what it brings, and there is such a world.
use Rattle.std.proofs.Common.{◌≡◌, ℕ, zero, suc, ◌+◌, ◌<◌, ◌≤◌, Bool, true, false, ◌&&◌, ◌||◌, not, cond, List, [], ◌∷◌, ◌++◌, length, take, Option, Some, None, inl, inr, refl, ap, sym, subst, ◌∙◌, arith}
use Rattle.std.specs.Prelude.{◌==◌, nat_le, is_some, option_map, unwrap_or, if◌then◌else◌, min}
use Rattle.std.proofs.lemmas.Slice.Eq.{bytes_eq-Decides}
use Rattle.std.proofs.lemmas.Bool.{and_parts, or_cases, eqb-true, eqb-false, leb-true, le-leb, ne_eqb}
use Rattle.std.proofs.lemmas.List.{length-take, take_all}
use Rattle.call_table.specs.declared.kind.Kind.{Kind}
use Rattle.call_table.specs.declared.kind.Kind.TheVariants.{Now, SleepUntil, Random, Recv, TryRecv}
use Rattle.lamport_tag.specs.declared.Tag.{Tag}
use Rattle.lamport_tag.specs.Laws.{IsReadBack}
use Rattle.lamport_tag.specs.Tag.{next_clock_of, payload_behind, read_datagram, tag_at, tag_bytes}
use Rattle.lib_calls.specs.declared.entry.Call.{Call}
use Rattle.lib_calls.specs.declared.entry.Entry.{Entry}
use Rattle.lib_calls.specs.Answer.{Answer, answer_of}
use Rattle.lib_calls.specs.Effects.{is_good, minus_one, minus_two, outgoing_of, takes_counted}
use Rattle.guest_signals.specs.Signals.{most_signal}
use Rattle.guest_process.specs.declared.waiting.Waiting.{Waiting}
use Rattle.guest_process.specs.Answers.{Need, Fixed, Blocked, World, after_need, effects_of_answer, is_drawn, is_due, is_empty, is_payload, brings_nothing, is_possible, takes_datagram, need, replies_with, with_answer}
use Rattle.guest_process.specs.GoesOn.{thread_goes_on, handler}
use Rattle.guest_process.specs.Kinds.{ends_process}
use Rattle.guest_process.specs.Legal.{entry_checks, need_gives_answer, is_handled, reason_at}
use Rattle.guest_process.specs.Live.{Env, Event, AnsweredCall, answered_now, as_given, chosen_signal, cut_datagram, drawn_of, event, event_of_waiting, from_world, is_ready_signal, lowest_signal, random_answer, taken_of, wall_time_at_waking, world_answer}
use Rattle.guest_process.specs.Next.{next_at_thread}
use Rattle.guest_process.specs.OneEvent.{WorldBrings, MailboxMatchesAnswer, Possible, IsHeadOfMailbox, WorldSupplies, Unless, SomeWorldAllows, datagram_as, mailbox_for}
use Rattle.guest_process.specs.State.{State, is_running, thread_at}
use Rattle.guest_process.specs.Fits.{StateFits}
use Rattle.guest_process.proofs.FirstFailure.{all_hold, unless_none}
use Rattle.guest_process.proofs.LegalEntries.{call_told}
use Rattle.guest_process.proofs.AnswerWrites.{asked_good, given_written, not_minus_two, random_short, recv_short, taken_counted, try_recv_short}

not_minus_one : (reply : ℕ) → reply ≤ 60000 → (reply == minus_one) ≡ false
not_minus_one reply low = ne_eqb reply minus_one (λ is. omega (arith, low, is))

here : {P : Type 0} (test : Bool) → test ≡ false → Unless test P → P
here true is h = cc
here false is h = h

there : (test : Bool) (a : Answer) (box : List (List ℕ)) → test ≡ false → MailboxMatchesAnswer test a box → IsHeadOfMailbox a box
there true a box is h = cc
there false a box is h = h

not_there : (test : Bool) (a : Answer) (box : List (List ℕ)) → test ≡ true → MailboxMatchesAnswer test a box → box ≡ []
not_there true a box is h = h
not_there false a box is h = cc

-- ---- the answer

found : {A : Type 0} (b : Bool) (x y : A) → b ≡ true → cond b x y ≡ x
found true x y h = refl
found false x y h = cc

plain_is : (a : Answer) → brings_nothing a.tag a.incoming ≡ true → replies_with a.reply ≡ a
plain_is a h = by_parts a.incoming a.tag h
  where
    by_parts : (incoming : List ℕ) (tag : Option Tag) → brings_nothing tag incoming ≡ true → replies_with a.reply ≡ record { reply = a.reply; incoming = incoming; tag = tag }
    by_parts [] None h = refl
    by_parts (_ ∷ _) None h = cc
    by_parts incoming (Some t) h = cc

-- the answer to a call, with this state after it
abbrev gives : State → Answer → Option AnsweredCall
gives S a = Some (record { answer = a; after = S })

-- ---- random bytes

-- such an answer is that of the bytes that came in
drawn_is : (c : Call) (a : Answer) → is_drawn c a ≡ true → random_answer c.a1 a.incoming ≡ a
drawn_is c a h =
    let parts = and_parts (a.reply == c.a1) (length a.incoming == c.a1 && not (is_some a.tag)) h in
    let tag = (and_parts (length a.incoming == c.a1) (not (is_some a.tag)) parts.1).1 in
    ap (λ reply. told_by reply None) (sym (eqb-true a.reply c.a1 parts.0)) ∙ by_tag a.tag tag
  where
    told_by : ℕ → Option Tag → Answer
    told_by reply tag = record { reply = reply; incoming = a.incoming; tag = tag }

    by_tag : (tag : Option Tag) → not (is_some tag) ≡ true → told_by a.reply None ≡ told_by a.reply tag
    by_tag None h = refl
    by_tag (Some tag) h = cc

drawn_given : (c : Call) (a : Answer) (pool : List ℕ) → is_drawn c a ≡ true → take (length a.incoming) pool ≡ a.incoming → drawn_of c.a1 pool ≡ Some a
drawn_given c a pool h first =
    let count : length a.incoming ≡ c.a1 = eqb-true (length a.incoming) c.a1 (and_parts (length a.incoming == c.a1) (not (is_some a.tag)) (and_parts (a.reply == c.a1) _ h).1).0 in
    let many : min (length a.incoming) (length pool) ≡ length a.incoming = sym (length-take (length a.incoming) pool) ∙ ap length first in
    found (nat_le c.a1 (length pool)) _ _ (le-leb c.a1 (length pool) (omega (arith, count, many)))
    ∙ ap (λ n. Some (random_answer c.a1 (take n pool))) (sym count)
    ∙ ap (λ bytes. Some (random_answer c.a1 bytes)) first
    ∙ ap Some (drawn_is c a h)

-- ---- datagrams

module _ (again : IsReadBack) where
  read_sent : (count : ℕ) (tag : Option Tag) (payload : List ℕ) → count ≤ 16 → is_payload count tag payload ≡ true → read_datagram count (datagram_as tag payload) ≡ (tag, payload)
  read_sent count None payload few h = by_tag (tag_at count payload) h
    where
      by_tag : (o : Option (Tag × List ℕ)) → not (is_some o) ≡ true → payload_behind payload o ≡ (None, payload)
      by_tag None h = refl
      by_tag (Some found) h = cc
  read_sent count (Some tag) payload few h =
      ap (payload_behind (tag_bytes tag ++ payload)) (again count tag payload (omega (arith, few)) h)

  -- a datagram that was taken is taken so
  cut_is : (count : ℕ) (c : Call) (a : Answer) → count ≤ 16 → takes_datagram count c a ≡ true → cut_datagram c.a1 (read_datagram count (datagram_as a.tag a.incoming)) ≡ a
  cut_is count c a few h =
      let parts = and_parts (takes_counted c a) (is_payload count a.tag a.incoming) h in
      let counts = and_parts (a.reply == length a.incoming) (nat_le (length a.incoming) c.a1) parts.0 in
      let whole = take_all c.a1 a.incoming (leb-true (length a.incoming) c.a1 counts.1) in
      ap (cut_datagram c.a1) (read_sent count a.tag a.incoming few parts.1)
      ∙ ap {B = Answer} (λ bytes. record { reply = length bytes; incoming = bytes; tag = a.tag }) whole
      ∙ ap {B = Answer} (λ reply. record { reply = reply; incoming = a.incoming; tag = a.tag }) (sym (eqb-true a.reply (length a.incoming) counts.0))

  taken_low : (S : State) (c : Call) (a : Answer) → takes_datagram S.count c a ≡ true → c.a1 ≤ 60000 → a.reply ≤ 60000
  taken_low S c a h short =
      let counts = and_parts (a.reply == length a.incoming) (nat_le (length a.incoming) c.a1) (taken_counted S.count c a h) in
      omega (arith, short, eqb-true a.reply (length a.incoming) counts.0, leb-true (length a.incoming) c.a1 counts.1)

  first_given : (count : ℕ) (c : Call) (a : Answer) (box : List (List ℕ)) → count ≤ 16 → takes_datagram count c a ≡ true → IsHeadOfMailbox a box → taken_of count c.a1 box ≡ Some a
  first_given count c a box few h first = ap (taken_of count c.a1) first.1 ∙ ap Some (cut_is count c a few h)

  recv_gives : (S : State) (c : Call) (a : Answer) (box : List (List ℕ)) → S.count ≤ 16 → c.kind ≡ Recv → is_good c S.store.memory ≡ true → takes_datagram S.count c a ≡ true → Unless (a.reply == minus_one) (IsHeadOfMailbox a box) → taken_of S.count c.a1 box ≡ Some a
  recv_gives S c a box few e good h first =
      let low = taken_low S c a h (recv_short S c e good) in
      first_given S.count c a box few h (here (a.reply == minus_one) (not_minus_one a.reply low) first)

  taken_gives : (S : State) (c : Call) (a : Answer) (box : List (List ℕ)) → S.count ≤ 16 → c.kind ≡ TryRecv → is_good c S.store.memory ≡ true → takes_datagram S.count c a ≡ true → Unless (a.reply == minus_one) (MailboxMatchesAnswer (a.reply == minus_two) a box) → unwrap_or (taken_of S.count c.a1 box) (replies_with minus_two) ≡ a
  taken_gives S c a box few e good h first =
      let low = taken_low S c a h (try_recv_short S c e good) in
      ap (λ taken. unwrap_or taken (replies_with minus_two))
      (first_given S.count c a box few h (there (a.reply == minus_two) a box (not_minus_two a.reply low) (here (a.reply == minus_one) (not_minus_one a.reply low) first)))

  empty_gives : (S : State) (c : Call) (a : Answer) (box : List (List ℕ)) → is_empty a ≡ true → Unless (a.reply == minus_one) (MailboxMatchesAnswer (a.reply == minus_two) a box) → unwrap_or (taken_of S.count c.a1 box) (replies_with minus_two) ≡ a
  empty_gives S c a box h first =
      let parts = and_parts (a.reply == minus_two) (brings_nothing a.tag a.incoming) h in
      let is = eqb-true a.reply minus_two parts.0 in
      ap (λ box. unwrap_or (taken_of S.count c.a1 box) (replies_with minus_two)) (not_there (a.reply == minus_two) a box parts.0 (here (a.reply == minus_one) (ne_eqb a.reply minus_one (λ one. omega (arith, is, one))) first))
      ∙ ap replies_with (sym is)
      ∙ plain_is a parts.1

  -- ---- an answer of the world

  world_gives : (k : Kind) (S : State) (t : ℕ) (c : Call) (a : Answer) (env : Env) → S.count ≤ 16 → c.kind ≡ k → need k S t c ≡ World → is_possible k S c a ≡ true → WorldBrings k a env → world_answer k c S.count env ≡ Some a
  world_gives Now S t c a env few e w h has = ap (λ n. Some (replies_with n)) has ∙ ap Some (plain_is a h)
  world_gives SleepUntil S t c a env few e w h has =
      let parts = and_parts (is_due c.a0 a.reply) (brings_nothing a.tag a.incoming) h in
      ap (wall_time_at_waking c.a0) has ∙ found (is_due c.a0 a.reply) _ _ parts.0 ∙ ap Some (plain_is a parts.1)
  world_gives Random S t c a env few e w h has =
      let good = asked_good S c w in
      let reply = eqb-true a.reply c.a1 (and_parts (a.reply == c.a1) _ h).0 in
      let low : a.reply ≤ 60000 = omega (arith, reply, random_short S c e good) in
      drawn_given c a env.pool h (here (a.reply == minus_one) (not_minus_one a.reply low) has)
  world_gives Recv S t c a env few e w h has = recv_gives S c a env.mailbox few e (asked_good S c w) h has
  world_gives TryRecv S t c a env few e w h has = ap Some (elim (or_cases (takes_datagram S.count c a) (is_empty a) h) [
    | inl taken ↦ taken_gives S c a env.mailbox few e (asked_good S c w) taken has
    | inr empty ↦ empty_gives S c a env.mailbox empty has
  ])
  world_gives _ S t c a env few e w h has = cc

  answer_given : (k : Kind) (S : State) (t : ℕ) (c : Call) (a : Answer) (env : Env) → S.count ≤ 16 → c.kind ≡ k → WorldBrings k a env → (n : Need) → need k S t c ≡ n → need_gives_answer n a (is_possible k S c a) ≡ true → answered_now n (from_world k S c env) ≡ gives (after_need n (with_answer S c a)) a
  answer_given k S t c a env few e has (Fixed reply S') w h =
      let parts = and_parts (a.reply == reply) (brings_nothing a.tag a.incoming) h in
      ap (gives S') (ap replies_with (sym (eqb-true a.reply reply parts.0)) ∙ plain_is a parts.1)
  answer_given k S t c a env few e has Blocked w h = cc
  answer_given k S t c a env few e has World w h =
      ap (option_map (as_given k S c)) (world_gives k S t c a env few e w h has) ∙ ap (λ S'. gives S' a) (sym (given_written k S t c a e w))

-- ---- the signal

-- the only number at which q is asked
abbrev only : ℕ → (ℕ → Bool) → ℕ → Bool
only signal q s = (s == signal) && q s

lowest_past : (q : ℕ → Bool) (signal n s : ℕ) → signal < s → lowest_signal (only signal q) n s ≡ 0
unfolding lowest_signal
lowest_past q signal zero s low = refl
lowest_past q signal (suc n) s low = by_test (s == signal) refl (lowest_past q signal n (s + 1) (omega arith))
  where
    by_test : (b : Bool) → (s == signal) ≡ b → lowest_signal (only signal q) n (s + 1) ≡ 0 → cond (b && q s) s (lowest_signal (only signal q) n (s + 1)) ≡ 0
    by_test true e rest = absurd (omega (arith, low, eqb-true s signal e))
    by_test false e rest = rest

lowest_is : (q : ℕ → Bool) (signal n s : ℕ) → s ≤ signal → signal < s + n → q signal ≡ true → lowest_signal (only signal q) n s ≡ signal
unfolding lowest_signal
lowest_is q signal zero s low high is = absurd (omega arith)
lowest_is q signal (suc n) s low high is = by_test (s == signal) refl (λ more. lowest_is q signal n (s + 1) more (omega arith) is)
  where
    by_test : (b : Bool) → (s == signal) ≡ b → (s + 1 ≤ signal → lowest_signal (only signal q) n (s + 1) ≡ signal) → cond (b && q s) s (lowest_signal (only signal q) n (s + 1)) ≡ signal
    by_test true e rest = let same = eqb-true s signal e in found (q s) _ _ (ap q same ∙ is) ∙ same
    by_test false e rest = rest (omega (arith, low, eqb-false s signal e))

chosen_by : (p : ℕ → Bool) (signal : ℕ) (ends : Bool) → ((signal == 0) || (not ends && (nat_le signal most_signal && p signal))) ≡ true → cond ends 0 (lowest_signal (only signal p) most_signal 1) ≡ signal
chosen_by p signal ends h = by_test ends (signal == 0) refl h
  where
    by_test : (ends none : Bool) → (signal == 0) ≡ none → (none || (not ends && (nat_le signal most_signal && p signal))) ≡ true → cond ends 0 (lowest_signal (only signal p) most_signal 1) ≡ signal
    by_test true true e h = sym (eqb-true signal 0 e)
    by_test true false e h = cc
    by_test false true e h = let is = eqb-true signal 0 e in lowest_past p signal most_signal 1 (omega (arith, is)) ∙ sym is
    by_test false false e h =
        let parts = and_parts (nat_le signal most_signal) (p signal) h in
        lowest_is p signal most_signal 1 (omega (arith, eqb-false signal 0 e)) (omega (arith, leb-true signal most_signal parts.0)) parts.1

lowest_same : (p q : ℕ → Bool) (n s : ℕ) → ((r : ℕ) → s ≤ r → r < s + n → p r ≡ q r) → lowest_signal p n s ≡ lowest_signal q n s
unfolding lowest_signal
lowest_same p q zero s same = refl
lowest_same p q (suc n) s same =
    ap (λ b. cond b s (lowest_signal p n (s + 1))) (same s (omega arith) (omega arith))
    ∙ ap (λ m. cond (q s) s m) (lowest_same p q n (s + 1) (λ r low high. same r (omega (arith, low)) (omega (arith, high))))

chosen_is : (k : Kind) (handlers : List (Option ℕ)) (signal : ℕ) (pending : ℕ → Bool) → ((s : ℕ) → 1 ≤ s → s < 1 + most_signal → pending s ≡ (s == signal)) → is_handled k handlers signal ≡ true → chosen_signal k handlers pending ≡ signal
chosen_is k handlers signal pending only_it h =
    let q : ℕ → Bool = λ s. is_some (handler handlers s) in
    ap (λ n. cond (ends_process k) 0 n) (lowest_same (is_ready_signal handlers pending) (only signal q) most_signal 1 (λ s low high. ap (λ b. b && q s) (only_it s low high)))
    ∙ chosen_by q signal (ends_process k) h

-- ---- the event

-- the event of a thread that stands so, told by these parts of its entry
abbrev told : State → Entry → Waiting → ℕ → ℕ → Call → List ℕ → Event
told S' e w signal clock call outgoing = record {
  state = thread_goes_on w.call.kind S' e.thread w.strand e.reply signal clock;
  entry = record {
    clock = clock;
    thread = e.thread;
    signal = signal;
    call = call;
    reply = e.reply;
    outgoing = outgoing;
    incoming = e.incoming;
    tag = e.tag;
  };
}

same_told : (S' : State) (e : Entry) (w : Waiting) (signal clock : ℕ) (call : Call) (outgoing : List ℕ) → signal ≡ e.signal → clock ≡ e.clock → call ≡ e.call → outgoing ≡ e.outgoing
    → told S' e w signal clock call outgoing ≡ told S' e w e.signal e.clock e.call e.outgoing
same_told S' e w signal clock call outgoing signals clocks calls bytes =
    ap (λ n. told S' e w n clock call outgoing) signals
    ∙ ap (λ n. told S' e w e.signal n call outgoing) clocks
    ∙ ap (λ c. told S' e w e.signal e.clock c outgoing) calls
    ∙ ap (λ bytes. told S' e w e.signal e.clock e.call bytes) bytes

lived : IsReadBack → (S : State) (e : Entry) (env : Env) → StateFits S → WorldSupplies e env → (o : Option Waiting) → thread_at S e.thread ≡ o → reason_at S e o ≡ None → event_of_waiting S e.thread env o ≡ Some (record { state = next_at_thread S e o; entry = e })
lived again S e env s has None at h = cc
lived again S e env s has (Some w) at h =
    let k = w.call.kind in
    let a = answer_of e in
    let S' = effects_of_answer k S e.thread w.call a in
    let holds = all_hold (entry_checks S e w) h in
    let of_kind : e.call.kind ≡ k = ap (λ (c : Call). c.kind) (call_told S e w holds) in
    let brings : WorldBrings k a env = subst (λ (k : Kind). WorldBrings k a env) of_kind has.brings in
    let given = answer_given again k S e.thread w.call a env s.count refl brings (need k S e.thread w.call) refl holds.reply in
    let sent = outgoing_of w.call S.store.memory in
    ap (option_map (event S e.thread env w)) given
    ∙ ap Some (same_told S' e w (chosen_signal k S'.handlers env.pending) (next_clock_of S.clock e.tag) w.call sent
    (chosen_is k S'.handlers e.signal env.pending has.signals holds.handler) (sym (eqb-true e.clock (next_clock_of S.clock e.tag) holds.clock)) (sym (call_told S e w holds)) (sym ((bytes_eq-Decides e.outgoing sent).0 holds.bytes)))

alive_is : (killed running : Bool) → killed ≡ false → running ≡ true → (not killed && running) ≡ true
alive_is true running k r = cc
alive_is false running k r = r

pub possible : IsReadBack → Possible
possible again S e s h env has =
    let parts = unless_none (is_running S) _ _ h in
    found (not env.killed && is_running S) _ _ (alive_is env.killed (is_running S) has.alive parts.0) ∙ lived again S e env s has (thread_at S e.thread) refl parts.1

-- ---- the world in which an entry comes about

unless_any : {P : Type 0} (test : Bool) → P → Unless test P
unless_any true h = tt
unless_any false h = h

in_mailbox : (test : Bool) (a : Answer) → MailboxMatchesAnswer test a (if test then [] else datagram_as a.tag a.incoming ∷ [])
in_mailbox true a = refl
in_mailbox false a = ([], refl)

brought : (k : Kind) (a : Answer) (signal : ℕ) → WorldBrings k a (record { mailbox = mailbox_for k a; pool = a.incoming; time = a.reply; pending = λ s. s == signal; killed = false })
brought Now a signal = refl
brought SleepUntil a signal = refl
brought Random a signal = unless_any (a.reply == minus_one) (take_all (length a.incoming) a.incoming (omega arith))
brought Recv a signal = unless_any (a.reply == minus_one) ([], refl)
brought TryRecv a signal = unless_any (a.reply == minus_one) (in_mailbox (a.reply == minus_two) a)
brought _ a signal = tt

pub world_is_there : SomeWorldAllows
world_is_there e shape = (
  record { time = shape.reply },
  record { alive = refl; brings = brought e.call.kind (answer_of e) e.signal; signals = λ s low high. refl },
)
