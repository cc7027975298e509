-- What is to be shown of each kind of call.
use Rattle.std.proofs.Common.{◌≡◌, ℕ, ◌<◌, ◌≤◌, ◌^◌, Bool, true, false, cond, not, List, [], ◌∷◌, length, take, Option, Some, None, inl, inr, refl, ap, subst, arith}
use Rattle.std.specs.Prelude.{◌==◌, nat_le, is_some, slice_get, unwrap_or}
use Rattle.std.proofs.lemmas.Bool.{and_parts, and_from, or_cases, or_left, or_right, eq-eqb, leb-true, le-leb}
use Rattle.std.proofs.lemmas.Bool.Decides.{nat_tests}
use Rattle.std.proofs.lemmas.List.{length-take, length-take-le}
use Rattle.std.proofs.lemmas.Option.{same_Some}
use Rattle.coop_threads.specs.Crew.{holder_of, most_threads, status_of}
use Rattle.coop_threads.specs.Locks.{grip_of}
use Rattle.coop_threads.specs.declared.grip.Grip.{Grip}
use Rattle.coop_threads.specs.declared.grip.Grip.TheVariants.{Got, Already, Held}
use Rattle.coop_threads.specs.declared.status.Status.{Status}
use Rattle.coop_threads.specs.declared.status.Status.TheVariants.{Unknown, Live, Taken, Ended}
use Rattle.lamport_tag.specs.declared.Tag.{Tag}
use Rattle.lamport_tag.specs.Laws.{IsFromGroup, StaysUntagged}
use Rattle.lamport_tag.specs.Tag.{clock_of, is_sendable, payload_behind, read_datagram, tag_at}
use Rattle.lib_calls.specs.declared.entry.Call.{Call}
use Rattle.lib_calls.specs.Effects.{is_good, minus_one, minus_two, takes_counted}
use Rattle.lib_calls.specs.Entry.{HasArguments, IsNumberIf, IsStringIf, IsTagIf}
use Rattle.call_table.specs.Table.{row}
use Rattle.call_table.specs.declared.kind.Kind.{Kind}
use Rattle.call_table.specs.declared.kind.Kind.TheVariants.{Begin, Exit, Note, Print, Now, SleepUntil, Random, Me, Send, Recv, TryRecv, Spawn, Yield, Join, Lock, Unlock, OnSignal, Thread as Number}
use Rattle.lib_calls.specs.Answer.{Answer}
use Rattle.wasm_step.specs.Strand.{new_thread}
use Rattle.wasm_stack.specs.Thread.{Thread}
use Rattle.guest_process.specs.Answers.{Need, Fixed, Blocked, World, need_of_world, need, handled, handler_given, handles_signal, is_empty, is_lock_holder, is_payload, is_possible, is_due, brings_nothing, takes_datagram, joined, joins_standing, locked, asks_for_lock, narrow, replied, replies_with, spawnable, spawned, spawned_at_index, spawns_thread, unlocked}
use Rattle.guest_process.specs.Fits.{EnvFits, StateFits}
use Rattle.guest_process.specs.Legal.{need_gives_answer}
use Rattle.guest_process.specs.Live.{Env, cut_datagram, random_answer, taken_of, world_answer}
use Rattle.guest_process.specs.State.{State, without_lock}
use Rattle.guest_process.proofs.FirstFailure.{kept, same}
use Rattle.guest_process.proofs.AnswerWrites.{asked_good, random_short, recv_short, try_recv_short}

-- no bytes and no tag, which every kind may have
pub no_bytes : (b : Bool) → IsStringIf b []
no_bytes true = omega arith
no_bytes false = refl

pub no_tag : (b : Bool) → IsTagIf b None
no_tag true = tt
no_tag false = refl

-- ---- what the process answers

abbrev pub ReplyFits : Need → Type 0
ReplyFits (Fixed r S) = r < 2 ^ 64
ReplyFits Blocked = Unit {0}
ReplyFits World = Unit {0}

number_fits : (b : Bool) (n : ℕ) → IsNumberIf b n → n < 2 ^ 64
number_fits true n h = h
number_fits false n h = omega (arith, h)

replied_fits : (S : State) (c : Call) (reply : ℕ) → reply < 2 ^ 64 → ReplyFits (replied S c reply)
replied_fits S c reply fits = by_test (is_good c S.store.memory)
  where
    by_test : (b : Bool) → cond b reply minus_one < 2 ^ 64
    by_test true = fits
    by_test false = omega arith

asked_fits : (S : State) (c : Call) → ReplyFits (need_of_world S c)
asked_fits S c = by_test (is_good c S.store.memory)
  where
    by_test : (b : Bool) → ReplyFits (cond b World (Fixed minus_one S))
    by_test true = tt
    by_test false = omega arith

joined_fits : (S : State) (t u : ℕ) → ReplyFits (joined S t u)
joined_fits S t u = by_test (u == t)
  where
    by_status : (status : Status) → ReplyFits (joins_standing S status)
    by_status Unknown = omega arith
    by_status Live = tt
    by_status Taken = tt
    by_status Ended = omega arith

    by_test : (b : Bool) → ReplyFits (cond b (Fixed minus_one S) (joins_standing S (status_of (slice_get S.crew.threads u))))
    by_test true = omega arith
    by_test false = by_status (status_of (slice_get S.crew.threads u))

locked_fits : (S : State) (m t : ℕ) → ReplyFits (locked S m t)
locked_fits S m t = by_grip (grip_of (holder_of S.crew m) t)
  where
    by_grip : (grip : Grip) → ReplyFits (asks_for_lock S m t grip)
    by_grip Got = omega arith
    by_grip Already = omega arith
    by_grip (Held holder) = tt

unlocked_fits : (S : State) (m t : ℕ) → ReplyFits (unlocked S m t)
unlocked_fits S m t = by_test (is_lock_holder (holder_of S.crew m) t)
  where
    by_test : (b : Bool) → ReplyFits (cond b (Fixed 0 (without_lock S m)) (Fixed minus_one S))
    by_test true = omega arith
    by_test false = omega arith

handled_fits : (S : State) (signal number : ℕ) → ReplyFits (handled S signal number)
handled_fits S signal number = by_given (handler_given S signal number)
  where
    by_given : (o : Option (Option ℕ)) → ReplyFits (handles_signal S signal o)
    by_given None = omega arith
    by_given (Some h) = omega arith

spawned_fits : (S : State) (index arg : ℕ) → length S.crew.threads ≤ most_threads → ReplyFits (spawned S index arg)
spawned_fits S index arg few = by_func (spawnable S index)
  where
    by_thread : (o : Option Thread) → ReplyFits (spawns_thread S o)
    by_thread None = omega arith
    by_thread (Some thread) = omega (arith, few)

    by_func : (o : Option ℕ) → ReplyFits (spawned_at_index S arg o)
    by_func None = omega arith
    by_func (Some f) = by_thread (new_thread S.store.«module» f arg)

pub reply_fits : (k : Kind) (S : State) (t : ℕ) (c : Call) → StateFits S → t < most_threads → HasArguments c → ReplyFits (need k S t c)
reply_fits Begin S t c s low args = omega arith
reply_fits Exit S t c s low args = omega arith
reply_fits Note S t c s low args = omega arith
reply_fits Print S t c s low args = replied_fits S c c.a1 (number_fits _ c.a1 args.second)
reply_fits Now S t c s low args = tt
reply_fits SleepUntil S t c s low args = tt
reply_fits Random S t c s low args = asked_fits S c
reply_fits Me S t c s low args = omega (arith, s.who, s.count)
reply_fits Send S t c s low args = replied_fits S c c.a2 (number_fits _ c.a2 args.third)
reply_fits Recv S t c s low args = asked_fits S c
reply_fits TryRecv S t c s low args = asked_fits S c
reply_fits Spawn S t c s low args = spawned_fits S (narrow c.a0) (narrow c.a1) s.room
reply_fits Yield S t c s low args = omega arith
reply_fits Join S t c s low args = joined_fits S t (narrow c.a0)
reply_fits Lock S t c s low args = locked_fits S (narrow c.a0) t
reply_fits Unlock S t c s low args = unlocked_fits S (narrow c.a0) t
reply_fits OnSignal S t c s low args = handled_fits S (narrow c.a0) (narrow c.a1)
reply_fits Number S t c s low args = omega arith

-- ---- what the world answers

-- what its answer is to satisfy
pub record Matches (k : Kind) (S : State) (c : Call) (a : Answer) : Type 0 where
  pub possible : is_possible k S c a ≡ true
  pub reply : a.reply < 2 ^ 64
  pub incoming : IsStringIf (row k).entry.incoming a.incoming
  pub tag : IsTagIf (row k).entry.tag a.tag
  pub clock : clock_of a.tag ≤ 2 ^ 62

drawn_matches : (S : State) (c : Call) (pool : List ℕ) → c.kind ≡ Random → is_good c S.store.memory ≡ true → nat_le c.a1 (length pool) ≡ true → Matches Random S c (random_answer c.a1 (take c.a1 pool))
drawn_matches S c pool e good enough =
    let long : length (take c.a1 pool) ≡ c.a1 = length-take-le c.a1 pool (leb-true c.a1 (length pool) enough) in
    let short = random_short S c e good in
    record {
      possible = and_from _ _ (same c.a1) (and_from _ _ (eq-eqb (length (take c.a1 pool)) c.a1 long) refl);
      reply = omega (arith, short);
      incoming = omega (arith, long, short);
      tag = refl;
      clock = omega arith;
    }

-- the numbers of a tag that a process of the group can have sent
pub sendable : (count : ℕ) (tag : Tag) → is_sendable count tag ≡ true → (tag.sender < count) × (1 ≤ tag.clock) × (tag.clock ≤ 2 ^ 62)
sendable count tag tests = grind (arith, nat_tests)

pub payload_clock : (count : ℕ) (tag : Option Tag) (payload : List ℕ) → is_payload count tag payload ≡ true → clock_of tag ≤ 2 ^ 62
payload_clock count None payload h = omega arith
payload_clock count (Some tag) payload h = (sendable count tag h).2

payload_tag : (count : ℕ) (tag : Option Tag) (payload : List ℕ) → count ≤ 16 → is_payload count tag payload ≡ true → IsTagIf true tag
payload_tag count None payload few h = tt
payload_tag count (Some tag) payload few h =
    let fits = sendable count tag h in
    (omega (arith, few, fits.0), omega (arith, fits.2))

module _ (stays : StaysUntagged) (sent : IsFromGroup) where
  -- the payload of a datagram is such, however it is cut
  cut_payload : (count cap : ℕ) (datagram : List ℕ) → count ≤ 16 → is_payload count (read_datagram count datagram).0 (take cap (read_datagram count datagram).1) ≡ true
  cut_payload count cap datagram few = by_tag (tag_at count datagram) refl
    where
      by_tag : (o : Option (Tag × List ℕ)) → tag_at count datagram ≡ o → is_payload count (payload_behind datagram o).0 (take cap (payload_behind datagram o).1) ≡ true
      by_tag None e = ap (λ (o : Option (Tag × List ℕ)). not (is_some o)) (stays count cap datagram (omega (arith, few)) e)
      by_tag (Some found) e = sent count datagram found.0 found.1 e

  -- what a datagram brings
  record Brings (S : State) (c : Call) (a : Answer) : Type 0 where
    taken : takes_datagram S.count c a ≡ true
    reply : a.reply ≤ c.a1
    incoming : length a.incoming ≤ c.a1
    tag : IsTagIf true a.tag
    clock : clock_of a.tag ≤ 2 ^ 62

  cut_brings : (S : State) (c : Call) (datagram : List ℕ) → S.count ≤ 16 → Brings S c (cut_datagram c.a1 (read_datagram S.count datagram))
  cut_brings S c datagram few =
      let read = read_datagram S.count datagram in
      let bytes = take c.a1 read.1 in
      let short : length bytes ≤ c.a1 = omega (arith, length-take c.a1 read.1) in
      let payload = cut_payload S.count c.a1 datagram few in
      record {
        taken = and_from _ _ (and_from _ _ (same (length bytes)) (le-leb (length bytes) c.a1 short)) payload;
        reply = short;
        incoming = short;
        tag = payload_tag S.count read.0 bytes few payload;
        clock = payload_clock S.count read.0 bytes payload;
      }

  recv_matches : (S : State) (c : Call) (a : Answer) → c.kind ≡ Recv → is_good c S.store.memory ≡ true → Brings S c a → Matches Recv S c a
  recv_matches S c a e good b =
      let short = recv_short S c e good in
      record { possible = b.taken; reply = omega (arith, short, b.reply); incoming = omega (arith, short, b.incoming); tag = b.tag; clock = b.clock }

  try_recv_matches : (S : State) (c : Call) (a : Answer) → c.kind ≡ TryRecv → is_good c S.store.memory ≡ true → Brings S c a → Matches TryRecv S c a
  try_recv_matches S c a e good b =
      let short = try_recv_short S c e good in
      record { possible = or_left _ _ b.taken; reply = omega (arith, short, b.reply); incoming = omega (arith, short, b.incoming); tag = b.tag; clock = b.clock }

  none_matches : (S : State) (c : Call) → Matches TryRecv S c (replies_with minus_two)
  none_matches S c = record {
    possible = or_right (takes_datagram S.count c (replies_with minus_two)) _ refl;
    reply = omega arith;
    incoming = omega arith;
    tag = tt;
    clock = omega arith;
  }

  first_matches : (S : State) (c : Call) (mailbox : List (List ℕ)) → S.count ≤ 16 → c.kind ≡ Recv → is_good c S.store.memory ≡ true → (a : Answer) → taken_of S.count c.a1 mailbox ≡ Some a → Matches Recv S c a
  first_matches S c [] few e good a h = cc
  first_matches S c (datagram ∷ waiting) few e good a h =
      subst (Matches Recv S c) (same_Some _ _ h) (recv_matches S c _ e good (cut_brings S c datagram few))

  tried_matches : (S : State) (c : Call) (mailbox : List (List ℕ)) → S.count ≤ 16 → c.kind ≡ TryRecv → is_good c S.store.memory ≡ true → Matches TryRecv S c (unwrap_or (taken_of S.count c.a1 mailbox) (replies_with minus_two))
  tried_matches S c [] few e good = none_matches S c
  tried_matches S c (datagram ∷ waiting) few e good = try_recv_matches S c _ e good (cut_brings S c datagram few)

  pub world_matches : (k : Kind) (S : State) (t : ℕ) (c : Call) (env : Env) → S.count ≤ 16 → EnvFits env → c.kind ≡ k → need k S t c ≡ World → (a : Answer) → world_answer k c S.count env ≡ Some a → Matches k S c a
  world_matches Now S t c env few e n w a h =
      subst (Matches Now S c) (same_Some _ _ h) (record { possible = refl; reply = e.time; incoming = refl; tag = refl; clock = omega arith })
  world_matches SleepUntil S t c env few e n w a h =
      let k = kept _ _ a h in
      subst (Matches SleepUntil S c) (same_Some _ _ k.1) (record { possible = and_from _ _ k.0 refl; reply = e.time; incoming = refl; tag = refl; clock = omega arith })
  world_matches Random S t c env few e n w a h =
      let k = kept _ _ a h in
      subst (Matches Random S c) (same_Some _ _ k.1) (drawn_matches S c env.pool n (asked_good S c w) k.0)
  world_matches Recv S t c env few e n w a h = first_matches S c env.mailbox few n (asked_good S c w) a h
  world_matches TryRecv S t c env few e n w a h =
      subst (Matches TryRecv S c) (same_Some _ _ h) (tried_matches S c env.mailbox few n (asked_good S c w))
  world_matches _ S t c env few e n w a h = cc

-- ---- the clocks of tags

-- a plain answer has no tag
pub plain_tag : (tag : Option Tag) (incoming : List ℕ) → brings_nothing tag incoming ≡ true → tag ≡ None
plain_tag None incoming h = refl
plain_tag (Some t) incoming h = cc

pub drawn_tag : (tag : Option Tag) → not (is_some tag) ≡ true → tag ≡ None
drawn_tag None h = refl
drawn_tag (Some t) h = cc

taken_clock : (count : ℕ) (c : Call) (a : Answer) → takes_datagram count c a ≡ true → clock_of a.tag ≤ 2 ^ 62
taken_clock count c a h = payload_clock count a.tag a.incoming (and_parts (takes_counted c a) (is_payload count a.tag a.incoming) h).1

-- no tag that an answer of the world can have bears a clock past 2 ^ 62
possible_clock : (k : Kind) (S : State) (c : Call) (a : Answer) → is_possible k S c a ≡ true → clock_of a.tag ≤ 2 ^ 62
possible_clock Now S c a h = rw (plain_tag a.tag a.incoming h) (omega arith)
possible_clock SleepUntil S c a h = rw (plain_tag a.tag a.incoming (and_parts (is_due c.a0 a.reply) (brings_nothing a.tag a.incoming) h).1) (omega arith)
possible_clock Random S c a h = rw (drawn_tag a.tag (and_parts (length a.incoming == c.a1) (not (is_some a.tag)) (and_parts (a.reply == c.a1) _ h).1).1) (omega arith)
possible_clock Recv S c a h = taken_clock S.count c a h
possible_clock TryRecv S c a h = elim (or_cases (takes_datagram S.count c a) (is_empty a) h) [
  | inl taken ↦ taken_clock S.count c a taken
  | inr empty ↦ rw (plain_tag a.tag a.incoming (and_parts (a.reply == minus_two) (brings_nothing a.tag a.incoming) empty).1) (omega arith)
]
possible_clock _ S c a h = cc

pub answer_clock : (k : Kind) (S : State) (c : Call) (n : Need) (a : Answer) → need_gives_answer n a (is_possible k S c a) ≡ true → clock_of a.tag ≤ 2 ^ 62
answer_clock k S c (Fixed r S') a h = rw (plain_tag a.tag a.incoming (and_parts (a.reply == r) (brings_nothing a.tag a.incoming) h).1) (omega arith)
answer_clock k S c Blocked a h = cc
answer_clock k S c World a h = possible_clock k S c a h
