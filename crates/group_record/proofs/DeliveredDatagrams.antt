-- The datagram that an event took stood first in its process's mailbox.
use Rattle.std.proofs.Common.{◌≡◌, ℕ, ◌≤◌, Bool, true, false, cond, not, List, [], ◌∷◌, take, Option, Some, refl, ap, sym, subst, ◌∙◌, arith}
use Rattle.std.specs.Prelude.{IsTrue, ◌==◌, Contains, option_map, slice_get, unwrap_or}
use Rattle.std.proofs.lemmas.Bool.{and_parts, eqb-false, not-true}
use Rattle.std.proofs.lemmas.Option.{same_Some}
use Rattle.call_table.specs.declared.kind.Kind.{Kind}
use Rattle.call_table.specs.declared.kind.Kind.TheVariants.{Recv, TryRecv}
use Rattle.lamport_tag.specs.Tag.{read_datagram}
use Rattle.lib_calls.specs.Answer.{Answer}
use Rattle.lib_calls.specs.Effects.{is_good, minus_one, minus_two}
use Rattle.lib_calls.specs.Traffic.{is_taken, takes_as}
use Rattle.lib_calls.specs.declared.entry.Call.{Call}
use Rattle.lib_calls.specs.declared.entry.Entry.{Entry}
use Rattle.guest_process.specs.Answers.{need, replies_with}
use Rattle.guest_process.specs.Answers as needs
use Rattle.guest_process.specs.Live.{AnsweredCall, Env, Event, answered_now, as_given, cut_datagram, from_world, live, taken_of}
use Rattle.guest_process.specs.State.{State}
use Rattle.lossy_net.specs.Network.{nth_of}
use Rattle.group_world.specs.History.{Deliver, History, mailbox, sends, taken_count}
use Rattle.group_world.specs.Laws.{GiverOfDatagram, HasOrigin, MailboxIsFifo, NamesSend}
use Rattle.group_record.specs.Run.{GroupStart, RunStep, Had, world_around, history_of_steps, processes_in_group}
use Rattle.group_record.specs.Laws.{Delivery, IsSendInHistory, TakesDatagram}
use Rattle.group_record.specs.Standing.{IsRun}
use Rattle.group_record.proofs.RunSteps.{is_run}
use Rattle.group_record.proofs.LogsAgree.{ComesIn, KeepsAfter, Laws, came_in, comes_in, is_of_kind, keeps}
use Rattle.group_record.proofs.DeliveredSends.{events_fit, is_send, is_told}

-- the answer took the first datagram that waited
pub record Took (S : State) (c : Call) (box : List (List ℕ)) (a : Answer) : Type 0 where
  pub bytes : List ℕ
  pub later : List (List ℕ)
  pub first : box ≡ bytes ∷ later
  pub answer : a ≡ cut_datagram c.a1 (read_datagram S.count bytes)

answer_is : (a b : AnsweredCall) → Some a ≡ Some b → b.answer ≡ a.answer
answer_is a b is = ap (λ (x : AnsweredCall). x.answer) (sym (same_Some a b is))

reply_is : (a b : AnsweredCall) (reply : ℕ) → Some a ≡ Some b → reply ≡ b.answer.reply → reply ≡ a.answer.reply
reply_is a b reply is told = told ∙ ap (λ (x : Answer). x.reply) (answer_is a b is)

-- a test that the reply is another than this
other : (reply n : ℕ) → not (reply == n) ≡ true → reply ≡ n → ⊥
other reply n is same = eqb-false reply n (not-true (reply == n) is) same

taken_first : (S : State) (c : Call) (box : List (List ℕ)) (given : AnsweredCall) → option_map (as_given Recv S c) (taken_of S.count c.a1 box) ≡ Some given → Took S c box given.answer
taken_first S c [] given is = cc
taken_first S c (bytes ∷ later) given is = record { bytes = bytes; later = later; first = refl; answer = answer_is _ given is }

taken_or_empty : (S : State) (c : Call) (box : List (List ℕ)) (given : AnsweredCall) (reply : ℕ) → Some (as_given TryRecv S c (unwrap_or (taken_of S.count c.a1 box) (replies_with minus_two))) ≡ Some given → reply ≡ given.answer.reply
    → not (reply == minus_two) ≡ true → Took S c box given.answer
taken_or_empty S c [] given reply is told not_empty = absurd (other reply minus_two not_empty (reply_is _ given reply is told))
taken_or_empty S c (bytes ∷ later) given reply is told not_empty = record { bytes = bytes; later = later; first = refl; answer = answer_is _ given is }

-- bad arguments are answered -1
if_good : {P : Type 0} (good : Bool) (S : State) (world : Option AnsweredCall) (given : AnsweredCall) (reply : ℕ) → answered_now (cond good needs.World (needs.Fixed minus_one S)) world ≡ Some given
    → reply ≡ given.answer.reply → not (reply == minus_one) ≡ true → (world ≡ Some given → P) → P
if_good true S world given reply is told not_bad then = then is
if_good false S world given reply is told not_bad then = absurd (other reply minus_one not_bad (reply_is _ given reply is told))

pub took : (k : Kind) (S : State) (t : ℕ) (c : Call) (env : Env) (given : AnsweredCall) (e : Entry) → answered_now (need k S t c) (from_world k S c env) ≡ Some given → e.reply ≡ given.answer.reply
    → takes_as k e ≡ true → Took S c env.mailbox given.answer
took Recv S t c env given e is told takes =
    if_good (is_good c S.store.memory) S (from_world Recv S c env) given e.reply is told takes (taken_first S c env.mailbox given)
took TryRecv S t c env given e is told takes =
    let tests = and_parts (not (e.reply == minus_one)) (not (e.reply == minus_two)) takes in
    if_good (is_good c S.store.memory) S (from_world TryRecv S c env) given e.reply is told tests.0
    (λ here. taken_or_empty S c env.mailbox given e.reply here told tests.1)
took _ S t c env given e is told takes = cc

pub takes_kind : (e : Entry) (k : Kind) → e.call.kind ≡ k → IsTrue (is_taken e) → takes_as k e ≡ true
unfolding is_taken
takes_kind e k of_kind taken = sym (ap (λ (k : Kind). takes_as k e) of_kind) ∙ taken

contains_first : (box later : List (List ℕ)) (bytes : List ℕ) → box ≡ bytes ∷ later → Contains box bytes
contains_first box later bytes is = subst (λ (xs : List (List ℕ)). Contains xs bytes) (sym is) (0, omega arith, refl)

-- what is known of the world around processes
pub record WorldLaws : Type 0 where
  pub origin : HasOrigin
  pub turn : MailboxIsFifo
  pub named : NamesSend

-- the datagram that comes first is that which was given next after those that were taken
turn_of : MailboxIsFifo → (count : ℕ) (h : History) (p : ℕ) (bytes : List ℕ) (later : List (List ℕ)) → mailbox count h p ≡ bytes ∷ later → GiverOfDatagram count h p (taken_count h p) bytes
turn_of turn count h p bytes later first =
    turn.giver count h p (taken_count h p) bytes (sym (turn.front count h p) ∙ ap (λ (box : List (List ℕ)). slice_get box 0) first)

event_takes : WorldLaws → (group : GroupStart) (early : List RunStep) (p : ℕ) (e : Event) → processes_in_group group ≤ 16 → IsRun group early → (k : KeepsAfter group early p) (thread : ℕ)
    → live k.last thread (world_around (processes_in_group group) early p) ≡ Some e → IsTrue (is_taken e.entry) → TakesDatagram (processes_in_group group) early p e
event_takes laws group early p e few run k thread comes takes =
    let env = world_around (processes_in_group group) early p in
    let in_it : ComesIn k.last env thread e = comes_in k.last env thread e comes in
    let w = in_it.waiting in
    let reply : e.entry.reply ≡ in_it.given.answer.reply = ap (λ (e : Event). e.entry.reply) in_it.is in
    let t = took w.call.kind k.last thread w.call env in_it.given e.entry in_it.answer reply (takes_kind e.entry w.call.kind (is_of_kind k.last env thread e in_it) takes) in
    let answer : in_it.given.answer ≡ cut_datagram e.entry.call.a1 (read_datagram (processes_in_group group) t.bytes) =
    t.answer ∙ ap (λ (n : ℕ). cut_datagram w.call.a1 (read_datagram n t.bytes)) k.group_size ∙ ap (λ (n : ℕ). cut_datagram n (read_datagram (processes_in_group group) t.bytes)) (sym (ap (λ (e : Event). e.entry.call.a1) in_it.is)) in
    let tag : e.entry.tag ≡ (read_datagram (processes_in_group group) t.bytes).0 = ap (λ (e : Event). e.entry.tag) in_it.is ∙ ap (λ (a : Answer). a.tag) answer in
    let payload : e.entry.incoming ≡ take e.entry.call.a1 (read_datagram (processes_in_group group) t.bytes).1 = ap (λ (e : Event). e.entry.incoming) in_it.is ∙ ap (λ (a : Answer). a.incoming) answer in
    let giver = turn_of laws.turn (processes_in_group group) (history_of_steps early) p t.bytes t.later t.first in
    let sent : (q n : ℕ) → giver.act ≡ Deliver q n → IsSendInHistory (nth_of (sends (processes_in_group group) giver.earlier q) n) q p e.entry = is_send laws.named (processes_in_group group) (history_of_steps early) p (taken_count (history_of_steps early) p) t.bytes e.entry (omega (arith, few)) (events_fit group early run) giver tag payload in
    record {
      bytes = t.bytes;
      later = t.later;
      first = t.first;
      tag = tag;
      payload = payload;
      origin = laws.origin (processes_in_group group) (history_of_steps early) p t.bytes (contains_first _ t.later t.bytes t.first);
      giver = giver;
      sent = sent;
      told = λ q n is. is_told (processes_in_group group) (history_of_steps early) p (taken_count (history_of_steps early) p) t.bytes e.entry giver q n (sent q n is);
    }

pub delivers : WorldLaws → Laws → Delivery
delivers world laws group items begun fits later early p e is takes =
    let run : IsRun group (Had p e ∷ early) = is_run group items fits (Had p e ∷ early) (later, is) in
    let k : KeepsAfter group early p = keeps laws group begun early run.1 p run.0.within in
    event_takes world group early p e begun.few run.1 k run.0.thread (came_in group early p e k run.0) takes
