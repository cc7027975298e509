-- With good arguments an event takes what is there.
use Rattle.std.proofs.Common.{◌≡◌, ℕ, ◌≤◌, Bool, true, false, cond, not, leb, List, [], ◌∷◌, length, take, Option, Some, None, refl, ap, sym, subst, ◌∙◌, arith}
use Rattle.std.specs.Prelude.{IsTrue, ◌==◌, option_map, unwrap_or}
use Rattle.std.proofs.lemmas.Bool.{and_from, and_parts, eq-eqb, leb-true, ne_eqb}
use Rattle.std.proofs.lemmas.List.{length-take, length-take-le}
use Rattle.std.proofs.lemmas.Option.{same_Some}
use Rattle.call_table.specs.declared.kind.Kind.{Kind}
use Rattle.call_table.specs.declared.kind.Kind.TheVariants.{Random, Recv, TryRecv}
use Rattle.lamport_tag.specs.Tag.{read_datagram}
use Rattle.lib_calls.specs.Answer.{Answer}
use Rattle.lib_calls.specs.Effects.{has_good_ranges, is_good, is_range, minus_one, minus_two}
use Rattle.lib_calls.specs.Traffic.{drawn, draws_as, is_taken, takes_as}
use Rattle.lib_calls.specs.declared.entry.Call.{Call}
use Rattle.lib_calls.specs.declared.entry.Entry.{Entry}
use Rattle.guest_process.specs.Answers.{need, replies_with}
use Rattle.guest_process.specs.Answers as needs
use Rattle.guest_process.specs.Live.{AnsweredCall, Env, Event, answered_now, as_given, cut_datagram, from_world, random_answer, taken_of}
use Rattle.guest_process.specs.State.{State}
use Rattle.group_world.specs.History.{pool}
use Rattle.group_record.specs.Run.{GroupStart, RunStep, Had, world_around, processes_in_group, process_after}
use Rattle.group_record.specs.Laws.{DrawsFromPoolIf, TakesDrawn, TakesWaiting, takes_datagrams}
use Rattle.group_record.specs.Standing.{IsHadEvent, IsRun}
use Rattle.group_record.proofs.RunSteps.{is_run}
use Rattle.group_record.proofs.LogsAgree.{ComesIn, KeepsAfter, Laws, came_in, comes_in, is_of_kind, keeps, stands_last}

-- ---- good arguments name at most 60,000 bytes

good_of_kind : (c : Call) (S : State) (k : Kind) → c.kind ≡ k → is_good c S.store.memory ≡ true → has_good_ranges k c S.store.memory ≡ true
unfolding is_good
good_of_kind c S k of_kind good = sym (ap (λ (k : Kind). has_good_ranges k c S.store.memory) of_kind) ∙ good

range_few : (S : State) (addr len : ℕ) → is_range S.store.memory addr len ≡ true → len ≤ 60000
unfolding is_range
range_few S addr len good = leb-true _ _ (and_parts _ _ good).0

received_few : (k : Kind) (c : Call) (S : State) → takes_datagrams k ≡ true → has_good_ranges k c S.store.memory ≡ true → c.a1 ≤ 60000
received_few Recv c S is good = range_few S c.a0 c.a1 (and_parts _ _ good).0
received_few TryRecv c S is good = range_few S c.a0 c.a1 (and_parts _ _ good).0
received_few _ c S is good = cc

-- such a count is neither -1 nor -2
counts : (reply n : ℕ) → reply ≤ 60000 → 60001 ≤ n → not (reply == n) ≡ true
counts reply n few many = ap not (ne_eqb reply n (λ is. omega (arith, is, few, many)))

-- ---- a datagram that waits

by_world : (good : Bool) (S : State) (world : Option AnsweredCall) (given : AnsweredCall) → good ≡ true → answered_now (cond good needs.World (needs.Fixed minus_one S)) world ≡ Some given → world ≡ Some given
by_world true S world given good is = is
by_world false S world given good is = cc

cut_reply : (S : State) (c : Call) (bytes : List ℕ) (a : Answer) → cut_datagram c.a1 (read_datagram S.count bytes) ≡ a → c.a1 ≤ 60000 → a.reply ≤ 60000
cut_reply S c bytes a is few =
    omega (arith, ap (λ (a : Answer). a.reply) is, length-take c.a1 (read_datagram S.count bytes).1, few)

answer_is : (a b : AnsweredCall) → Some a ≡ Some b → a.answer ≡ b.answer
answer_is a b is = ap (λ (x : AnsweredCall). x.answer) (same_Some a b is)

first_reply : (S : State) (c : Call) (box others : List (List ℕ)) (bytes : List ℕ) (given : AnsweredCall) → box ≡ bytes ∷ others → c.a1 ≤ 60000 → option_map (as_given Recv S c) (taken_of S.count c.a1 box) ≡ Some given → given.answer.reply ≤ 60000
first_reply S c [] others bytes given waits few is = cc
first_reply S c (first ∷ rest) others bytes given waits few is = cut_reply S c first given.answer (answer_is _ given is) few

found_reply : (S : State) (c : Call) (box others : List (List ℕ)) (bytes : List ℕ) (given : AnsweredCall) → box ≡ bytes ∷ others → c.a1 ≤ 60000 → Some (as_given TryRecv S c (unwrap_or (taken_of S.count c.a1 box) (replies_with minus_two))) ≡ Some given → given.answer.reply ≤ 60000
found_reply S c [] others bytes given waits few is = cc
found_reply S c (first ∷ rest) others bytes given waits few is = cut_reply S c first given.answer (answer_is _ given is) few

takes_kind : (k : Kind) (S : State) (t : ℕ) (c : Call) (env : Env) (given : AnsweredCall) (e : Entry) (bytes : List ℕ) (others : List (List ℕ))
    → answered_now (need k S t c) (from_world k S c env) ≡ Some given → e.reply ≡ given.answer.reply → takes_datagrams k ≡ true → is_good c S.store.memory ≡ true → c.a1 ≤ 60000
    → env.mailbox ≡ bytes ∷ others → takes_as k e ≡ true
takes_kind Recv S t c env given e bytes others is told receive good few waits =
    let here = by_world (is_good c S.store.memory) S (from_world Recv S c env) given good is in
    let small : e.reply ≤ 60000 = omega (arith, told, first_reply S c env.mailbox others bytes given waits few here) in
    counts e.reply minus_one small (omega arith)
takes_kind TryRecv S t c env given e bytes others is told receive good few waits =
    let here = by_world (is_good c S.store.memory) S (from_world TryRecv S c env) given good is in
    let small : e.reply ≤ 60000 = omega (arith, told, found_reply S c env.mailbox others bytes given waits few here) in
    and_from (not (e.reply == minus_one)) (not (e.reply == minus_two)) (counts e.reply minus_one small (omega arith)) (counts e.reply minus_two small (omega arith))
takes_kind _ S t c env given e bytes others is told receive good few waits = cc

is_taken_by : (e : Entry) (k : Kind) → e.call.kind ≡ k → takes_as k e ≡ true → IsTrue (is_taken e)
unfolding is_taken
is_taken_by e k of_kind takes = ap (λ (k : Kind). takes_as k e) of_kind ∙ takes

-- ---- an event of a run, with the state in which it came and the call that it answers

pub record Came (group : GroupStart) (early : List RunStep) (p : ℕ) (e : Event) (S : State) : Type 0 where
  pub thread : ℕ
  pub in_it : ComesIn S (world_around (processes_in_group group) early p) thread e
  pub of_kind : e.entry.call.kind ≡ in_it.waiting.call.kind
  pub call : e.entry.call ≡ in_it.waiting.call
  pub reply : e.entry.reply ≡ in_it.given.answer.reply
  pub incoming : e.entry.incoming ≡ in_it.given.answer.incoming

pub came_by : (group : GroupStart) (early : List RunStep) (p : ℕ) (e : Event) (k : KeepsAfter group early p) → IsHadEvent group early p e → Came group early p e k.last
came_by group early p e k had =
    let env = world_around (processes_in_group group) early p in
    let in_it : ComesIn k.last env had.thread e = comes_in k.last env had.thread e (came_in group early p e k had) in
    record {
      thread = had.thread;
      in_it = in_it;
      of_kind = is_of_kind k.last env had.thread e in_it;
      call = ap (λ (e : Event). e.entry.call) in_it.is;
      reply = ap (λ (e : Event). e.entry.reply) in_it.is;
      incoming = ap (λ (e : Event). e.entry.incoming) in_it.is;
    }

came : (laws : Laws) (group : GroupStart) (early : List RunStep) (p : ℕ) (e : Event) (S : State) → IsRun group (Had p e ∷ early) → KeepsAfter group early p → process_after group early p ≡ Some S → Came group early p e S
came laws group early p e S run k stands =
    subst (λ (S : State). Came group early p e S) (same_Some k.last S (sym (stands_last group early p k) ∙ stands)) (came_by group early p e k run.0)

pub takes_waiting : Laws → TakesWaiting
takes_waiting laws group items begun fits later early p e is S stands receive good bytes others waits =
    let run : IsRun group (Had p e ∷ early) = is_run group items fits (Had p e ∷ early) (later, is) in
    let c : Came group early p e S = came laws group early p e S run (keeps laws group begun early run.1 p run.0.within) stands in
    let w = c.in_it.waiting in
    let receives_it : takes_datagrams w.call.kind ≡ true = sym (ap takes_datagrams c.of_kind) ∙ receive in
    let good_it : is_good w.call S.store.memory ≡ true = sym (ap (λ (call : Call). is_good call S.store.memory) c.call) ∙ good in
    let kind_it : w.call.kind ≡ w.call.kind = sym (ap (λ (call : Call). call.kind) c.call) ∙ c.of_kind in
    let few = received_few w.call.kind w.call S receives_it (good_of_kind w.call S w.call.kind kind_it good_it) in
    is_taken_by e.entry w.call.kind c.of_kind
    (takes_kind w.call.kind S c.thread w.call (world_around (processes_in_group group) early p) c.in_it.given e.entry bytes others c.in_it.answer c.reply receives_it good_it few waits)

-- ---- random bytes

-- the answer took the first bytes of the pool
record Drew (c : Call) (pool : List ℕ) (a : Answer) : Type 0 where
  enough : c.a1 ≤ length pool
  reply : a.reply ≡ c.a1
  incoming : a.incoming ≡ take c.a1 pool

drew : (S : State) (c : Call) (env : Env) (given : AnsweredCall) → from_world Random S c env ≡ Some given → Drew c env.pool given.answer
drew S c env given is = by_test (leb c.a1 (length env.pool)) refl is
  where
    by_test : (enough : Bool) → leb c.a1 (length env.pool) ≡ enough → option_map (as_given Random S c) (cond enough (Some (random_answer c.a1 (take c.a1 env.pool))) None) ≡ Some given → Drew c env.pool given.answer
    by_test true e is =
        let answer = answer_is _ given is in
        record { enough = leb-true c.a1 (length env.pool) e; reply = sym (ap (λ (a : Answer). a.reply) answer); incoming = sym (ap (λ (a : Answer). a.incoming) answer) }
    by_test false e is = cc

bad_reply : (good : Bool) (S : State) (world : Option AnsweredCall) (given : AnsweredCall) → good ≡ false → answered_now (cond good needs.World (needs.Fixed minus_one S)) world ≡ Some given → given.answer.reply ≡ minus_one
bad_reply true S world given bad is = cc
bad_reply false S world given bad is = sym (ap (λ (a : Answer). a.reply) (answer_is _ given is))

drawn_by : (e : Entry) → e.call.kind ≡ Random → drawn e ≡ draws_as Random e
unfolding drawn
drawn_by e of_kind = ap (λ (k : Kind). draws_as k e) of_kind

drawn_none : (e : Entry) → e.call.kind ≡ Random → e.reply ≡ minus_one → drawn e ≡ 0
drawn_none e of_kind is = drawn_by e of_kind ∙ ap (λ (test : Bool). cond test 0 (length e.incoming)) (eq-eqb e.reply minus_one is)

drawn_all : (e : Entry) (pool : List ℕ) → e.call.kind ≡ Random → e.reply ≡ e.call.a1 → e.call.a1 ≤ 60000 → e.call.a1 ≤ length pool → e.incoming ≡ take e.call.a1 pool → drawn e ≡ e.call.a1
drawn_all e pool of_kind reply few enough incoming =
    drawn_by e of_kind ∙ ap (λ (test : Bool). cond test 0 (length e.incoming)) (ne_eqb e.reply minus_one (λ is. omega (arith, is, reply, few)))
    ∙ (ap (λ (bytes : List ℕ). length bytes) incoming ∙ length-take-le e.call.a1 pool enough)

asks_few : (c : Call) (S : State) → c.kind ≡ Random → is_good c S.store.memory ≡ true → c.a1 ≤ 60000
asks_few c S of_kind good = range_few S c.a0 c.a1 (good_of_kind c S Random of_kind good)

-- the answer to a call of random at which the process stood
pub record Answers (S : State) (early : List RunStep) (count p : ℕ) (e : Event) : Type 0 where
  pub given : AnsweredCall
  pub answer : answered_now (need Random S 0 e.entry.call) (from_world Random S e.entry.call (world_around count early p)) ≡ Some given
  pub reply : e.entry.reply ≡ given.answer.reply
  pub incoming : e.entry.incoming ≡ given.answer.incoming

pub answers_random : (group : GroupStart) (early : List RunStep) (p : ℕ) (e : Event) (S : State) → Came group early p e S → e.entry.call.kind ≡ Random → Answers S early (processes_in_group group) p e
answers_random group early p e S c of_kind =
    let env = world_around (processes_in_group group) early p in
    let kind : c.in_it.waiting.call.kind ≡ Random = sym c.of_kind ∙ of_kind in
    let at_kind : answered_now (need Random S c.thread c.in_it.waiting.call) (from_world Random S c.in_it.waiting.call env) ≡ Some c.in_it.given =
    subst (λ (k : Kind). answered_now (need k S c.thread c.in_it.waiting.call) (from_world k S c.in_it.waiting.call env) ≡ Some c.in_it.given) kind c.in_it.answer in
    record {
      given = c.in_it.given;
      answer = subst (λ (call : Call). answered_now (need Random S 0 call) (from_world Random S call env) ≡ Some c.in_it.given) (sym c.call) at_kind;
      reply = c.reply;
      incoming = c.incoming;
    }

pub draws_if : (S : State) (early : List RunStep) (count p : ℕ) (e : Event) (good : Bool) → is_good e.entry.call S.store.memory ≡ good → e.entry.call.kind ≡ Random → Answers S early count p e → DrawsFromPoolIf good early p e
draws_if S early count p e true good of_kind a =
    let env = world_around count early p in
    let d : Drew e.entry.call env.pool a.given.answer = drew S e.entry.call env a.given (by_world (is_good e.entry.call S.store.memory) S (from_world Random S e.entry.call env) a.given good a.answer) in
    let few = asks_few e.entry.call S of_kind good in
    record {
      enough = d.enough;
      incoming = a.incoming ∙ d.incoming;
      count = drawn_all e.entry env.pool of_kind (a.reply ∙ d.reply) few d.enough (a.incoming ∙ d.incoming);
    }
draws_if S early count p e false bad of_kind a =
    drawn_none e.entry of_kind (a.reply ∙ bad_reply (is_good e.entry.call S.store.memory) S (from_world Random S e.entry.call (world_around count early p)) a.given bad a.answer)

pub draws : Laws → TakesDrawn
draws laws group items begun fits later early p e is S stands of_kind =
    let run : IsRun group (Had p e ∷ early) = is_run group items fits (Had p e ∷ early) (later, is) in
    let c : Came group early p e S = came laws group early p e S run (keeps laws group begun early run.1 p run.0.within) stands in
    draws_if S early (processes_in_group group) p e (is_good e.entry.call S.store.memory) refl of_kind (answers_random group early p e S c of_kind)
