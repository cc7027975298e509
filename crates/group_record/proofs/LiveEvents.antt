-- The event of a try, from what is asked of a process and of the world around it.
use Rattle.std.proofs.Common.{◌≡◌, ℕ, ◌<◌, ◌≤◌, ◌^◌, Bool, true, false, ◌&&◌, not, eqb, cond, List, [], ◌∷◌, length, take, Option, Some, None, refl, ap, sym, subst, ◌∙◌, arith}
use Rattle.std.specs.Prelude.{option_map, nat_le, unwrap_or}
use Rattle.std.proofs.lemmas.Bool.Decides.{nat_tests}
use Rattle.std.proofs.lemmas.List.{length-take}
use Rattle.std.proofs.lemmas.Option.{same_Some}
use Rattle.call_table.specs.declared.kind.Kind.{Kind}
use Rattle.call_table.specs.declared.kind.Kind.TheVariants.{Random, Recv, TryRecv}
use Rattle.lamport_tag.specs.Tag.{clock_of, next_clock_of}
use Rattle.lib_calls.specs.Answer.{Answer}
use Rattle.lib_calls.specs.Effects.{is_good, minus_one, minus_two, outgoing_of}
use Rattle.lib_calls.specs.Traffic.{draws_as, drawn, is_taken, takes_as}
use Rattle.lib_calls.specs.declared.entry.Call.{Call}
use Rattle.lib_calls.specs.declared.entry.Entry.{Entry}
use Rattle.lib_calls.specs.Entry.{IsShaped}
use Rattle.guest_process.specs.declared.need.Need.{Need as PlainNeed}
use Rattle.guest_process.specs.declared.waiting.Waiting.{Waiting}
use Rattle.guest_process.specs.Answers.{Need, Fixed, Blocked, World, need, replies_with}
use Rattle.guest_process.specs.Fits.{EnvFits, StateFits}
use Rattle.guest_process.specs.Live.{AnsweredCall, Env, Event, answered_now, as_given, chosen_signal, drawn_of, event, event_of_waiting, from_world, live, taken_of, world_answer}
use Rattle.guest_process.specs.OneEvent.{IsKeptByEvents, OneEvent, Rises}
use Rattle.guest_process.specs.Meanings.{able, plain_need}
use Rattle.guest_process.specs.State.{State, is_running, thread_at}
use Rattle.group_record.specs.inside.Around.{answer_by, signal_with_answer, world_gives}
use Rattle.group_record.specs.inside.Recorded.{IsLiveEntry}
use Rattle.group_record.proofs.ReadySignals.{chosen_is, handlers_after}

-- ---- the answer

abbrev answer_in : AnsweredCall → Answer
answer_in a = a.answer

answers_same : (k : Kind) (S : State) (c : Call) (o : Option Answer) → option_map answer_in (option_map (as_given k S c) o) ≡ o
answers_same k S c None = refl
answers_same k S c (Some a) = refl

-- of a call of this kind
of_kind : (k : Kind) (c : Call) (count : ℕ) (env : Env) → c.kind ≡ k → world_gives c count env ≡ world_answer k c count env
of_kind k c count env is = ap (λ (k : Kind). world_answer k c count env) is

-- what is answered is what the process and the world give
answer_same : (k : Kind) (S : State) (c : Call) (env : Env) (n : Need) → c.kind ≡ k
    → option_map answer_in (answered_now n (from_world k S c env)) ≡ answer_by (plain_need n) c S.count env
answer_same k S c env (Fixed reply after) is = refl
answer_same k S c env Blocked is = refl
answer_same k S c env World is = answers_same k S c (world_answer k c S.count env) ∙ sym (of_kind k c S.count env is)

-- ---- what is taken is there

-- bad arguments are answered -1
bad_or : (S : State) (c : Call) (count : ℕ) (env : Env) (a : Answer) (P : Type 0) (good : Bool) → answer_by (plain_need (cond good World (Fixed minus_one S))) c count env ≡ Some a
    → (world_gives c count env ≡ Some a → P) → (a ≡ replies_with minus_one → P) → P
bad_or S c count env a P true h from bad = from h
bad_or S c count env a P false h from bad = bad (sym (same_Some _ _ h))

one_there : (count cap : ℕ) (mailbox : List (List ℕ)) (a : Answer) → taken_of count cap mailbox ≡ Some a → 1 ≤ length mailbox
one_there count cap [] a h = cc
one_there count cap (datagram ∷ mailbox) a h = omega arith

one_or_none : (count cap : ℕ) (mailbox : List (List ℕ)) (a : Answer) (P : Type 0) → unwrap_or (taken_of count cap mailbox) (replies_with minus_two) ≡ a → (1 ≤ length mailbox → P) → (a ≡ replies_with minus_two → P) → P
one_or_none count cap [] a P h there none = none (sym h)
one_or_none count cap (datagram ∷ mailbox) a P h there none = there (omega arith)

both_not : (a b : Bool) → (a && b) ≡ true → a ≡ true
both_not true b h = refl
both_not false b h = cc

both_not_last : (a b : Bool) → (a && b) ≡ true → b ≡ true
both_not_last true b h = h
both_not_last false b h = cc

not_this : (n m : ℕ) → n ≡ m → not (eqb n m) ≡ true → ⊥
not_this n m same h = grind (arith, nat_tests)

takes_there : (k : Kind) (S : State) (t : ℕ) (c : Call) (env : Env) (a : Answer) (e : Entry) → c.kind ≡ k → answer_by (plain_need (need k S t c)) c S.count env ≡ Some a
    → e.reply ≡ a.reply → takes_as k e ≡ true → 1 ≤ length env.mailbox
takes_there Recv S t c env a e is given reply takes =
    bad_or S c S.count env a (1 ≤ length env.mailbox) (is_good c S.store.memory) given
    (λ from. one_there S.count c.a1 env.mailbox a (sym (of_kind Recv c S.count env is) ∙ from))
    (λ bad. absurd (not_this e.reply minus_one (reply ∙ ap (λ (a : Answer). a.reply) bad) takes))
takes_there TryRecv S t c env a e is given reply takes =
    bad_or S c S.count env a (1 ≤ length env.mailbox) (is_good c S.store.memory) given
    (λ from. one_or_none S.count c.a1 env.mailbox a (1 ≤ length env.mailbox) (same_Some _ _ (sym (of_kind TryRecv c S.count env is) ∙ from)) (λ there. there)
    (λ none. absurd (not_this e.reply minus_two (reply ∙ ap (λ (a : Answer). a.reply) none) (both_not_last (not (eqb e.reply minus_one)) _ takes))))
    (λ bad. absurd (not_this e.reply minus_one (reply ∙ ap (λ (a : Answer). a.reply) bad) (both_not (not (eqb e.reply minus_one)) _ takes)))
takes_there _ S t c env a e is given reply takes = cc

few_drawn : (count : ℕ) (pool : List ℕ) (a : Answer) → drawn_of count pool ≡ Some a → length a.incoming ≤ length pool
few_drawn count pool a h = by_test (nat_le count (length pool)) h
  where
    few : length (take count pool) ≤ length pool
    few = omega (arith, length-take count pool)

    by_test : (enough : Bool) → cond enough (Some (record { reply = count; incoming = take count pool; tag = None })) None ≡ Some a → length a.incoming ≤ length pool
    by_test true h = subst (λ (a : Answer). length a.incoming ≤ length pool) (same_Some _ _ h) few
    by_test false h = cc

none_or : (test : Bool) (n m : ℕ) → n ≤ m → cond test 0 n ≤ m
none_or true n m h = omega arith
none_or false n m h = h

draws_there : (k : Kind) (S : State) (t : ℕ) (c : Call) (env : Env) (a : Answer) (e : Entry) → c.kind ≡ k → answer_by (plain_need (need k S t c)) c S.count env ≡ Some a
    → e.incoming ≡ a.incoming → draws_as k e ≤ length env.pool
draws_there Random S t c env a e is given incoming =
    none_or (eqb e.reply minus_one) (length e.incoming) (length env.pool)
    (subst (λ (bytes : List ℕ). length bytes ≤ length env.pool) (sym incoming)
    (bad_or S c S.count env a (length a.incoming ≤ length env.pool) (is_good c S.store.memory) given
    (λ from. few_drawn c.a1 env.pool a (sym (of_kind Random c S.count env is) ∙ from))
    (λ bad. subst (λ (a : Answer). length a.incoming ≤ length env.pool) (sym bad) (omega arith))))
draws_there _ S t c env a e is given incoming = omega arith

-- ---- the thread

one_more : {A B : Type 0} (f : A → B) (o : Option A) (y : B) → Some y ≡ option_map f o → (x : A) × (o ≡ Some x) × (y ≡ f x)
one_more f None y h = cc
one_more f (Some x) y h = (x, refl, same_Some _ _ h)

-- the call at which a thread stands, and what is needed there
pub record IsAsked (S : State) (t : ℕ) (c : Call) (asked : PlainNeed) : Type 0 where
  pub fits : StateFits S
  pub call : Some c ≡ option_map (λ w. w.call) (able S t)
  pub need : asked ≡ plain_need (need c.kind S t c)

-- the thread that stands there
record StandsThere (S : State) (t : ℕ) (c : Call) (asked : PlainNeed) : Type 0 where
  waiting : Waiting
  able : able S t ≡ Some waiting
  call : waiting.call ≡ c
  kind : c.kind ≡ waiting.call.kind
  need : asked ≡ plain_need (need waiting.call.kind S t c)

able_is : (S : State) (t : ℕ) (w : Waiting) → able S t ≡ Some w → thread_at S t ≡ Some w
able_is S t w h = by_test (is_running S) h
  where
    by_test : (b : Bool) → cond b (thread_at S t) None ≡ Some w → thread_at S t ≡ Some w
    by_test true h = h
    by_test false h = cc

stands_there : (S : State) (t : ℕ) (c : Call) (asked : PlainNeed) → IsAsked S t c asked → StandsThere S t c asked
stands_there S t c asked h =
    let at = one_more (λ w. w.call) (able S t) c h.call in
    record {
      waiting = at.0;
      able = at.1;
      call = sym at.2;
      kind = ap (λ (c : Call). c.kind) at.2;
      need = h.need ∙ ap (λ (call : Call). plain_need (need call.kind S t c)) at.2;
    }

-- what is done with a value that is there only where a test holds
tested : {A B : Type 0} (f : Option A → Option B) → f None ≡ None → (test : Bool) (o w : Option A) → cond test o None ≡ w → cond test (f o) None ≡ f w
tested f none true o w is = ap f is
tested f none false o w is = sym none ∙ ap f is

-- a process that was not killed has the event of the thread that stands there
pub lives_at : (S : State) (t : ℕ) (env : Env) (w : Option Waiting) → env.killed ≡ false → able S t ≡ w → live S t env ≡ event_of_waiting S t env w
lives_at S t env w spared is =
    ap (λ killed. cond (not killed && is_running S) (event_of_waiting S t env (thread_at S t)) None) spared
    ∙ tested (event_of_waiting S t env) refl (is_running S) (thread_at S t) w is

-- ---- the event

-- the entry of an event with this answer
abbrev pub entry_with : ℕ → ℕ → ℕ → Call → Answer → List ℕ → Entry
entry_with clock signal t c a outgoing =
    record { clock = clock; thread = t; signal = signal; call = c; reply = a.reply; outgoing = outgoing; incoming = a.incoming; tag = a.tag }

-- what is asked in a world in which the process was not killed
pub record IsTried (S : State) (t : ℕ) (env : Env) (c : Call) (asked : PlainNeed) : Type 0 where
  pub stands : IsAsked S t c asked
  pub spared : env.killed ≡ false

found_at : (S : State) (t : ℕ) (env : Env) (c : Call) (asked : PlainNeed) (found : Option Answer) → (at : StandsThere S t c asked) → answer_by asked c S.count env ≡ found
    → option_map answer_in (answered_now (need at.waiting.call.kind S t at.waiting.call) (from_world at.waiting.call.kind S at.waiting.call env)) ≡ found
found_at S t env c asked found at is =
    subst (λ (call : Call). option_map answer_in (answered_now (need at.waiting.call.kind S t call) (from_world at.waiting.call.kind S call env)) ≡ found) (sym at.call)
    (answer_same at.waiting.call.kind S c env (need at.waiting.call.kind S t c) at.kind ∙ ap (λ n. answer_by n c S.count env) (sym at.need) ∙ is)

none_in : (o : Option AnsweredCall) → option_map answer_in o ≡ None → o ≡ None
none_in None h = refl
none_in (Some a) h = cc

-- there is no event where no answer is given
pub no_event : (S : State) (t : ℕ) (env : Env) (c : Call) (asked : PlainNeed) → IsTried S t env c asked → answer_by asked c S.count env ≡ None → live S t env ≡ None
no_event S t env c asked h is =
    let at = stands_there S t c asked h.stands in
    lives_at S t env (Some at.waiting) h.spared at.able ∙ ap (option_map (event S t env at.waiting)) (none_in _ (found_at S t env c asked None at is))

-- and one where an answer is given
pub one_here : (S : State) (t : ℕ) (env : Env) (c : Call) (asked : PlainNeed) (a : Answer) → IsTried S t env c asked → answer_by asked c S.count env ≡ Some a
    → (e : Event) × (live S t env ≡ Some e) × (e.entry ≡ entry_with (next_clock_of S.clock a.tag) (signal_with_answer S t a c env.pending) t c a (outgoing_of c S.store.memory))
one_here S t env c asked a h is =
    let at = stands_there S t c asked h.stands in
    let w = at.waiting in
    let x = one_more answer_in (answered_now (need w.call.kind S t w.call) (from_world w.call.kind S w.call env)) a (sym (found_at S t env c asked (Some a) at is)) in
    let signal = signal_with_answer S t a c env.pending in
    let delivers : chosen_signal w.call.kind x.0.after.handlers env.pending ≡ signal =
    chosen_is S t a w c env.pending x.0.after.handlers (able_is S t w at.able) at.kind (handlers_after w.call.kind S t w.call env x.0 a x.1) in (
      event S t env w x.0,
      lives_at S t env (Some w) h.spared at.able ∙ ap (option_map (event S t env w)) x.1,
      ap (λ signal. entry_with (next_clock_of S.clock x.0.answer.tag) signal t w.call x.0.answer (outgoing_of w.call S.store.memory)) delivers
          ∙ ap (λ call. entry_with (next_clock_of S.clock x.0.answer.tag) signal t call x.0.answer (outgoing_of call S.store.memory)) at.call
          ∙ ap (λ a. entry_with (next_clock_of S.clock a.tag) signal t c a (outgoing_of c S.store.memory)) (sym x.2),
    )

taken_there : (k : Kind) (S : State) (t : ℕ) (c : Call) (env : Env) (a : Answer) (e : Entry) → c.kind ≡ k → answer_by (plain_need (need k S t c)) c S.count env ≡ Some a
    → e.call ≡ c → e.reply ≡ a.reply → is_taken e ≡ true → 1 ≤ length env.mailbox
unfolding is_taken
taken_there k S t c env a e is given call reply taken =
    takes_there k S t c env a e is given reply (sym (ap (λ k. takes_as k e) (ap (λ (c : Call). c.kind) call ∙ is)) ∙ taken)

drawn_there : (k : Kind) (S : State) (t : ℕ) (c : Call) (env : Env) (a : Answer) (e : Entry) → c.kind ≡ k → answer_by (plain_need (need k S t c)) c S.count env ≡ Some a
    → e.call ≡ c → e.incoming ≡ a.incoming → drawn e ≤ length env.pool
unfolding drawn
drawn_there k S t c env a e is given call incoming =
    subst (λ n. n ≤ length env.pool) (sym (ap (λ k. draws_as k e) (ap (λ (c : Call). c.kind) call ∙ is))) (draws_there k S t c env a e is given incoming)

-- the process and the world are in range
pub record IsFit (S : State) (env : Env) : Type 0 where
  pub state : StateFits S
  pub few : S.events < 2 ^ 61
  pub around : EnvFits env

-- the entry that was made is that of the event
pub entry_tells : OneEvent → Rises → (S : State) (t : ℕ) (env : Env) (c : Call) (asked : PlainNeed) (a : Answer) (entry : Entry) → IsFit S env → IsTried S t env c asked
    → answer_by asked c S.count env ≡ Some a → entry ≡ entry_with (next_clock_of S.clock a.tag) (signal_with_answer S t a c env.pending) t c a (outgoing_of c S.store.memory) → IsLiveEntry S t env entry
entry_tells one_event rises S t env c asked a entry fit h is made =
    let e = one_here S t env c asked a h is in
    let at = stands_there S t c asked h.stands in
    let told = one_event S t env fit.state fit.few fit.around e.0 e.1 in
    let risen = rises S e.0.entry fit.state told.legal in
    let given : answer_by (plain_need (need at.waiting.call.kind S t c)) c S.count env ≡ Some a = ap (λ n. answer_by n c S.count env) (sym at.need) ∙ is in
    let same : entry ≡ e.0.entry = made ∙ sym e.2 in
    let call : entry.call ≡ c = ap (λ (e : Entry). e.call) made in
    record {
      event = e.0;
      lives = e.1;
      same = same;
      told = told;
      logged = subst IsShaped (sym same) told.shape;
      datagram = λ taken. taken_there at.waiting.call.kind S t c env a entry at.kind given call (ap (λ (e : Entry). e.reply) made) taken;
      bytes = drawn_there at.waiting.call.kind S t c env a entry at.kind given call (ap (λ (e : Entry). e.incoming) made);
      count = ap (λ (S : State). S.count) (sym told.same) ∙ risen.count;
      events = ap (λ (S : State). S.events) (sym told.same) ∙ risen.events;
    }

-- the clock of a tag that is taken is no more than a process's
pub tag_fits : OneEvent → Rises → IsKeptByEvents → (S : State) (t : ℕ) (env : Env) (c : Call) (asked : PlainNeed) (a : Answer) → IsFit S env → IsTried S t env c asked → answer_by asked c S.count env ≡ Some a → clock_of a.tag < 2 ^ 63
tag_fits one_event rises kept S t env c asked a fit h is =
    let e = one_here S t env c asked a h is in
    let told = one_event S t env fit.state fit.few fit.around e.0 e.1 in
    let risen = rises S e.0.entry fit.state told.legal in
    let after = kept S e.0.entry fit.state told.legal in
    let same : clock_of e.0.entry.tag ≡ clock_of a.tag = ap (λ (e : Entry). clock_of e.tag) e.2 in
    omega (arith, same, risen.tag, risen.events, after.clock, fit.few)
