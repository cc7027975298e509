-- What an answer writes, kind by kind.
use Rattle.std.proofs.Common.{◌≡◌, ℕ, ◌≤◌, Bool, true, false, cond, ◌&&◌, ◌||◌, not, List, [], ◌∷◌, length, Option, Some, None, inl, inr, refl, ap, sym, ◌∙◌, arith}
use Rattle.std.specs.Prelude.{◌==◌, nat_le, is_some}
use Rattle.std.proofs.lemmas.Bool.{and_parts, and_from, or_cases, or_left, or_right, eqb-true, eq-eqb, ne_eqb, leb-true, le-leb}
use Rattle.call_table.specs.declared.kind.Kind.{Kind}
use Rattle.call_table.specs.declared.kind.Kind.TheVariants.{Begin, Exit, Note, Print, Random, Me, Send, Recv, TryRecv, Spawn, Yield, Join, Lock, Unlock, OnSignal, Thread}
use Rattle.guest_memory.specs.Memory.{Memory, is_inside}
use Rattle.lamport_tag.specs.declared.Tag.{Tag}
use Rattle.lib_calls.specs.declared.entry.Call.{Call}
use Rattle.lib_calls.specs.Answer.{Answer}
use Rattle.lib_calls.specs.Effects.{call_brings, has_good_ranges, is_answer, is_good, is_range, minus_one, minus_two, put_in_memory, with_received, takes_counted, takes_nothing, memory_after_answer as memory_with}
use Rattle.guest_process.specs.inside.Advancing.{acted_on_answer}
use Rattle.guest_process.specs.Answers.{Need, Fixed, World, after_need, need_of_world, effects_of_answer, handled, is_drawn, is_empty, is_payload, brings_nothing, is_possible, takes_datagram, locked, narrow, need, spawned, unlocked, with_answer}
use Rattle.guest_process.specs.Kinds.{ends_process}
use Rattle.guest_process.specs.Legal.{need_gives_answer}
use Rattle.guest_process.specs.Live.{with_given}
use Rattle.guest_process.specs.State.{State, with_memory}
use Rattle.guest_process.proofs.CallEffects.{effects_has}

-- ---- good arguments

good_is : (k : Kind) (c : Call) (memory : Memory) → c.kind ≡ k → is_good c memory ≡ has_good_ranges k c memory
unfolding is_good
good_is k c memory e = rw e refl

-- the world answers good arguments alone
pub asked_good : (S : State) (c : Call) → need_of_world S c ≡ World → is_good c S.store.memory ≡ true
asked_good S c h = by_test (is_good c S.store.memory) h
  where
    by_test : (b : Bool) → cond b World (Fixed minus_one S) ≡ World → b ≡ true
    by_test true h = refl
    by_test false h = cc

range_short : (memory : Memory) (addr len : ℕ) → is_range memory addr len ≡ true → len ≤ 60000
unfolding is_range
range_short memory addr len h = leb-true len 60000 (and_parts (nat_le len 60000) (is_inside memory addr len) h).0

-- how many bytes may go out in a datagram
pub send_short : (S : State) (c : Call) → c.kind ≡ Send → is_good c S.store.memory ≡ true → c.a2 ≤ 60000
send_short S c e good = range_short S.store.memory c.a1 c.a2 (sym (good_is Send c S.store.memory e) ∙ good)

-- how many bytes may come in
pub random_short : (S : State) (c : Call) → c.kind ≡ Random → is_good c S.store.memory ≡ true → c.a1 ≤ 60000
random_short S c e good = range_short S.store.memory c.a0 c.a1 (sym (good_is Random c S.store.memory e) ∙ good)

pub recv_short : (S : State) (c : Call) → c.kind ≡ Recv → is_good c S.store.memory ≡ true → c.a1 ≤ 60000
recv_short S c e good =
    range_short S.store.memory c.a0 c.a1 (and_parts (is_range S.store.memory c.a0 c.a1) (is_inside S.store.memory c.a2 4) (sym (good_is Recv c S.store.memory e) ∙ good)).0

pub try_recv_short : (S : State) (c : Call) → c.kind ≡ TryRecv → is_good c S.store.memory ≡ true → c.a1 ≤ 60000
try_recv_short S c e good =
    range_short S.store.memory c.a0 c.a1 (and_parts (is_range S.store.memory c.a0 c.a1) (is_inside S.store.memory c.a2 4) (sym (good_is TryRecv c S.store.memory e) ∙ good)).0

-- ---- what is written

good_written : (k : Kind) (S : State) (c : Call) (a : Answer) → c.kind ≡ k → is_good c S.store.memory ≡ true → with_answer S c a ≡ with_memory S (put_in_memory k c a S.store.memory)
unfolding memory_with
good_written k S c a e good = ap (with_memory S) (rw (good, e) refl)

bad_written : (S : State) (c : Call) (a : Answer) → is_good c S.store.memory ≡ false → with_answer S c a ≡ S
unfolding memory_with
bad_written S c a bad = ap (with_memory S) (rw bad refl)

-- an answer to a call of a kind that puts nothing in writes nothing
plain_written : (k : Kind) (S : State) (c : Call) (a : Answer) → c.kind ≡ k → put_in_memory k c a S.store.memory ≡ S.store.memory → with_answer S c a ≡ S
plain_written k S c a e same = by_test (is_good c S.store.memory) refl
  where
    by_test : (b : Bool) → is_good c S.store.memory ≡ b → with_answer S c a ≡ S
    by_test true good = good_written k S c a e good ∙ ap (with_memory S) same
    by_test false bad = bad_written S c a bad

pub exit_written : (S : State) (c : Call) (a : Answer) → c.kind ≡ Exit → with_answer S c a ≡ S
exit_written S c a e = plain_written Exit S c a e refl

asked_written : (S : State) (c : Call) (a : Answer) → after_need (need_of_world S c) (with_answer S c a) ≡ with_answer S c a
asked_written S c a = by_test (is_good c S.store.memory) refl
  where
    by_test : (b : Bool) → is_good c S.store.memory ≡ b → after_need (cond b World (Fixed minus_one S)) (with_answer S c a) ≡ with_answer S c a
    by_test true good = refl
    by_test false bad = sym (bad_written S c a bad)

fixed_written : (k : Kind) (S : State) (c : Call) (a : Answer) (n : Need) → c.kind ≡ k → put_in_memory k c a S.store.memory ≡ S.store.memory → after_need n (with_answer S c a) ≡ after_need n S
fixed_written k S c a n e same = ap (after_need n) (plain_written k S c a e same)

joined_written : (S : State) (t : ℕ) (c : Call) (a : Answer) → c.kind ≡ Join → effects_of_answer Join S t c a ≡ with_answer S c a
joined_written S t c a e =
    let plain = plain_written Join S c a e refl in
    effects_has (λ S'. S' ≡ with_answer S c a) Join S t c a (record { locks = λ h. cc; unlocks = λ h. cc; handles = λ h. cc; spawns = λ h. cc }) (sym plain) refl (λ h. cc)

-- where it does not end the process, an answer does so much
pub effects_acted : (k : Kind) (S : State) (t : ℕ) (c : Call) (a : Answer) → c.kind ≡ k → ends_process k ≡ false → effects_of_answer k S t c a ≡ acted_on_answer k S t c a
effects_acted Exit S t c a e h = cc
effects_acted Begin S t c a e h = sym (plain_written Begin S c a e refl)
effects_acted Note S t c a e h = sym (plain_written Note S c a e refl)
effects_acted Print S t c a e h = sym (plain_written Print S c a e refl)
effects_acted Random S t c a e h = asked_written S c a
effects_acted Me S t c a e h = sym (plain_written Me S c a e refl)
effects_acted Send S t c a e h = sym (plain_written Send S c a e refl)
effects_acted Recv S t c a e h = asked_written S c a
effects_acted TryRecv S t c a e h = asked_written S c a
effects_acted Spawn S t c a e h = fixed_written Spawn S c a (spawned S (narrow c.a0) (narrow c.a1)) e refl
effects_acted Yield S t c a e h = sym (plain_written Yield S c a e refl)
effects_acted Join S t c a e h = joined_written S t c a e
effects_acted Lock S t c a e h = fixed_written Lock S c a (locked S (narrow c.a0) t) e refl
effects_acted Unlock S t c a e h = fixed_written Unlock S c a (unlocked S (narrow c.a0) t) e refl
effects_acted OnSignal S t c a e h = fixed_written OnSignal S c a (handled S (narrow c.a0) (narrow c.a1)) e refl
effects_acted Thread S t c a e h = sym (plain_written Thread S c a e refl)
effects_acted _ S t c a e h = refl

where_none : (S : State) (none : Bool) (memory : Memory) → with_memory S (cond none S.store.memory memory) ≡ cond none S (with_memory S memory)
where_none S true memory = refl
where_none S false memory = refl

-- where the world answers, what its answer does is what can be told from the answer alone
pub given_written : (k : Kind) (S : State) (t : ℕ) (c : Call) (a : Answer) → c.kind ≡ k → need k S t c ≡ World → with_answer S c a ≡ with_given k S c a
given_written Random S t c a e w = good_written Random S c a e (asked_good S c w)
given_written Recv S t c a e w = good_written Recv S c a e (asked_good S c w)
given_written TryRecv S t c a e w =
    good_written TryRecv S c a e (asked_good S c w) ∙ where_none S (a.reply == minus_two) (with_received c a S.store.memory)
given_written k S t c a e w = plain_written k S c a e refl

-- an answer by the count of bytes is neither -1 nor -2
pub not_minus_one : (reply : ℕ) → reply ≤ 60000 → not (reply == minus_one) ≡ true
not_minus_one reply low = ap not (ne_eqb reply minus_one (λ e. omega (arith, e, low)))

pub not_minus_two : (reply : ℕ) → reply ≤ 60000 → (reply == minus_two) ≡ false
not_minus_two reply low = ne_eqb reply minus_two (λ e. omega (arith, e, low))

-- ---- what comes in with a legal answer

plain_nothing : (reply : ℕ) (a : Answer) → ((a.reply == reply) && brings_nothing a.tag a.incoming) ≡ true → takes_nothing reply a ≡ true
plain_nothing reply a h =
    let parts = and_parts (a.reply == reply) (brings_nothing a.tag a.incoming) h in
    and_from (a.reply == reply) (nat_le (length a.incoming) 0) parts.0 (by_parts a.tag a.incoming parts.1)
  where
    by_parts : (tag : Option Tag) (incoming : List ℕ) → brings_nothing tag incoming ≡ true → nat_le (length incoming) 0 ≡ true
    by_parts None [] h = refl
    by_parts None (_ ∷ _) h = cc
    by_parts (Some tag) incoming h = cc

drawn_counted : (c : Call) (a : Answer) → is_drawn c a ≡ true → takes_counted c a ≡ true
drawn_counted c a h =
    let parts = and_parts (a.reply == c.a1) (length a.incoming == c.a1 && not (is_some a.tag)) h in
    let rest = and_parts (length a.incoming == c.a1) (not (is_some a.tag)) parts.1 in
    let reply = eqb-true a.reply c.a1 parts.0 in
    let count = eqb-true (length a.incoming) c.a1 rest.0 in
    and_from (a.reply == length a.incoming) (nat_le (length a.incoming) c.a1) (eq-eqb a.reply (length a.incoming) (reply ∙ sym count)) (le-leb (length a.incoming) c.a1 (omega (arith, count)))

pub taken_counted : (count : ℕ) (c : Call) (a : Answer) → takes_datagram count c a ≡ true → takes_counted c a ≡ true
taken_counted count c a h = (and_parts (takes_counted c a) (is_payload count a.tag a.incoming) h).0

tried_counted : (count : ℕ) (c : Call) (a : Answer) → (takes_datagram count c a || is_empty a) ≡ true → (takes_counted c a || takes_nothing minus_two a) ≡ true
tried_counted count c a h = elim (or_cases (takes_datagram count c a) (is_empty a) h) [
  | inl taken ↦ or_left (takes_counted c a) (takes_nothing minus_two a) (taken_counted count c a taken)
  | inr empty ↦ or_right (takes_counted c a) (takes_nothing minus_two a) (plain_nothing minus_two a empty)
]

asked_brings : (S : State) (c : Call) (a : Answer) (good possible counted : Bool) → is_good c S.store.memory ≡ good → (possible ≡ true → counted ≡ true) → need_gives_answer (need_of_world S c) a possible ≡ true → cond good counted (takes_nothing minus_one a) ≡ true
asked_brings S c a good possible counted e counts h = by_tests (is_good c S.store.memory) good e h
  where
    by_tests : (b good : Bool) → b ≡ good → need_gives_answer (cond b World (Fixed minus_one S)) a possible ≡ true → cond good counted (takes_nothing minus_one a) ≡ true
    by_tests true true e h = counts h
    by_tests true false e h = cc
    by_tests false true e h = cc
    by_tests false false e h = plain_nothing minus_one a h

brought : (k : Kind) (S : State) (t : ℕ) (c : Call) (a : Answer) → is_good c S.store.memory ≡ has_good_ranges k c S.store.memory → need_gives_answer (need k S t c) a (is_possible k S c a) ≡ true → call_brings k c a S.store.memory ≡ true
brought Random S t c a good h =
    asked_brings S c a (has_good_ranges Random c S.store.memory) (is_drawn c a) (takes_counted c a) good (drawn_counted c a) h
brought Recv S t c a good h =
    asked_brings S c a (has_good_ranges Recv c S.store.memory) (takes_datagram S.count c a) (takes_counted c a) good (taken_counted S.count c a) h
brought TryRecv S t c a good h =
    asked_brings S c a (has_good_ranges TryRecv c S.store.memory) (takes_datagram S.count c a || is_empty a) (takes_counted c a || takes_nothing minus_two a) good (tried_counted S.count c a) h
brought _ S t c a good h = refl

answer_is : (k : Kind) (c : Call) (a : Answer) (memory : Memory) → c.kind ≡ k → is_answer c a memory ≡ call_brings k c a memory
unfolding is_answer
answer_is k c a memory e = rw e refl

-- the bytes that come in with a legal answer are such as the call lets come in
pub legal_answer : (k : Kind) (S : State) (t : ℕ) (c : Call) (a : Answer) → c.kind ≡ k → need_gives_answer (need k S t c) a (is_possible k S c a) ≡ true → is_answer c a S.store.memory ≡ true
legal_answer k S t c a e h = answer_is k c a S.store.memory e ∙ brought k S t c a (good_is k c S.store.memory e) h
