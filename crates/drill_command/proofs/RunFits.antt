-- No log of a drill is full: each try makes one event at most, its entry is short, and the schedule has few tries.
use Rattle.std.proofs.Common.{◌≡◌, ◌∙◌, ◌≤◌, ◌+◌, ◌*◌, ◌-◌, ◌%◌, ◌/◌, ℕ, zero, suc, Bool, true, false, cond, eqb, List, [], ◌∷◌, ◌++◌, Option, Some, None, length, length-append, ap, append_assoc, arith, flat_map, refl, sym, subst}
use Rattle.std.specs.Prelude.{codes, is_some, option_and_then, slice_get}
use Rattle.std.specs.Int.{to_le_bytes, w32}
use Rattle.std.specs.List.{last_or, range_with_len}
use Rattle.std.specs.Option.{option_to_list}
use Rattle.std.proofs.lemmas.Bool.{le-leb}
use Rattle.std.proofs.lemmas.Option.{same_Some}
use Rattle.lib_calls.specs.declared.entry.Entry.{Entry}
use Rattle.call_log.specs.declared.version.Version.TheVariants.{Two}
use Rattle.call_log.specs.Entry.{encodings}
use Rattle.call_log.specs.Head.{head_bytes}
use Rattle.call_log.specs.Limits.{most_log}
use Rattle.guest_process.specs.Live.{Env, Event, live}
use Rattle.guest_process.specs.State.{State}
use Rattle.schedule_text.specs.declared.item.Item.{Item}
use Rattle.schedule_text.specs.declared.item.Item.TheVariants as item
use Rattle.schedule_text.specs.Drill.{drill_round, drill_schedule, drill_start}
use Rattle.schedule_text.specs.Limits.{most_rounds}
use Rattle.group_world.specs.History.{Deliver, put_last_if}
use Rattle.group_record.specs.Run.{Had, Did, RunProgress, after_item, after_items, attempt, done_by_item, entries_of_steps, event_of_try, had_event, has_sent, head_of_log, log_has_room, log_of, name_of_process, no_progress_yet, process_after, process_states, run_attempts, with_step_if, world_around}
use Rattle.drill_command.specs.Drill.{drill_group, drill_run, drill_states}
use Rattle.drill_command.proofs.ProcessesBegin.{states_are}
use Rattle.drill_command.proofs.RingStates.{IsRing, IsRingEvent, IsShortEntry, begins, first_state, lives, starts_so}
use Rattle.drill_command.proofs.ShortEntries.{entry_more, length-concat, most_short}

-- ---- how often a drill tries

-- 9 times at its start, and up to 3 times in each of its rounds, which are 100,000 at most
abbrev most_tries : ℕ
most_tries = 300009

-- items that let first threads try so often at most, and deliver
abbrev TriesWithin : ℕ → List Item → Type 0
TriesWithin n [] = Unit {0}
TriesWithin n (item.Run p zero times ∷ items) = (rest : ℕ) × (times + rest ≤ n) × TriesWithin rest items
TriesWithin n (item.Deliver p number ∷ items) = TriesWithin n items
TriesWithin n (_ ∷ items) = ⊥

more : (m n : ℕ) → m ≤ n → (items : List Item) → TriesWithin m items → TriesWithin n items
more m n below [] within = tt
more m n below (item.Run p zero times ∷ items) within = (within.0, omega (arith, within.1, below), within.2)
more m n below (item.Deliver p number ∷ items) within = more m n below items within
more m n below (_ ∷ items) within = absurd within

both : (m n : ℕ) (items others : List Item) → TriesWithin m items → TriesWithin n others → TriesWithin (m + n) (items ++ others)
both m n [] others within behind = more n (m + n) (omega arith) others behind
both m n (item.Run p zero times ∷ items) others within behind = (within.0 + n, omega (arith, within.1), both within.0 n items others within.2 behind)
both m n (item.Deliver p number ∷ items) others within behind = both m n items others within behind
both m n (_ ∷ items) others within behind = absurd within

in_round : (h : ℕ) → TriesWithin 3 (drill_round h)
in_round h = either (eqb (h % 3) 0)
  where
    either : (b : Bool) → TriesWithin 3 (cond b (item.Run (h % 4) 0 1 ∷ []) [] ++ (item.Deliver ((h - 1) % 4) ((h - 1) / 4 + 1) ∷ item.Run (h % 4) 0 2 ∷ []))
    either true = (2, omega arith, (0, omega arith, tt))
    either false = (0, omega arith, tt)

in_rounds : (first n : ℕ) → TriesWithin (3 * n) (flat_map drill_round (range_with_len first n))
in_rounds first zero = tt
in_rounds first (suc n) = more (3 + 3 * n) (3 * suc n) (omega arith) (flat_map drill_round (range_with_len first (suc n)))
    (both 3 (3 * n) (drill_round first) (flat_map drill_round (range_with_len (first + 1) n)) (in_round first) (in_rounds (first + 1) n))

at_start : TriesWithin 9 drill_start
at_start = (6, omega arith, (4, omega arith, (2, omega arith, (0, omega arith, tt))))

-- ---- the heads

head_few : (p : ℕ) → length (head_bytes (head_of_log drill_group p)) ≤ 19
unfolding head_bytes
head_few p = let name = few_codes p in
    omega (arith, length-concat (codes "LLOG" ∷ to_le_bytes w32 2 ∷ to_le_bytes w32 4 ∷ to_le_bytes w32 p ∷ (length (name_of_process drill_group p) ∷ []) ∷ name_of_process drill_group p ∷ []), name)
  where
    few_codes : (p : ℕ) → length (name_of_process drill_group p) ≤ 2
    few_codes zero = omega arith
    few_codes (suc zero) = omega arith
    few_codes (suc (suc zero)) = omega arith
    few_codes (suc (suc (suc zero))) = omega arith
    few_codes (suc (suc (suc (suc p)))) = omega arith

-- ---- one try

-- Where a run has come to: no log was full, each process is one of the ring, and each log has room for the entries of so many tries more.
record HasRoom (left : ℕ) (done : RunProgress) : Type 0 where
  full : done.full ≡ None
  states : (p : ℕ) (S : State) → process_after drill_group done.steps p ≡ Some S → IsRing S
  logs : (p : ℕ) → length (encodings Two 0 (entries_of_steps done.steps p)) + most_short * left ≤ most_short * most_tries

fewer : (m n : ℕ) → m ≤ n → (done : RunProgress) → HasRoom n done → HasRoom m done
fewer m n below done room = record { full = room.full; states = room.states; logs = λ p. let log = room.logs p in omega (arith, log, below) }

unless_full : (left : ℕ) (full : Option ℕ) (done next : RunProgress) → full ≡ None → HasRoom left next → HasRoom left (cond (is_some full) done next)
unless_full left None done next none room = room
unless_full left (Some item) done next none room = absurd cc

put_more : (b : Bool) (es : List Entry) (e : Entry) → IsShortEntry e → length (encodings Two 0 (put_last_if b es e)) ≤ length (encodings Two 0 es) + most_short
put_more true es e short = entry_more 0 es e short
put_more false es e short = omega arith

room_for : (left : ℕ) (done : RunProgress) → HasRoom (suc left) done → (p : ℕ) (e : Event) → IsShortEntry e.entry → log_has_room drill_group done.steps p e ≡ true
room_for left done room p e short =
    let es = entries_of_steps done.steps p in
    let longer = put_more (eqb p p) es e.entry short in
    let log = room.logs p in
    let head = head_few p in
    le-leb (length (log_of drill_group (Had p e ∷ done.steps) p)) most_log
    (omega (arith, length-append (head_bytes (head_of_log drill_group p)) (encodings Two 0 (put_last_if (eqb p p) es e.entry)), longer, log, head))

last_is : (o : Option State) (states : List State) (S : State) → last_or o (states ++ S ∷ []) ≡ Some S
last_is o [] S = refl
last_is o (first ∷ states) S = last_is (Some first) states S

last_put : (b : Bool) (first states : List State) (S : State) → IsRing S → ((last : State) → last_or None (first ++ states) ≡ Some last → IsRing last)
    → (last : State) → last_or None (first ++ put_last_if b states S) ≡ Some last → IsRing last
last_put false first states S ring before last is = before last is
last_put true first states S ring before last is =
    subst IsRing (same_Some S last (sym (last_is None (first ++ states) S) ∙ ap (last_or None) (append_assoc first states (S ∷ [])) ∙ is)) ring

of_state : (env : Env) (o : Option State) → ((S : State) → o ≡ Some S → IsRing S) → (e : Event) → option_and_then (λ S. live S 0 env) o ≡ Some e → IsRingEvent e
of_state env None rings e is = absurd cc
of_state env (Some S) rings e is = lives S (rings S refl) env e is

had : (number left p : ℕ) (done : RunProgress) → HasRoom (suc left) done → (o : Option Event) → ((e : Event) → o ≡ Some e → IsRingEvent e) → HasRoom left (had_event drill_group number p o done)
had number left p done room None rings = record { full = room.full; states = room.states; logs = λ q. let log = room.logs q in omega (arith, log) }
had number left p done room (Some e) rings =
    let ring = rings e refl in
    rw (room_for left done room p e ring.entry) (record {
      full = room.full;
      states = λ q S is. last_put (eqb p q) (option_to_list (slice_get drill_states q)) (process_states done.steps q) e.state ring.state (room.states q) S is;
      logs = λ q. let log = room.logs q in let longer = put_more (eqb p q) (entries_of_steps done.steps q) e.entry ring.entry in omega (arith, log, longer);
    })

tried : (number left p : ℕ) (done : RunProgress) → HasRoom (suc left) done → HasRoom left (attempt drill_group number p 0 done)
tried number left p done room =
    let o = event_of_try drill_group done.steps p 0 in
    unless_full left done.full done (had_event drill_group number p o done) room.full
    (had number left p done room o (of_state (world_around 4 done.steps p) (process_after drill_group done.steps p) (room.states p)))

all_tried : (number left p times : ℕ) (done : RunProgress) → HasRoom (times + left) done → HasRoom left (run_attempts drill_group number p 0 times done)
unfolding run_attempts
all_tried number left p zero done room = fewer left (0 + left) (omega arith) done room
all_tried number left p (suc n) done room =
    all_tried number left p n (attempt drill_group number p 0 done) (tried number (n + left) p done (fewer (suc (n + left)) (suc n + left) (omega arith) done room))

-- ---- the items

delivered : (left p n : ℕ) (done : RunProgress) → HasRoom left done → (b : Bool) → HasRoom left (with_step_if b (Did (Deliver p n)) done)
delivered left p n done room true = record { full = room.full; states = room.states; logs = room.logs }
delivered left p n done room false = record { full = room.full; states = room.states; logs = room.logs }

never_full : (number left : ℕ) (items : List Item) (done : RunProgress) → TriesWithin left items → HasRoom left done → (after_items drill_group number items done).full ≡ None
never_full number left [] done within room = room.full
never_full number left (item.Run p zero times ∷ items) done within room =
    never_full (suc number) within.0 items (after_item drill_group number (item.Run p 0 times) done) within.2
    (unless_full within.0 done.full done (done_by_item drill_group number (item.Run p 0 times) done) room.full
    (all_tried number within.0 p times done (fewer (times + within.0) left within.1 done room)))
never_full number left (item.Deliver p n ∷ items) done within room =
    never_full (suc number) left items (after_item drill_group number (item.Deliver p n) done) within
    (unless_full left done.full done (done_by_item drill_group number (item.Deliver p n) done) room.full (delivered left p n done room (has_sent 4 done.steps p n)))
never_full number left (_ ∷ items) done within room = absurd within

-- ---- the whole

first_ring : (p : ℕ) (S : State) → last_or None (option_to_list (slice_get (first_state 0 ∷ first_state 1 ∷ first_state 2 ∷ first_state 3 ∷ []) p) ++ []) ≡ Some S → IsRing S
first_ring zero S is = subst IsRing (same_Some (first_state 0) S is) (begins 0)
first_ring (suc zero) S is = subst IsRing (same_Some (first_state 1) S is) (begins 1)
first_ring (suc (suc zero)) S is = subst IsRing (same_Some (first_state 2) S is) (begins 2)
first_ring (suc (suc (suc zero))) S is = subst IsRing (same_Some (first_state 3) S is) (begins 3)
first_ring (suc (suc (suc (suc p)))) S is = absurd cc

at_first : HasRoom most_tries no_progress_yet
at_first = record {
  full = refl;
  states = λ p S is. first_ring p S (ap (λ (states : List State). last_or None (option_to_list (slice_get states p) ++ []))
      (sym (states_are (first_state 0) (first_state 1) (first_state 2) (first_state 3) (starts_so 0) (starts_so 1) (starts_so 2) (starts_so 3))) ∙ is);
  logs = λ p. omega arith;
}

pub fills_no_log : (rounds : ℕ) → rounds ≤ most_rounds → (drill_run rounds).full ≡ None
unfolding drill_run
fills_no_log rounds few =
    never_full 1 most_tries (drill_schedule rounds).items no_progress_yet
    (more (9 + 3 * rounds) most_tries (omega (arith, few)) (drill_schedule rounds).items
    (both 9 (3 * rounds) drill_start (flat_map drill_round (range_with_len 1 rounds)) at_start (in_rounds 1 rounds))) at_first
