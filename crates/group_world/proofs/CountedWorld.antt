-- The world around a group is that which is counted out of the acts.
use Rattle.std.proofs.Common.{◌≡◌, ℕ, ◌+◌, ◌-◌, ◌<◌, ◌≤◌, Bool, true, false, ◌&&◌, List, [], ◌∷◌, ◌++◌, length, get_or, drop, map, refl, sym, ap, ◌∙◌, subst, ⊎_elim, arith, length-set, length-append, length-drop, get_or-set_same, get_or-set_other}
use Rattle.std.specs.Prelude.{◌==◌, ◌||◌, IsTrue, nat_le, slice_set, if◌then◌else◌}
use Rattle.std.proofs.lemmas.Bool.{and_from, cases_Bool, cases_eq, eq-eqb, eqb-true, le-leb, ne_eqb, true≢false}
use Rattle.std.proofs.lemmas.List.{drop-append-le, drop-drop, get_or-replicate, length-replicate, map_push}
use Rattle.lib_calls.specs.declared.entry.Entry.{Entry}
use Rattle.lib_calls.specs.Traffic.{drawn, is_sent, is_taken}
use Rattle.lossy_net.specs.Network.{Traffic, no_traffic, nth_of, sent_by, traffic_of, with_delivered}
use Rattle.guest_signals.specs.Signals.{is_signal, most_signal}
use Rattle.group_world.specs.History.{Act, Event, Deliver, Inject, Clock, Random, Signal, Kill, History, addressed_datagram, given, is_killed, is_pending, mailbox, one_if, pool, put_last_if, sends, supplied_bytes, taken_count, time, used_count}
use Rattle.group_world.specs.Laws.{IsPossibleHistory, IsPossibleNext, Counting, IsCounted, sent_as}
use Rattle.group_world.specs.World.{Surroundings, World, after_entry, new_world, no_surroundings, sent_if, process_count, surroundings_of, took_if, with_act, without_signal, world_after}
use Rattle.group_world.proofs.ListEnds.{put_last_is}
use Rattle.group_world.proofs.NetLemmas.{length-sent_if, length-took_if, length-with_delivered, nth_of-map, traffic_of-delivered, traffic_of-event, traffic_of-new, traffic_of-waiting}

-- ---- as many processes as before

length-after : (w : World) (a : Act) → length (with_act w a).net ≡ length w.net
length-after w (Event p e) =
    length-sent_if (took_if (is_taken e) w.net p) p e (is_sent (process_count w) e) ∙ length-took_if w.net p (is_taken e)
length-after w (Deliver p n) = length-with_delivered w.net (nth_of (sent_by w.net p) n)
length-after w (Inject p bytes) = length-set w.net p _
length-after w (Clock p value) = refl
length-after w (Random p bytes) = refl
length-after w (Signal p s) = refl
length-after w (Kill p) = refl

surroundings-after : (w : World) (a : Act) → length (with_act w a).surroundings ≡ length w.surroundings
surroundings-after w (Event p e) = length-set w.surroundings p _
surroundings-after w (Deliver p n) = refl
surroundings-after w (Inject p bytes) = refl
surroundings-after w (Clock p value) = length-set w.surroundings p _
surroundings-after w (Random p bytes) = length-set w.surroundings p _
surroundings-after w (Signal p s) = length-set w.surroundings p _
surroundings-after w (Kill p) = length-set w.surroundings p _

net_stays : (count : ℕ) (h : History) → length (world_after count h).net ≡ count
net_stays count [] = length-replicate count no_traffic
net_stays count (a ∷ h) = length-after (world_after count h) a ∙ net_stays count h

surroundings_stay : (count : ℕ) (h : History) → length (world_after count h).surroundings ≡ count
surroundings_stay count [] = length-replicate count no_surroundings
surroundings_stay count (a ∷ h) = surroundings-after (world_after count h) a ∙ surroundings_stay count h

-- ---- no more is taken than was given

-- what process p took is a part of what it was given
record IsWithin (count : ℕ) (h : History) (p : ℕ) : Type 0 where
  datagrams : taken_count h p ≤ length (given count h p)
  bytes : used_count h p ≤ length (supplied_bytes h p)

one_more : (mine takes : Bool) (before all : ℕ) → before ≤ all → (mine ≡ true → IsTrue takes → 1 ≤ all - before) → before + one_if (mine && takes) ≤ all
one_more true true before all within can = let left : 1 ≤ all - before = can refl refl in omega arith
one_more true false before all within can = omega arith
one_more false takes before all within can = omega arith

so_many_more : (mine : Bool) (before more all : ℕ) → before ≤ all → (mine ≡ true → more ≤ all - before) → (if mine then before + more else before) ≤ all
so_many_more true before more all within can = let left : more ≤ all - before = can refl in omega arith
so_many_more false before more all within can = within

longer : {A : Type 0} (n : ℕ) (xs ys : List A) → n ≤ length xs → n ≤ length (xs ++ ys)
longer n xs ys within = omega (arith, length-append xs ys)

longer_if : {A : Type 0} (b : Bool) (n : ℕ) (xs ys : List A) → n ≤ length xs → n ≤ length (if b then xs ++ ys else xs)
longer_if true n xs ys within = longer n xs ys within
longer_if false n xs ys within = within

within_next : (count : ℕ) (h : History) (a : Act) (p : ℕ) → IsPossibleNext count h a → IsWithin count h p → IsWithin count (a ∷ h) p
within_next count h (Event q e) p can within = record {
  datagrams = one_more (q == p) (is_taken e) (taken_count h p) (length (given count h p)) within.datagrams
      (λ mine takes. subst (λ n. 1 ≤ n) (length-drop (taken_count h p) (given count h p)) (subst (λ k. 1 ≤ length (mailbox count h k)) (eqb-true q p mine) (can.1.datagrams takes)));
  bytes = so_many_more (q == p) (used_count h p) (drawn e) (length (supplied_bytes h p)) within.bytes
      (λ mine. subst (λ n. drawn e ≤ n) (length-drop (used_count h p) (supplied_bytes h p)) (subst (λ k. drawn e ≤ length (pool h k)) (eqb-true q p mine) can.1.bytes));
}
within_next count h (Deliver q n) p can within = record { datagrams = longer _ (given count h p) _ within.datagrams; bytes = within.bytes }
within_next count h (Inject q bytes) p can within = record {
  datagrams = subst (λ xs. taken_count h p ≤ length xs) (sym (put_last_is (q == p) (given count h p) bytes)) (longer _ (given count h p) _ within.datagrams);
  bytes = within.bytes;
}
within_next count h (Clock q value) p can within = record { datagrams = within.datagrams; bytes = within.bytes }
within_next count h (Random q bytes) p can within = record { datagrams = within.datagrams; bytes = longer_if (q == p) _ (supplied_bytes h p) bytes within.bytes }
within_next count h (Signal q s) p can within = record { datagrams = within.datagrams; bytes = within.bytes }
within_next count h (Kill q) p can within = record { datagrams = within.datagrams; bytes = within.bytes }

within_always : (count : ℕ) (h : History) (p : ℕ) → IsPossibleHistory count h → IsWithin count h p
within_always count [] p can = record { datagrams = omega arith; bytes = omega arith }
within_always count (a ∷ h) p can = within_next count h a p can.0 (within_always count h p can.1)

-- ---- surroundings

-- the place of process p after that of process q was changed
place_changed : (w : World) (q p : ℕ) (change : Surroundings → Surroundings) → p < length w.surroundings
    → get_or (slice_set w.surroundings q (change (surroundings_of w q))) p no_surroundings ≡ (if q == p then change (surroundings_of w p) else surroundings_of w p)
place_changed w q p change within = ⊎_elim
    (λ same. subst (λ k. get_or (slice_set w.surroundings k (change (surroundings_of w k))) p no_surroundings ≡ (if k == p then change (surroundings_of w p) else surroundings_of w p)) (sym same)
    (get_or-set_same w.surroundings p _ no_surroundings within ∙ ap (λ b. if b then change (surroundings_of w p) else surroundings_of w p) (sym (eq-eqb p p refl))))
    (λ other. get_or-set_other w.surroundings q p _ no_surroundings (λ is. other (sym is))
    ∙ ap (λ b. if b then change (surroundings_of w p) else surroundings_of w p) (sym (ne_eqb q p other)))
    (cases_eq q p)

-- a part of the place that the change leaves
part_stays : {A : Type 0} (part : Surroundings → A) (change : Surroundings → Surroundings) (mine : Bool) (place : Surroundings) → part (change place) ≡ part place
    → part (if mine then change place else place) ≡ part place
part_stays part change true place same = same
part_stays part change false place same = refl

pool_drew : (mine : Bool) (place : Surroundings) (e : Entry) (before : ℕ) (all : List ℕ) → place.pool ≡ drop before all
    → (if mine then after_entry place e else place).pool ≡ drop (if mine then before + drawn e else before) all
pool_drew true place e before all is = ap (drop (drawn e)) is ∙ drop-drop (drawn e) before all
pool_drew false place e before all is = is

pool_added : (mine : Bool) (place : Surroundings) (bytes : List ℕ) (before : ℕ) (all : List ℕ) → before ≤ length all → place.pool ≡ drop before all
    → (if mine then record place { pool = place.pool ++ bytes } else place).pool ≡ drop before (if mine then all ++ bytes else all)
pool_added true place bytes before all within is = ap (λ pool. pool ++ bytes) is ∙ sym (drop-append-le before all bytes within)
pool_added false place bytes before all within is = is

-- ---- signals

-- whether a signal is pending after this one was made so, or not so
set_at : (pending : List Bool) (n s : ℕ) (is : Bool) → s < length pending → get_or (slice_set pending n is) s false ≡ (if n == s then is else get_or pending s false)
set_at pending n s is within = ⊎_elim
    (λ same. subst (λ k. get_or (slice_set pending k is) s false ≡ (if k == s then is else get_or pending s false)) (sym same)
    (get_or-set_same pending s is false within ∙ ap (λ b. if b then is else get_or pending s false) (sym (eq-eqb s s refl))))
    (λ other. get_or-set_other pending n s is false (λ e. other (sym e))
    ∙ ap (λ b. if b then is else get_or pending s false) (sym (ne_eqb n s other)))
    (cases_eq n s)

is_signal-within : (s : ℕ) → 1 ≤ s → s ≤ most_signal → is_signal s ≡ true
is_signal-within s first last = and_from (nat_le 1 s) (nat_le s most_signal) (le-leb 1 s first) (le-leb s most_signal last)

-- a number that is no signal's is another than that of a signal
no_signal : (n s : ℕ) → 1 ≤ s → s ≤ most_signal → is_signal n ≡ false → (n == s) ≡ false
no_signal n s first last none = ne_eqb n s (λ same. true≢false (sym (is_signal-within s first last) ∙ ap is_signal (sym same) ∙ none))

without_at : (pending : List Bool) (n s : ℕ) → 1 ≤ s → s ≤ most_signal → length pending ≡ 32 → get_or (without_signal pending n) s false ≡ (if n == s then false else get_or pending s false)
without_at pending n s first last all = ⊎_elim
    (λ signal. ap (λ b. get_or (if b then slice_set pending n false else pending) s false) signal ∙ set_at pending n s false (omega (arith, last, all)))
    (λ none. ap (λ b. get_or (if b then slice_set pending n false else pending) s false) none
    ∙ ap (λ b. if b then false else get_or pending s false) (sym (no_signal n s first last none)))
    (cases_Bool (is_signal n))

length-without_if : (pending : List Bool) (n : ℕ) (signal : Bool) → length (if signal then slice_set pending n false else pending) ≡ length pending
length-without_if pending n true = length-set pending n false
length-without_if pending n false = refl

-- each process has as many places for signals as before
signals-after : (w : World) (a : Act) (p : ℕ) → p < length w.surroundings → length (surroundings_of (with_act w a) p).pending ≡ length (surroundings_of w p).pending
signals-after w (Event q e) p within =
    ap (λ (x : Surroundings). length x.pending) (place_changed w q p (λ place. after_entry place e) within)
    ∙ part_stays (λ x. length x.pending) (λ place. after_entry place e) (q == p) (surroundings_of w p) (length-without_if (surroundings_of w p).pending e.signal (is_signal e.signal))
signals-after w (Deliver q n) p within = refl
signals-after w (Inject q bytes) p within = refl
signals-after w (Clock q value) p within =
    ap (λ (x : Surroundings). length x.pending) (place_changed w q p (λ place. record place { time = value }) within)
    ∙ part_stays (λ x. length x.pending) (λ place. record place { time = value }) (q == p) (surroundings_of w p) refl
signals-after w (Random q bytes) p within =
    ap (λ (x : Surroundings). length x.pending) (place_changed w q p (λ place. record place { pool = place.pool ++ bytes }) within)
    ∙ part_stays (λ x. length x.pending) (λ place. record place { pool = place.pool ++ bytes }) (q == p) (surroundings_of w p) refl
signals-after w (Signal q n) p within =
    ap (λ (x : Surroundings). length x.pending) (place_changed w q p (λ place. record place { pending = slice_set place.pending n true }) within)
    ∙ part_stays (λ x. length x.pending) (λ place. record place { pending = slice_set place.pending n true }) (q == p) (surroundings_of w p)
    (length-set (surroundings_of w p).pending n true)
signals-after w (Kill q) p within =
    ap (λ (x : Surroundings). length x.pending) (place_changed w q p (λ place. record place { killed = true }) within)
    ∙ part_stays (λ x. length x.pending) (λ place. record place { killed = true }) (q == p) (surroundings_of w p) refl

signals_stay : (count : ℕ) (h : History) (p : ℕ) → p < count → length (surroundings_of (world_after count h) p).pending ≡ 32
signals_stay count [] p within = ap (λ (x : Surroundings). length x.pending) (get_or-replicate count p no_surroundings no_surroundings within)
signals_stay count (a ∷ h) p within =
    signals-after (world_after count h) a p (omega (arith, within, surroundings_stay count h)) ∙ signals_stay count h p within

-- ---- each act in turn

map_put_last : {A B : Type 0} (f : A → B) (b : Bool) (xs : List A) (x : A) → map f (put_last_if b xs x) ≡ put_last_if b (map f xs) (f x)
map_put_last f true xs x = map_push f xs x
map_put_last f false xs x = refl

if_or : (b before : Bool) (place : Surroundings) → place.killed ≡ before → (if b then record place { killed = true } else place).killed ≡ (b || before)
if_or true before place is = refl
if_or false before place is = is

if_time : (b : Bool) (value before : ℕ) (place : Surroundings) → place.time ≡ before
    → (if b then record place { time = value } else place).time ≡ (if b then value else before)
if_time true value before place is = refl
if_time false value before place is = is

if_raised : (mine before : Bool) (place : Surroundings) (n s : ℕ) → s < length place.pending → get_or place.pending s false ≡ before
    → get_or (if mine then record place { pending = slice_set place.pending n true } else place).pending s false ≡ (if mine && (n == s) then true else before)
if_raised true before place n s within is = set_at place.pending n s true within ∙ ap (λ b. if n == s then true else b) is
if_raised false before place n s within is = is

if_delivered : (mine before : Bool) (place : Surroundings) (e : Entry) (s : ℕ) → 1 ≤ s → s ≤ most_signal → length place.pending ≡ 32 → get_or place.pending s false ≡ before
    → get_or (if mine then after_entry place e else place).pending s false ≡ (if mine && (e.signal == s) then false else before)
if_delivered true before place e s first last all is = without_at place.pending e.signal s first last all ∙ ap (λ b. if e.signal == s then false else b) is
if_delivered false before place e s first last all is = is

-- the world before the act: it is that which is counted, and has a place for each process
record Before (count : ℕ) (h : History) (w : World) (p : ℕ) : Type 0 where
  counted : IsCounted count h w p
  within : IsWithin count h p
  net : length w.net ≡ count
  surroundings : length w.surroundings ≡ count
  signals : length (surroundings_of w p).pending ≡ 32
  process : p < count

event_counted : (count : ℕ) (h : History) (w : World) (p q : ℕ) (e : Entry) → Before count h w p → IsCounted count (Event q e ∷ h) (with_act w (Event q e)) p
event_counted count h w p q e b =
    let traffic = ap (λ n. traffic_of (sent_if (is_sent n e) (took_if (is_taken e) w.net q) q e) p) b.net
    ∙ traffic_of-event w.net q p e (is_sent count e) (is_taken e) (omega (arith, b.process, b.net)) in
    let place = place_changed w q p (λ place. after_entry place e) (omega (arith, b.process, b.surroundings)) in
    record {
      sent = ap (λ (t : Traffic). t.sent) traffic
          ∙ ap (λ xs. put_last_if ((q == p) && is_sent count e) xs (sent_as p e)) b.counted.sent
          ∙ sym (map_put_last (sent_as p) ((q == p) && is_sent count e) (sends count h p) e);
      mailbox = ap (λ (t : Traffic). t.waiting) traffic
          ∙ ap (drop (one_if ((q == p) && is_taken e))) b.counted.mailbox
          ∙ drop-drop (one_if ((q == p) && is_taken e)) (taken_count h p) (given count h p);
      pool = ap (λ (s : Surroundings). s.pool) place ∙ pool_drew (q == p) (surroundings_of w p) e (used_count h p) (supplied_bytes h p) b.counted.pool;
      time = ap (λ (s : Surroundings). s.time) place ∙ part_stays (λ s. s.time) (λ s. after_entry s e) (q == p) (surroundings_of w p) refl ∙ b.counted.time;
      killed = ap (λ (s : Surroundings). s.killed) place ∙ part_stays (λ s. s.killed) (λ s. after_entry s e) (q == p) (surroundings_of w p) refl ∙ b.counted.killed;
      pending = λ s first last. ap (λ (x : Surroundings). get_or x.pending s false) place
          ∙ if_delivered (q == p) (is_pending h p s) (surroundings_of w p) e s first last b.signals (b.counted.pending s first last);
    }

deliver_counted : (count : ℕ) (h : History) (w : World) (p q n : ℕ) → Before count h w p → IsCounted count h w q
    → IsCounted count (Deliver q n ∷ h) (with_act w (Deliver q n)) p
deliver_counted count h w p q n b sender =
    let found = ap (λ sent. nth_of sent n) sender.sent ∙ nth_of-map q n (sends count h q) in
    let traffic = ap (λ o. traffic_of (with_delivered w.net o) p) found
    ∙ traffic_of-delivered w.net q p (nth_of (sends count h q) n) (omega (arith, b.process, b.net)) in
    record {
      sent = ap (λ (t : Traffic). t.sent) traffic ∙ b.counted.sent;
      mailbox = ap (λ (t : Traffic). t.waiting) traffic
          ∙ ap (λ waiting. waiting ++ addressed_datagram q p (nth_of (sends count h q) n)) b.counted.mailbox
          ∙ sym (drop-append-le (taken_count h p) (given count h p) (addressed_datagram q p (nth_of (sends count h q) n)) b.within.datagrams);
      pool = b.counted.pool;
      time = b.counted.time;
      killed = b.counted.killed;
      pending = b.counted.pending;
    }

inject_counted : (count : ℕ) (h : History) (w : World) (p q : ℕ) (bytes : List ℕ) → Before count h w p
    → IsCounted count (Inject q bytes ∷ h) (with_act w (Inject q bytes)) p
inject_counted count h w p q bytes b =
    let traffic = traffic_of-waiting w.net q p bytes (omega (arith, b.process, b.net)) in
    let more = if q == p then bytes ∷ [] else [] in
    record {
      sent = ap (λ (t : Traffic). t.sent) traffic ∙ b.counted.sent;
      mailbox = ap (λ (t : Traffic). t.waiting) traffic
          ∙ ap (λ waiting. waiting ++ more) b.counted.mailbox
          ∙ sym (drop-append-le (taken_count h p) (given count h p) more b.within.datagrams)
          ∙ ap (drop (taken_count h p)) (sym (put_last_is (q == p) (given count h p) bytes));
      pool = b.counted.pool;
      time = b.counted.time;
      killed = b.counted.killed;
      pending = b.counted.pending;
    }

clock_counted : (count : ℕ) (h : History) (w : World) (p q value : ℕ) → Before count h w p → IsCounted count (Clock q value ∷ h) (with_act w (Clock q value)) p
clock_counted count h w p q value b =
    let place = place_changed w q p (λ place. record place { time = value }) (omega (arith, b.process, b.surroundings)) in
    record {
      sent = b.counted.sent;
      mailbox = b.counted.mailbox;
      pool = ap (λ (s : Surroundings). s.pool) place ∙ part_stays (λ s. s.pool) (λ s. record s { time = value }) (q == p) (surroundings_of w p) refl ∙ b.counted.pool;
      time = ap (λ (s : Surroundings). s.time) place ∙ if_time (q == p) value (time h p) (surroundings_of w p) b.counted.time;
      killed = ap (λ (s : Surroundings). s.killed) place ∙ part_stays (λ s. s.killed) (λ s. record s { time = value }) (q == p) (surroundings_of w p) refl ∙ b.counted.killed;
      pending = λ s first last. ap (λ (x : Surroundings). get_or x.pending s false) place
          ∙ part_stays (λ x. get_or x.pending s false) (λ x. record x { time = value }) (q == p) (surroundings_of w p) refl ∙ b.counted.pending s first last;
    }

random_counted : (count : ℕ) (h : History) (w : World) (p q : ℕ) (bytes : List ℕ) → Before count h w p
    → IsCounted count (Random q bytes ∷ h) (with_act w (Random q bytes)) p
random_counted count h w p q bytes b =
    let place = place_changed w q p (λ place. record place { pool = place.pool ++ bytes }) (omega (arith, b.process, b.surroundings)) in
    record {
      sent = b.counted.sent;
      mailbox = b.counted.mailbox;
      pool = ap (λ (s : Surroundings). s.pool) place ∙ pool_added (q == p) (surroundings_of w p) bytes (used_count h p) (supplied_bytes h p) b.within.bytes b.counted.pool;
      time = ap (λ (s : Surroundings). s.time) place ∙ part_stays (λ s. s.time) (λ s. record s { pool = s.pool ++ bytes }) (q == p) (surroundings_of w p) refl ∙ b.counted.time;
      killed = ap (λ (s : Surroundings). s.killed) place ∙ part_stays (λ s. s.killed) (λ s. record s { pool = s.pool ++ bytes }) (q == p) (surroundings_of w p) refl ∙ b.counted.killed;
      pending = λ s first last. ap (λ (x : Surroundings). get_or x.pending s false) place
          ∙ part_stays (λ x. get_or x.pending s false) (λ x. record x { pool = x.pool ++ bytes }) (q == p) (surroundings_of w p) refl ∙ b.counted.pending s first last;
    }

signal_counted : (count : ℕ) (h : History) (w : World) (p q n : ℕ) → Before count h w p → IsCounted count (Signal q n ∷ h) (with_act w (Signal q n)) p
signal_counted count h w p q n b =
    let place = place_changed w q p (λ place. record place { pending = slice_set place.pending n true }) (omega (arith, b.process, b.surroundings)) in
    record {
      sent = b.counted.sent;
      mailbox = b.counted.mailbox;
      pool = ap (λ (s : Surroundings). s.pool) place ∙ part_stays (λ s. s.pool) (λ s. record s { pending = slice_set s.pending n true }) (q == p) (surroundings_of w p) refl ∙ b.counted.pool;
      time = ap (λ (s : Surroundings). s.time) place ∙ part_stays (λ s. s.time) (λ s. record s { pending = slice_set s.pending n true }) (q == p) (surroundings_of w p) refl ∙ b.counted.time;
      killed = ap (λ (s : Surroundings). s.killed) place
          ∙ part_stays (λ s. s.killed) (λ s. record s { pending = slice_set s.pending n true }) (q == p) (surroundings_of w p) refl ∙ b.counted.killed;
      pending = λ s first last. ap (λ (x : Surroundings). get_or x.pending s false) place
          ∙ if_raised (q == p) (is_pending h p s) (surroundings_of w p) n s (omega (arith, last, b.signals)) (b.counted.pending s first last);
    }

kill_counted : (count : ℕ) (h : History) (w : World) (p q : ℕ) → Before count h w p → IsCounted count (Kill q ∷ h) (with_act w (Kill q)) p
kill_counted count h w p q b =
    let place = place_changed w q p (λ place. record place { killed = true }) (omega (arith, b.process, b.surroundings)) in
    record {
      sent = b.counted.sent;
      mailbox = b.counted.mailbox;
      pool = ap (λ (s : Surroundings). s.pool) place ∙ part_stays (λ s. s.pool) (λ s. record s { killed = true }) (q == p) (surroundings_of w p) refl ∙ b.counted.pool;
      time = ap (λ (s : Surroundings). s.time) place ∙ part_stays (λ s. s.time) (λ s. record s { killed = true }) (q == p) (surroundings_of w p) refl ∙ b.counted.time;
      killed = ap (λ (s : Surroundings). s.killed) place ∙ if_or (q == p) (is_killed h p) (surroundings_of w p) b.counted.killed;
      pending = λ s first last. ap (λ (x : Surroundings). get_or x.pending s false) place
          ∙ part_stays (λ x. get_or x.pending s false) (λ x. record x { killed = true }) (q == p) (surroundings_of w p) refl ∙ b.counted.pending s first last;
    }

-- ---- all acts

counted_new : (count p : ℕ) → p < count → IsCounted count [] (new_world count) p
counted_new count p within =
    let traffic = traffic_of-new count p within in
    let place : surroundings_of (new_world count) p ≡ no_surroundings = get_or-replicate count p no_surroundings no_surroundings within in
    record {
      sent = ap (λ (t : Traffic). t.sent) traffic;
      mailbox = ap (λ (t : Traffic). t.waiting) traffic;
      pool = ap (λ (s : Surroundings). s.pool) place;
      time = ap (λ (s : Surroundings). s.time) place;
      killed = ap (λ (s : Surroundings). s.killed) place;
      pending = λ s first last. ap (λ (x : Surroundings). get_or x.pending s false) place ∙ get_or-replicate 32 s false false (omega (arith, last));
    }

before : (count : ℕ) (h : History) (p : ℕ) → IsPossibleHistory count h → p < count → IsCounted count h (world_after count h) p → Before count h (world_after count h) p
before count h p can process counted = record {
  counted = counted;
  within = within_always count h p can;
  net = net_stays count h;
  surroundings = surroundings_stay count h;
  signals = signals_stay count h p process;
  process = process;
}

all_counted : (count : ℕ) (h : History) → IsPossibleHistory count h → (p : ℕ) → p < count → IsCounted count h (world_after count h) p
all_counted count [] can p process = counted_new count p process
all_counted count (Event q e ∷ h) can p process =
    event_counted count h (world_after count h) p q e (before count h p can.1 process (all_counted count h can.1 p process))
all_counted count (Deliver q n ∷ h) can p process =
    deliver_counted count h (world_after count h) p q n (before count h p can.1 process (all_counted count h can.1 p process)) (all_counted count h can.1 q can.0)
all_counted count (Inject q bytes ∷ h) can p process =
    inject_counted count h (world_after count h) p q bytes (before count h p can.1 process (all_counted count h can.1 p process))
all_counted count (Clock q value ∷ h) can p process =
    clock_counted count h (world_after count h) p q value (before count h p can.1 process (all_counted count h can.1 p process))
all_counted count (Random q bytes ∷ h) can p process =
    random_counted count h (world_after count h) p q bytes (before count h p can.1 process (all_counted count h can.1 p process))
all_counted count (Signal q n ∷ h) can p process =
    signal_counted count h (world_after count h) p q n (before count h p can.1 process (all_counted count h can.1 p process))
all_counted count (Kill q ∷ h) can p process =
    kill_counted count h (world_after count h) p q (before count h p can.1 process (all_counted count h can.1 p process))

pub counting : Counting
counting = record { net = net_stays; surroundings = surroundings_stay; counted = all_counted }
