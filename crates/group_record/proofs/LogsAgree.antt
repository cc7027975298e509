-- Each event of a run is accepted where it comes in the replay of its process's log, which makes the same states.
use Rattle.std.proofs.Common.{◌≡◌, ℕ, zero, suc, ◌+◌, ◌<◌, ◌≤◌, ◌^◌, ◌++◌, Bool, true, false, cond, List, [], ◌∷◌, length, take, Option, Some, None, refl, ap, sym, subst, ◌∙◌, arith, length-append, append_assoc, eqb-true}
use Rattle.std.specs.Prelude.{All, IsTrue, slice_get, ◌==◌, option_and_then, option_map}
use Rattle.std.specs.List.{last_or, slice_index_or}
use Rattle.std.specs.Option.{option_to_list}
use Rattle.std.proofs.lemmas.Bool.{leb-true}
use Rattle.std.proofs.lemmas.List.{length-take}
use Rattle.std.proofs.lemmas.Option.{same_Some}
use Rattle.std.proofs.lemmas.List.Elements.{All-get_or, All-nil, All-push}
use Rattle.fri_text.specs.Name.{is_name}
use Rattle.lib_calls.specs.declared.entry.Entry.{Entry}
use Rattle.lib_calls.specs.Entry.{IsShaped}
use Rattle.call_log.specs.Entry.{clock_after, encodings}
use Rattle.call_log.specs.Head.{head_bytes}
use Rattle.call_log.specs.Laws.{ExactLogs}
use Rattle.call_log.specs.Log.{HoldsEntries, unread_after_head}
use Rattle.call_log.specs.Limits.{most_log}
use Rattle.call_log.specs.declared.version.Version.TheVariants.{Two}
use Rattle.guest_process.specs.declared.divergence.Divergence.{Divergence}
use Rattle.guest_process.specs.declared.waiting.Waiting.{Waiting}
use Rattle.guest_process.specs.Answers.{need}
use Rattle.guest_process.specs.EventCount as count
use Rattle.guest_process.specs.Fits.{StateFits}
use Rattle.guest_process.specs.Legal.{reason}
use Rattle.guest_process.specs.Live.{AnsweredCall, Env, Event, answered_now, event, event_of_waiting, from_world, live}
use Rattle.guest_process.specs.Next.{next}
use Rattle.guest_process.specs.OneEvent.{IsKeptByEvents, IsStarted, OneEvent, Rises, RisesTo, AgreesWithEvent as IsTold}
use Rattle.guest_process.specs.Replay.{accepted, reach_of_entries, reach_with_entry, replayed}
use Rattle.guest_process.specs.State.{State, thread_at}
use Rattle.group_world.specs.History.{Act, put_last_if, time}
use Rattle.group_world.specs.History as world
use Rattle.group_record.specs.Run.{GroupStart, RunStep, Had, Did, world_around, entries_of_steps, log_has_room, head_of_log, history_of_steps, log_of, name_of_process, processes_in_group, process_after, process_states, recorded_states}
use Rattle.group_record.specs.Laws.{Agreement, CutAgreement, IsBegun}
use Rattle.group_record.specs.Logs.{IsLogOfRun, IsLogWithTail}
use Rattle.group_record.specs.Standing.{IsDoneAct, IsHadEvent, IsRun}
use Rattle.group_record.proofs.FirstRecorder.{head_size, short_name}
use Rattle.group_record.proofs.LogGrowth.{entries_few, entry_added, entry_there, log_longer, spelled_next}
use Rattle.group_record.proofs.RunSteps.{is_run}

-- ---- one entry more

replayed-last : (S : State) (es : List Entry) (e : Entry) → replayed S (es ++ e ∷ []) ≡ next (replayed S es) e
replayed-last S [] e = refl
replayed-last S (x ∷ es) e = replayed-last (next S x) es e

-- the states after each of these entries
abbrev pub replays : State → List Entry → List State
replays S [] = []
replays S (e ∷ es) = next S e ∷ replays (next S e) es

replays-last : (S : State) (es : List Entry) (e : Entry) → replays S (es ++ e ∷ []) ≡ replays S es ++ next (replayed S es) e ∷ []
replays-last S [] e = refl
replays-last S (x ∷ es) e = ap (λ (xs : List State). next S x ∷ xs) (replays-last (next S x) es e)

last_replay : (S : State) (es : List Entry) → last_or (Some S) (replays S es) ≡ Some (replayed S es)
last_replay S [] = refl
last_replay S (e ∷ es) = last_replay (next S e) es

accepted-last : (S : State) (es : List Entry) (e : Entry) → accepted S es ≡ length es → reason (replayed S es) e ≡ None → accepted S (es ++ e ∷ []) ≡ length (es ++ e ∷ [])
accepted-last S [] e all legal = ap (λ (o : Option Divergence). (reach_with_entry o (reach_of_entries (next S e) [])).accepted) legal
accepted-last S (x ∷ es) e all legal = step (reason S x) refl all (λ rest. accepted-last (next S x) es e rest legal) where
  step : (o : Option Divergence) → reason S x ≡ o → (reach_with_entry o (reach_of_entries (next S x) es)).accepted ≡ suc (length es) → (accepted (next S x) es ≡ length es → accepted (next S x) (es ++ e ∷ []) ≡ length (es ++ e ∷ [])) → (reach_with_entry (reason S x) (reach_of_entries (next S x) (es ++ e ∷ []))).accepted ≡ suc (length (es ++ e ∷ []))
  step None is all more = ap (λ (o : Option Divergence). (reach_with_entry o (reach_of_entries (next S x) (es ++ e ∷ []))).accepted) is ∙ ap suc (more (omega (arith, all)))
  step (Some why) is all more = absurd (omega (arith, all))

nothing_there : {P : Type 0} (o : Option State) (s : State) → o ≡ None → o ≡ Some s → P
nothing_there o s none some = cc

-- the state after each number of entries
state-at : (es : List Entry) (S : State) (n : ℕ) (s : State) → slice_get (S ∷ replays S es) n ≡ Some s → replayed S (take n es) ≡ s
state-at es S zero s at = same_Some _ _ at
state-at [] S (suc n) s at = nothing_there (slice_get {X = State} [] n) s refl at
state-at (e ∷ es) S (suc n) s at = state-at es (next S e) n s at

-- ---- a log with room has few entries

room_for : (group : GroupStart) (steps : List RunStep) (p : ℕ) (e : Event) → log_has_room group steps p e ≡ true → length (entries_of_steps steps p) + 1 ≤ most_log
room_for group steps p e room =
    let head = head_bytes (head_of_log group p) in
    let es = entries_of_steps steps p in
    omega (arith, leb-true _ _ room, log_longer group steps p e, length-append head (encodings Two 0 es), entries_few Two 0 es, entry_there Two (clock_after 0 es) e.entry)

-- ---- an event in a state

-- the state in which the event of a try comes, and the thread that it is of
pub record ComesIn (S : State) (env : Env) (thread : ℕ) (e : Event) : Type 0 where
  pub waiting : Waiting
  pub there : thread_at S thread ≡ Some waiting
  pub given : AnsweredCall
  pub answer : answered_now (need waiting.call.kind S thread waiting.call) (from_world waiting.call.kind S waiting.call env) ≡ Some given
  pub is : e ≡ event S thread env waiting given

by_test : {A : Type 0} (test : Bool) (o : Option A) (x : A) → cond test o None ≡ Some x → o ≡ Some x
by_test true o x is = is
by_test false o x is = cc

-- apart from the calls that are answered, over which `cc` would look for long
no_value : {P : Type 0} (e : Event) → None ≡ Some e → P
no_value e none = cc

pub comes_in : (S : State) (env : Env) (thread : ℕ) (e : Event) → live S thread env ≡ Some e → ComesIn S env thread e
comes_in S env thread e comes = by_thread (thread_at S thread) refl (by_test _ (event_of_waiting S thread env (thread_at S thread)) e comes) where
  mapped : (w : Waiting) → thread_at S thread ≡ Some w → (o : Option AnsweredCall) → answered_now (need w.call.kind S thread w.call) (from_world w.call.kind S w.call env) ≡ o → option_map (event S thread env w) o ≡ Some e → ComesIn S env thread e
  mapped w there None answer is = no_value e is
  mapped w there (Some given) answer is = record { waiting = w; there = there; given = given; answer = answer; is = sym (same_Some _ _ is) }

  by_thread : (o : Option Waiting) → thread_at S thread ≡ o → event_of_waiting S thread env o ≡ Some e → ComesIn S env thread e
  by_thread None there is = no_value e is
  by_thread (Some w) there is = mapped w there _ refl is

-- the event answers a call of the kind of the thread's
pub is_of_kind : (S : State) (env : Env) (thread : ℕ) (e : Event) → (in_it : ComesIn S env thread e) → e.entry.call.kind ≡ in_it.waiting.call.kind
is_of_kind S env thread e in_it = ap (λ (e : Event). e.entry.call.kind) in_it.is

-- ---- what is kept of each process

-- of a process whose events had these entries and states
pub record Keeps (group : GroupStart) (p : ℕ) (es : List Entry) (after : List State) : Type 0 where
  pub first : State
  pub begun : slice_get group.first p ≡ Some first
  pub last : State
  pub fits : StateFits last
  pub group_size : last.count ≡ processes_in_group group
  pub events : last.events ≡ length es
  pub few : length es ≤ most_log
  pub logged : All IsShaped es
  pub all : accepted first es ≡ length es
  pub reached : replayed first es ≡ last
  pub same : replays first es ≡ after

abbrev pub KeepsAfter : GroupStart → List RunStep → ℕ → Type 0
KeepsAfter group steps p = Keeps group p (entries_of_steps steps p) (process_states steps p)

-- its states are those of the replay
states_known : (group : GroupStart) (steps : List RunStep) (p : ℕ) → (k : KeepsAfter group steps p) → recorded_states group steps p ≡ k.first ∷ replays k.first (entries_of_steps steps p)
states_known group steps p k =
    ap (λ (o : Option State). option_to_list o ++ process_states steps p) k.begun ∙ ap (λ (xs : List State). k.first ∷ xs) (sym k.same)

-- so it stands in the last of them
pub stands_last : (group : GroupStart) (steps : List RunStep) (p : ℕ) → (k : KeepsAfter group steps p) → process_after group steps p ≡ Some k.last
stands_last group steps p k = ap (last_or None) (states_known group steps p k) ∙ last_replay k.first (entries_of_steps steps p) ∙ ap Some k.reached

-- what is known of processes
pub record Laws : Type 0 where
  pub one : OneEvent
  pub started : IsStarted
  pub kept : IsKeptByEvents
  pub rises : Rises
  pub fresh : count.BeginsFresh

-- an event of the process that its entry tells
record IsNext (S : State) (e : Event) (many : ℕ) : Type 0 where
  told : IsTold S e
  logged : IsShaped e.entry
  room : many + 1 ≤ most_log

one_more : (laws : Laws) (group : GroupStart) (p : ℕ) (es : List Entry) (after : List State) (e : Event) (k : Keeps group p es after)
    → IsNext k.last e (length es) → Keeps group p (es ++ e.entry ∷ []) (after ++ e.state ∷ [])
one_more laws group p es after e k h =
    let rise : RisesTo k.last e.entry (next k.last e.entry) = laws.rises k.last e.entry k.fits h.told.legal in
    let next_is : next (replayed k.first es) e.entry ≡ e.state = ap (λ (S : State). next S e.entry) k.reached ∙ h.told.same in
    let longer : length (es ++ e.entry ∷ []) ≡ length es + 1 = length-append es (e.entry ∷ []) in
    record {
      first = k.first;
      begun = k.begun;
      last = e.state;
      fits = subst StateFits h.told.same (laws.kept k.last e.entry k.fits h.told.legal);
      group_size = sym (ap (λ (S : State). S.count) h.told.same) ∙ rise.count ∙ k.group_size;
      events = sym (ap (λ (S : State). S.events) h.told.same) ∙ rise.events ∙ ap (λ (n : ℕ). n + 1) k.events ∙ sym longer;
      few = omega (arith, longer, h.room);
      logged = All-push IsShaped es e.entry k.logged h.logged;
      all = accepted-last k.first es e.entry k.all (ap (λ (S : State). reason S e.entry) k.reached ∙ h.told.legal);
      reached = replayed-last k.first es e.entry ∙ next_is;
      same = replays-last k.first es e.entry ∙ ap (λ (s : State). replays k.first es ++ s ∷ []) next_is ∙ ap (λ (xs : List State). xs ++ e.state ∷ []) k.same;
    }

-- an event of this process or of another
one_event : (laws : Laws) (group : GroupStart) (p : ℕ) (es : List Entry) (after : List State) (e : Event) (test : Bool) (k : Keeps group p es after)
    → (test ≡ true → IsNext k.last e (length es)) → Keeps group p (put_last_if test es e.entry) (put_last_if test after e.state)
one_event laws group p es after e true k h = one_more laws group p es after e k (h refl)
one_event laws group p es after e false k h = k

-- ---- the world around a process is in range

time_by : (test : Bool) (value before : ℕ) → value < 2 ^ 64 → before < 2 ^ 64 → cond test value before < 2 ^ 64
time_by true value before fits fit = fits
time_by false value before fits fit = fit

time_fits : (group : GroupStart) (steps : List RunStep) → IsRun group steps → (p : ℕ) → time (history_of_steps steps) p < 2 ^ 64
time_fits group [] run p = omega arith
time_fits group (Had q e ∷ steps) run p = time_fits group steps run.1 p
time_fits group (Did (world.Event q e) ∷ steps) run p = absurd run.0
time_fits group (Did (world.Clock q value) ∷ steps) run p = time_by (q == p) value (time (history_of_steps steps) p) run.0.1 (time_fits group steps run.1 p)
time_fits group (Did (world.Deliver q n) ∷ steps) run p = time_fits group steps run.1 p
time_fits group (Did (world.Inject q bytes) ∷ steps) run p = time_fits group steps run.1 p
time_fits group (Did (world.Random q bytes) ∷ steps) run p = time_fits group steps run.1 p
time_fits group (Did (world.Signal q s) ∷ steps) run p = time_fits group steps run.1 p
time_fits group (Did (world.Kill q) ∷ steps) run p = time_fits group steps run.1 p

-- ---- at each moment of a run

found : (states : List State) (p : ℕ) → p < length states → (S : State) × (slice_get states p ≡ Some S)
found [] p within = absurd (omega (arith, within))
found (S ∷ states) zero within = (S, refl)
found (S ∷ states) (suc p) within = found states p (omega (arith, within))

begin_keeps : (laws : Laws) (group : GroupStart) → IsBegun group → (p : ℕ) → p < processes_in_group group → KeepsAfter group [] p
begin_keeps laws group begun p within =
    let first = found group.first p (omega (arith, within, begun.first)) in
    let from = begun.starts p first.0 first.1 in
    let fresh : count.IsFresh p (processes_in_group group) first.0 = laws.fresh from.0 p (processes_in_group group) first.0 from.2 in
    record {
      first = first.0;
      begun = first.1;
      last = first.0;
      fits = (laws.started from.0 p (processes_in_group group) first.0 from.1 within begun.few from.2).0;
      group_size = fresh.count;
      events = fresh.events;
      few = omega arith;
      logged = All-nil IsShaped;
      all = refl;
      reached = refl;
      same = refl;
    }

-- the state in which an event came
pub came_in : (group : GroupStart) (early : List RunStep) (p : ℕ) (e : Event) (k : KeepsAfter group early p) (had : IsHadEvent group early p e) → live k.last had.thread (world_around (processes_in_group group) early p) ≡ Some e
came_in group early p e k had = sym (ap (λ (o : Option State). option_and_then (λ S. live S had.thread (world_around (processes_in_group group) early p)) o) (stands_last group early p k)) ∙ had.comes

is_next : (laws : Laws) (group : GroupStart) (early : List RunStep) (p : ℕ) (e : Event) → IsRun group early → (k : KeepsAfter group early p) → IsHadEvent group early p e → IsNext k.last e (length (entries_of_steps early p))
is_next laws group early p e run k had =
    let env = world_around (processes_in_group group) early p in
    let comes : live k.last had.thread env ≡ Some e = came_in group early p e k had in
    let few : k.last.events < 2 ^ 61 = omega (arith, k.events, k.few) in
    let told : IsTold k.last e = laws.one k.last had.thread env k.fits few (record { time = time_fits group early run p }) e comes in
    record {
      told = told;
      logged = told.shape;
      room = room_for group early p e had.room;
    }

act_keeps : (group : GroupStart) (steps : List RunStep) (act : Act) (p : ℕ) → IsDoneAct group steps act → KeepsAfter group steps p → KeepsAfter group (Did act ∷ steps) p
act_keeps group steps (world.Event q e) p done k = absurd done
act_keeps group steps (world.Clock q value) p done k = k
act_keeps group steps (world.Deliver q n) p done k = k
act_keeps group steps (world.Inject q bytes) p done k = k
act_keeps group steps (world.Random q bytes) p done k = k
act_keeps group steps (world.Signal q s) p done k = k
act_keeps group steps (world.Kill q) p done k = k

pub keeps : (laws : Laws) (group : GroupStart) → IsBegun group → (steps : List RunStep) → IsRun group steps → (p : ℕ) → p < processes_in_group group → KeepsAfter group steps p
keeps laws group begun [] run p within = begin_keeps laws group begun p within
keeps laws group begun (Had q e ∷ early) run p within =
    let k : KeepsAfter group early p = keeps laws group begun early run.1 p within in
    one_event laws group p (entries_of_steps early p) (process_states early p) e (q == p) k
    (λ is. is_next laws group early p e run.1 k (subst (λ (r : ℕ). IsHadEvent group early r e) (eqb-true q p is) run.0))
keeps laws group begun (Did act ∷ early) run p within = act_keeps group early act p run.0 (keeps laws group begun early run.1 p within)

-- ---- a log stays within its limit

-- with its head alone
head_within : (group : GroupStart) → IsBegun group → (p : ℕ) → p < processes_in_group group → length (log_of group [] p) ≤ most_log
head_within group begun p within =
    let short = short_name (name_of_process group p) (All-get_or (λ name. IsTrue (is_name name)) group.names p [] within begun.names) in
    omega (arith, short, head_size (head_of_log group p), length-append (head_bytes (head_of_log group p)) (encodings Two 0 []))

-- with the entry of one more event, of this process or of another
entry_within : (group : GroupStart) (early : List RunStep) (q p : ℕ) (e : Event) (test : Bool) → (q == p) ≡ test → IsTrue (log_has_room group early q e) → length (log_of group early p) ≤ most_log
    → length (log_of group (Had q e ∷ early) p) ≤ most_log
entry_within group early q p e true is room fits =
    subst (λ (r : ℕ). length (log_of group (Had q e ∷ early) r) ≤ most_log) (eqb-true q p is) (leb-true _ _ room)
entry_within group early q p e false is room fits =
    subst (λ (test : Bool). length (head_bytes (head_of_log group p) ++ encodings Two 0 (put_last_if test (entries_of_steps early p) e.entry)) ≤ most_log) (sym is) fits

act_within : (group : GroupStart) (early : List RunStep) (act : Act) (p : ℕ) → IsDoneAct group early act → length (log_of group early p) ≤ most_log → length (log_of group (Did act ∷ early) p) ≤ most_log
act_within group early (world.Event q e) p done fits = absurd done
act_within group early (world.Clock q value) p done fits = fits
act_within group early (world.Deliver q n) p done fits = fits
act_within group early (world.Inject q bytes) p done fits = fits
act_within group early (world.Random q bytes) p done fits = fits
act_within group early (world.Signal q s) p done fits = fits
act_within group early (world.Kill q) p done fits = fits

log_within : (group : GroupStart) → IsBegun group → (steps : List RunStep) → IsRun group steps → (p : ℕ) → p < processes_in_group group → length (log_of group steps p) ≤ most_log
log_within group begun [] run p within = head_within group begun p within
log_within group begun (Had q e ∷ early) run p within = entry_within group early q p e (q == p) refl run.0.room (log_within group begun early run.1 p within)
log_within group begun (Did act ∷ early) run p within = act_within group early act p run.0 (log_within group begun early run.1 p within)

-- ---- the log tells its events

-- whose bytes after the head hold its entries, and this much of one more
log_tells : ExactLogs → (group : GroupStart) → IsBegun group → (steps : List RunStep) (p : ℕ) (bytes left cut : List ℕ) → p < processes_in_group group → KeepsAfter group steps p → bytes ≡ head_bytes (head_of_log group p) ++ left
    → HoldsEntries (unread_after_head (head_of_log group p) left) (entries_of_steps steps p) cut → length bytes ≤ most_log → IsLogOfRun group steps p bytes cut
log_tells logs group begun steps p bytes left cut inside k is holds fits =
    let es = entries_of_steps steps p in
    let held = (logs.all (unread_after_head (head_of_log group p) left) es cut).0 holds in
    let named : is_name (slice_index_or group.names p []) ≡ true = All-get_or (λ name. IsTrue (is_name name)) group.names p [] inside begun.names in
    record {
      first = k.first;
      begun = k.begun;
      left = unread_after_head (head_of_log group p) left;
      within = fits;
      head = (logs.heads bytes (head_of_log group p) (unread_after_head (head_of_log group p) left)).1 (record { some = begun.some; few = begun.few; within = inside; named = named }, (is, refl));
      entries = held.0;
      rest = held.1;
      accepted = k.all;
      states = λ n S at. state-at es k.first n S (sym (ap (λ (xs : List State). slice_get xs n) (states_known group steps p k)) ∙ at);
    }

pub agrees : ExactLogs → Laws → Agreement
agrees logs laws group items begun fits steps front p within =
    let run : IsRun group steps = is_run group items fits steps front in
    let k : KeepsAfter group steps p = keeps laws group begun steps run p within in
    let es = entries_of_steps steps p in
    log_tells logs group begun steps p (log_of group steps p) (encodings Two 0 es) [] within k refl (logs.holds_written Two 0 es k.logged) (log_within group begun steps run p within)

entry_cut : ExactLogs → Laws → (group : GroupStart) → IsBegun group → (early : List RunStep) (p : ℕ) (e : Event) → IsRun group (Had p e ∷ early) → (n : ℕ) → n < length (spelled_next early p e.entry) → IsLogWithTail group early p (take n (spelled_next early p e.entry))
entry_cut logs laws group begun early p e run n short =
    let k : KeepsAfter group early p = keeps laws group begun early run.1 p run.0.within in
    let es = entries_of_steps early p in
    let log = log_of group early p in
    let part = take n (spelled_next early p e.entry) in
    let next = is_next laws group early p e run.1 k run.0 in
    let fits : length (log ++ part) ≤ most_log =
    omega (arith, leb-true _ _ run.0.room, log_longer group early p e, length-append log part, length-take n (spelled_next early p e.entry), short) in
    log_tells logs group begun early p (log ++ part) (encodings Two 0 es ++ part) part run.0.within k (append_assoc (head_bytes (head_of_log group p)) (encodings Two 0 es) part)
    (logs.holds_cut Two 0 es e.entry n k.logged next.logged short) fits

pub agrees_cut : ExactLogs → Laws → CutAgreement
agrees_cut logs laws group items begun fits later early p e is =
    subst (λ (bytes : List ℕ). (n : ℕ) → n < length bytes → IsLogWithTail group early p (take n bytes)) (sym (entry_added group early p e))
    (entry_cut logs laws group begun early p e (is_run group items fits (Had p e ∷ early) (later, is)))
