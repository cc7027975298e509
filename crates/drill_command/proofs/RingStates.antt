-- The states of a process of `ring`: where its thread waits, and what its events tell.
use Rattle.std.proofs.Common.{◌≡◌, ◌∙◌, ◌≤◌, ℕ, zero, suc, Bool, true, false, ◌&&◌, not, cond, eqb, List, [], ◌∷◌, Option, Some, None, length, take, drop, ap, arith, refl, sym, subst, length-take}
use Rattle.std.specs.Prelude.{option_and_then, option_map, replicate, slice_get}
use Rattle.std.specs.List.{slice_index_or, slice_set}
use Rattle.std.proofs.lemmas.Option.{same_Some}
use Rattle.call_table.specs.declared.kind.Kind.{Kind}
use Rattle.call_table.specs.declared.kind.Kind.TheVariants as kind
use Rattle.coop_threads.specs.Crew.{Crew, live_at, value_of}
use Rattle.coop_threads.specs.declared.slot.Slot.{Slot}
use Rattle.coop_threads.specs.declared.slot.Slot.TheVariants.{Kept, Over}
use Rattle.guest_memory.specs.Memory.{Memory, bytes_from}
use Rattle.guest_module.specs.Library.{kind_at}
use Rattle.guest_process.specs.declared.end.End.TheVariants.{Finished}
use Rattle.guest_process.specs.declared.waiting.Waiting.{Waiting}
use Rattle.guest_process.specs.Answers.{Fixed, World, need, replies_with}
use Rattle.guest_process.specs.GoesOn.{after_running, all_over, handler, instruction_budget, runs_handled, stands, stopped_thread, thread_goes_on, with_event_counted, with_handler_frame}
use Rattle.guest_process.specs.Kinds.{ends_process, reply_value}
use Rattle.guest_process.specs.Live.{AnsweredCall, Env, Event, answered_now, as_given, cut_datagram, event, event_of_waiting, from_world, live}
use Rattle.guest_process.specs.Start.{begun_process, start, waiting_at}
use Rattle.guest_process.specs.State.{State, is_running, with_thread}
use Rattle.guest_signals.specs.Signals.{no_handlers}
use Rattle.lamport_tag.specs.declared.Tag.{Tag}
use Rattle.lamport_tag.specs.Tag.{read_datagram}
use Rattle.lib_calls.specs.declared.entry.Call.{Call}
use Rattle.lib_calls.specs.declared.entry.Entry.{Entry}
use Rattle.lib_calls.specs.Effects.{is_good, is_range, minus_one, named, outgoing_of, sent_out}
use Rattle.wasm_types.specs.Modules.{Module}
use Rattle.wasm_stack.specs.After.{Halt, Calls, Ends, Sticks, Traps}
use Rattle.wasm_stack.specs.Control.{with_result}
use Rattle.wasm_stack.specs.Thread.{Thread}
use Rattle.wasm_store.specs.Start.{initial_store}
use Rattle.wasm_step.specs.Burst.{burst}
use Rattle.wasm_step.specs.Strand.{Strand, answered_strand}
use Rattle.drill_command.specs.Ring.{ring_module}
use Rattle.drill_command.proofs.RingRuns.{IsRingStop, IsShortCall, Point, Starts, AsksNumber, SendsFirst, Waits, HandsOn, kind_of, runs_on, thread_of}

-- a thread waits at one of the ring's calls
pub record IsRingWaiting (w : Waiting) : Type 0 where
  pub point : Point
  pub thread : w.strand.thread ≡ thread_of point
  pub kind : w.call.kind ≡ kind_of point
  pub short : IsShortCall (kind_of point) w.call

-- a process of the ring that handles no signal, and whose first thread does so if it waits at all
pub record HasRingParts (m : Module) (functions : List (Option ℕ)) (crew : Crew Waiting) : Type 0 where
  pub «module» : m ≡ ring_module
  pub handlers : functions ≡ no_handlers
  pub waits : (w : Waiting) → live_at crew 0 ≡ Some w → IsRingWaiting w

abbrev pub IsRing : State → Type 0
IsRing S = HasRingParts S.store.«module» S.handlers S.crew

-- ---- after a burst

first_slot : (threads : List (Slot Waiting)) (slot : Slot Waiting) (w : Waiting) → option_and_then value_of (slice_get (slice_set threads 0 slot) 0) ≡ Some w → value_of slot ≡ Some w
first_slot [] slot w is = absurd cc
first_slot (x ∷ threads) slot w is = is

over : (S : State) → S.store.«module» ≡ ring_module → S.handlers ≡ no_handlers → IsRing (with_thread S 0 Over)
over S m handlers = record { «module» = m; handlers = handlers; waits = λ w is. absurd (never w (first_slot S.crew.threads Over w is)) }
  where
    never : (w : Waiting) → None ≡ Some w → ⊥
    never w is = cc

waits_there : (S : State) → S.store.«module» ≡ ring_module → S.handlers ≡ no_handlers → (w : Waiting) → IsRingWaiting w → IsRing (with_thread S 0 (Kept w))
waits_there S m handlers w well = record {
  «module» = m;
  handlers = handlers;
  waits = λ other is. subst IsRingWaiting (same_Some w other (first_slot S.crew.threads (Kept w) other is)) well;
}

finished : (b : Bool) (S : State) → IsRing S → IsRing (cond b (record S { end = Finished }) S)
finished true S ring = ring
finished false S ring = ring

stopped : (S : State) → S.store.«module» ≡ ring_module → S.handlers ≡ no_handlers → (s : Halt) → IsRingStop s → IsRing (stopped_thread S 0 s)
stopped S m handlers (Calls t site) at =
    rw (ap (λ (x : Module). kind_at x site.func) m ∙ at.kind)
    (waits_there S m handlers (stands S t site (kind_of at.point)) (record { point = at.point; thread = at.thread; kind = refl; short = at.short }))
stopped S m handlers Ends at = finished (all_over (with_thread S 0 Over).crew.threads) (with_thread S 0 Over) (over S m handlers)
stopped S m handlers (Traps trap functions) at = over S m handlers
stopped S m handlers Sticks at = over S m handlers

-- ---- after an answer

no_function : Option ℕ
no_function = None

none_in : (n s : ℕ) → slice_index_or (replicate n no_function) s None ≡ None
unfolding no_function
none_in zero s = refl
none_in (suc n) zero = refl
none_in (suc n) (suc s) = none_in n s

unhandled : (s : ℕ) → handler no_handlers s ≡ None
unfolding no_function
unhandled s = either (eqb s 0)
  where
    either : (b : Bool) → cond b None (slice_index_or no_handlers s None) ≡ None
    either true = refl
    either false = none_in 32 s

runs : (S : State) → IsRing S → (p : Point) (reply : ℕ) (t : Thread) → t ≡ with_result (reply_value (kind_of p) reply) (thread_of p)
    → (strand : Strand) (signal : ℕ) (o : Option ℕ) → o ≡ None → strand.thread ≡ t → IsRing (after_running S 0 strand.thread (with_handler_frame S.store.«module» strand signal o))
runs S ring p reply t is strand signal (Some f) none at = absurd cc
runs S ring p reply t is strand signal None none at =
    let well = (runs_on p reply).stops instruction_budget S.store ring.«module» in
    let run = burst instruction_budget (with_result (reply_value (kind_of p) reply) (thread_of p)) S.store in
    rw (at ∙ is) (stopped (record S { store = run.store }) well.«module» ring.handlers run.stop well.stop)

goes_on : (S : State) → IsRing S → (p : Point) (strand : Strand) → strand.thread ≡ thread_of p → (reply signal clock : ℕ) → IsRing (thread_goes_on (kind_of p) S 0 strand reply signal clock)
goes_on S ring p strand at reply signal clock =
    let o = reply_value (kind_of p) reply in
    let none : handler S.handlers signal ≡ None = ap (λ (hs : List (Option ℕ)). handler hs signal) ring.handlers ∙ unhandled signal in
    let went : IsRing (runs_handled (with_event_counted S 0 clock) 0 (answered_strand strand o) signal) =
    runs (with_event_counted S 0 clock) ring p reply (with_result o (thread_of p)) refl (answered_strand strand o) signal (handler S.handlers signal) none (ap (with_result o) at) in
    rw (lasts p) went
  where
    lasts : (p : Point) → ends_process (kind_of p) ≡ false
    lasts Starts = refl
    lasts AsksNumber = refl
    lasts (SendsFirst v) = refl
    lasts (Waits v) = refl
    lasts (HandsOn v) = refl

-- ---- an event

-- an entry tells of 8 bytes that went out and as many that came in, at most
pub record IsShortEntry (e : Entry) : Type 0 where
  pub outgoing : length e.outgoing ≤ 8
  pub incoming : length e.incoming ≤ 8

pub record IsRingEvent (e : Event) : Type 0 where
  pub entry : IsShortEntry e.entry
  pub state : IsRing e.state

taken_few : (n : ℕ) (bytes : List ℕ) → n ≡ 8 → length (take n bytes) ≤ 8
taken_few n bytes is = omega (arith, length-take n bytes, is)

named_few : (memory : Memory) (addr len : ℕ) → len ≡ 8 → length (named memory addr len) ≤ 8
named_few memory addr len is = either (is_range memory addr len)
  where
    either : (b : Bool) → length (cond b (bytes_from memory addr len) []) ≤ 8
    either true = taken_few len (drop addr memory.bytes) is
    either false = omega arith

sends_few : (k : Kind) (c : Call) (memory : Memory) → IsShortCall k c → length (sent_out k c memory) ≤ 8
sends_few kind.Begin c memory short = omega arith
sends_few kind.Me c memory short = omega arith
sends_few kind.Send c memory short = named_few memory c.a1 c.a2 short
sends_few kind.Recv c memory short = omega arith
sends_few _ c memory short = absurd short

record IsRingAnswer (a : AnsweredCall) : Type 0 where
  incoming : length a.answer.incoming ≤ 8
  after : IsRing a.after

fixed : (S : State) → IsRing S → (reply : ℕ) (a : AnsweredCall) → Some (record { answer = replies_with reply; after = S }) ≡ Some a → IsRingAnswer a
fixed S ring reply a is = subst IsRingAnswer (same_Some (record { answer = replies_with reply; after = S }) a is) (record { incoming = omega arith; after = ring })

received : (S : State) → IsRing S → (c : Call) → c.a1 ≡ 8 → (d : Option (Option Tag × List ℕ)) (a : AnsweredCall) → option_map (as_given kind.Recv S c) (option_map (cut_datagram c.a1) d) ≡ Some a → IsRingAnswer a
received S ring c short None a is = absurd cc
received S ring c short (Some d) a is = subst IsRingAnswer (same_Some (as_given kind.Recv S c (cut_datagram c.a1 d)) a is) (record { incoming = taken_few c.a1 d.1 short; after = ring })

answered : (k : Kind) (S : State) → IsRing S → (c : Call) (env : Env) → IsShortCall k c → (a : AnsweredCall) → answered_now (need k S 0 c) (from_world k S c env) ≡ Some a → IsRingAnswer a
answered kind.Begin S ring c env short a is = fixed S ring 0 a is
answered kind.Me S ring c env short a is = fixed S ring S.who a is
answered kind.Send S ring c env short a is = fixed S ring (cond (is_good c S.store.memory) c.a2 minus_one) a is
answered kind.Recv S ring c env short a is = either (is_good c S.store.memory) is
  where
    either : (b : Bool) → answered_now (cond b World (Fixed minus_one S)) (from_world kind.Recv S c env) ≡ Some a → IsRingAnswer a
    either true is = received S ring c short (option_map (read_datagram S.count) (slice_get env.mailbox 0)) a is
    either false is = fixed S ring minus_one a is
answered _ S ring c env short a is = absurd short

happens : (S : State) (env : Env) (w : Waiting) → IsRingWaiting w → (a : AnsweredCall) → IsRingAnswer a → IsRingEvent (event S 0 env w a)
unfolding outgoing_of
happens S env w waits a well = record {
  entry = record { outgoing = sends_few w.call.kind w.call S.store.memory (subst (λ (k : Kind). IsShortCall k w.call) (sym waits.kind) waits.short); incoming = well.incoming };
  state = subst
      (λ (k : Kind). IsRing (thread_goes_on k a.after 0 w.strand a.answer.reply (event S 0 env w a).entry.signal (event S 0 env w a).entry.clock))
      (sym waits.kind)
      (goes_on a.after well.after waits.point w.strand waits.thread a.answer.reply (event S 0 env w a).entry.signal (event S 0 env w a).entry.clock);
}

happens_if : (S : State) (env : Env) (w : Waiting) → IsRingWaiting w → (o : Option AnsweredCall) → ((a : AnsweredCall) → o ≡ Some a → IsRingAnswer a) → (e : Event) → option_map (event S 0 env w) o ≡ Some e → IsRingEvent e
happens_if S env w waits None well e is = absurd cc
happens_if S env w waits (Some a) well e is = subst IsRingEvent (same_Some (event S 0 env w a) e is) (happens S env w waits a (well a refl))

of_waiting : (S : State) → IsRing S → (env : Env) (o : Option Waiting) → ((w : Waiting) → o ≡ Some w → IsRingWaiting w) → (e : Event) → event_of_waiting S 0 env o ≡ Some e → IsRingEvent e
of_waiting S ring env None waits e is = absurd cc
of_waiting S ring env (Some w) waits e is =
    let well = waits w refl in
    happens_if S env w well (answered_now (need w.call.kind S 0 w.call) (from_world w.call.kind S w.call env))
    (answered w.call.kind S ring w.call env (subst (λ (k : Kind). IsShortCall k w.call) (sym well.kind) well.short)) e is

-- each event of its first thread is one of the ring's
pub lives : (S : State) → IsRing S → (env : Env) (e : Event) → live S 0 env ≡ Some e → IsRingEvent e
lives S ring env e is = either (not env.killed && is_running S) is
  where
    either : (b : Bool) → cond b (event_of_waiting S 0 env (live_at S.crew 0)) None ≡ Some e → IsRingEvent e
    either true is = of_waiting S ring env (live_at S.crew 0) ring.waits e is
    either false is = absurd cc

-- ---- the first state

abbrev pub first_state : ℕ → State
first_state who = begun_process ring_module who 4 (initial_store ring_module) (thread_of Starts)

pub starts_so : (who : ℕ) → start ring_module who 4 ≡ Some (first_state who)
starts_so who = refl

pub begins : (who : ℕ) → IsRing (first_state who)
begins who = record {
  «module» = refl;
  handlers = refl;
  waits = λ w is. subst IsRingWaiting (same_Some (waiting_at ring_module (thread_of Starts)) w is) (record { point = Starts; thread = refl; kind = refl; short = tt });
}
