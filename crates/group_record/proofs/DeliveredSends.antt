-- A datagram that an item delivered is of a send, which the event that takes it names.
use Rattle.std.proofs.Common.{◌≡◌, ℕ, zero, suc, ◌<◌, ◌≤◌, ◌^◌, ◌++◌, Bool, true, false, cond, List, [], ◌∷◌, take, Option, Some, None, refl, ap, sym, subst, ◌∙◌, arith, eqb-true, ⊎_elim}
use Rattle.std.specs.Prelude.{All, Contains, ◌&&◌, ◌==◌, option_and_then}
use Rattle.std.proofs.lemmas.Bool.{and_parts}
use Rattle.std.proofs.lemmas.List.Elements.{All-get_or, All-nil, All-push, Contains-append_left, Contains-push, Contains-push_cases}
use Rattle.std.proofs.lemmas.Option.{get_or_from_slice_get, slice_get_within}
use Rattle.lamport_tag.specs.Tag.{read_datagram}
use Rattle.lib_calls.specs.Traffic.{is_sent}
use Rattle.lib_calls.specs.declared.entry.Entry.{Entry}
use Rattle.guest_process.specs.Live.{Env, Event, live}
use Rattle.guest_process.specs.State.{State}
use Rattle.lossy_net.specs.Network.{nth_of}
use Rattle.group_world.specs.History.{Act, History, addressed_datagram, datagram, put_last_if, sends}
use Rattle.group_world.specs.History as world
use Rattle.group_world.specs.Laws.{GiverOfDatagram, NamesSend, gives}
use Rattle.group_record.specs.Run.{GroupStart, RunStep, Had, Did, world_around, history_of_steps, processes_in_group, process_after}
use Rattle.group_record.specs.Laws.{IsSendInHistory}
use Rattle.group_record.specs.Standing.{IsDoneAct, IsRun}
use Rattle.group_record.proofs.LogsAgree.{ComesIn, comes_in}

-- ---- the events of a run

-- an event is of a process of the group, and its clock is not 0
abbrev pub EventFits : ℕ → Act → Type 0
EventFits count (world.Event p e) = (p < count) × (1 ≤ e.clock)
EventFits count _ = Unit {0}

abbrev pub EventsFit : ℕ → History → Type 0
EventsFit count [] = Unit {0}
EventsFit count (act ∷ h) = EventFits count act × EventsFit count h

has_clock : (env : Env) (thread : ℕ) (e : Event) (o : Option State) → option_and_then (λ S. live S thread env) o ≡ Some e → 1 ≤ e.entry.clock
has_clock env thread e None comes = cc
has_clock env thread e (Some S) comes =
    let in_it : ComesIn S env thread e = comes_in S env thread e comes in
    omega (arith, ap (λ (e : Event). e.entry.clock) in_it.is)

no_event : (group : GroupStart) (early : List RunStep) (act : Act) → IsDoneAct group early act → EventFits (processes_in_group group) act
no_event group early (world.Event p e) done = absurd done
no_event group early _ done = tt

pub events_fit : (group : GroupStart) (steps : List RunStep) → IsRun group steps → EventsFit (processes_in_group group) (history_of_steps steps)
events_fit group [] run = tt
events_fit group (Had p e ∷ early) run =
    let clock : 1 ≤ e.entry.clock = has_clock (world_around (processes_in_group group) early p) run.0.thread e (process_after group early p) run.0.comes in
    ((run.0.within, clock), events_fit group early run.1)
events_fit group (Did act ∷ early) run = (no_event group early act run.0, events_fit group early run.1)

-- those of an earlier moment
earlier_fit : (count : ℕ) (later earlier h : History) (act : Act) → h ≡ later ++ act ∷ earlier → EventsFit count h → EventsFit count earlier
earlier_fit count [] earlier h act is fits =
    let all : EventsFit count (act ∷ earlier) = subst (λ (h : History). EventsFit count h) is fits in
    all.1
earlier_fit count (a ∷ later) earlier h act is fits =
    let all : EventsFit count (a ∷ (later ++ act ∷ earlier)) = subst (λ (h : History). EventsFit count h) is fits in
    earlier_fit count later earlier (later ++ act ∷ earlier) act refl all.1

-- ---- the sends among them

pub record SendFits (count q : ℕ) (e : Entry) : Type 0 where
  pub within : q < count
  pub clock : 1 ≤ e.clock

push_if : (count q : ℕ) (e : Entry) (test : Bool) (es : List Entry) → (test ≡ true → SendFits count q e) → All (SendFits count q) es → All (SendFits count q) (put_last_if test es e)
push_if count q e true es fits all = All-push (SendFits count q) es e all (fits refl)
push_if count q e false es fits all = all

sends_fit : (count : ℕ) (h : History) (q : ℕ) → EventsFit count h → All (SendFits count q) (sends count h q)
sends_fit count [] q fits = All-nil (SendFits count q)
sends_fit count (world.Event r e ∷ h) q fits =
    push_if count q e ((r == q) && is_sent count e) (sends count h q)
    (λ here. record { within = subst (λ (n : ℕ). n < count) (eqb-true r q (and_parts (r == q) (is_sent count e) here).0) fits.0.0; clock = fits.0.1 })
    (sends_fit count h q fits.1)
sends_fit count (_ ∷ h) q fits = sends_fit count h q fits.1

nth_fits : (count q n : ℕ) (es : List Entry) (e : Entry) → nth_of es n ≡ Some e → All (SendFits count q) es → SendFits count q e
nth_fits count q zero es e is all = cc
nth_fits count q (suc n) es e is all =
    subst (λ (e : Entry). SendFits count q e) (get_or_from_slice_get es n e e is) (All-get_or (SendFits count q) es n e (slice_get_within es n e is) all)

-- ---- the one that was delivered

-- of a send of process q for process p
record IsOf (q p : ℕ) (o : Option Entry) (bytes : List ℕ) : Type 0 where
  sent : Entry
  is : o ≡ Some sent
  to : sent.call.a0 ≡ p
  bytes_are : bytes ≡ datagram q sent

is_of : (q p : ℕ) (o : Option Entry) (bytes : List ℕ) → addressed_datagram q p o ≡ bytes ∷ [] → IsOf q p o bytes
is_of q p None bytes is = cc
is_of q p (Some e) bytes is = by_receiver (e.call.a0 == p) refl is where
  by_receiver : (test : Bool) → (e.call.a0 == p) ≡ test → cond test (datagram q e ∷ []) [] ≡ bytes ∷ [] → IsOf q p (Some e) bytes
  by_receiver true to is = record { sent = e; is = refl; to = eqb-true e.call.a0 p to; bytes_are = cc }
  by_receiver false to is = cc

-- the entry that takes the datagram names the send
pub is_send : NamesSend → (count : ℕ) (h : History) (p number : ℕ) (bytes : List ℕ) (e : Entry) → count ≤ 2 ^ 32 → EventsFit count h → (giver : GiverOfDatagram count h p number bytes)
    → e.tag ≡ (read_datagram count bytes).0 → e.incoming ≡ take e.call.a1 (read_datagram count bytes).1 → (q n : ℕ) → giver.act ≡ world.Deliver q n → IsSendInHistory (nth_of (sends count giver.earlier q) n) q p e
is_send named count h p number bytes e few fits giver tag payload q n is =
    let gives_it : addressed_datagram q p (nth_of (sends count giver.earlier q) n) ≡ bytes ∷ [] =
    subst (λ (act : Act). gives count giver.earlier act p ≡ bytes ∷ []) is giver.gives_it in
    let from = is_of q p (nth_of (sends count giver.earlier q) n) bytes gives_it in
    let earlier : EventsFit count giver.earlier = earlier_fit count giver.later giver.earlier h giver.act giver.split fits in
    let good : SendFits count q from.sent = nth_fits count q n (sends count giver.earlier q) from.sent from.is (sends_fit count giver.earlier q earlier) in
    record {
      sent = from.sent;
      is = from.is;
      to = from.to;
      named = λ bounded.
          let read = ap (read_datagram count) from.bytes_are ∙ named count q from.sent good.within few good.clock bounded in
          record { tag = tag ∙ ap (λ x. x.0) read; payload = payload ∙ ap (λ x. take e.call.a1 x.1) read };
    }

-- ---- what was sent is in the sender's log

contains_nth : (n : ℕ) (es : List Entry) (e : Entry) → nth_of es n ≡ Some e → Contains es e
contains_nth zero es e is = cc
contains_nth (suc n) es e is = (n, slice_get_within es n e is, get_or_from_slice_get es n e e is)

in_both : (mine sends_it : Bool) (all some : List Entry) (e x : Entry) → (Contains some x → Contains all x) → Contains (put_last_if (mine && sends_it) some e) x → Contains (put_last_if mine all e) x
in_both true true all some e x within here =
    ⊎_elim (λ old. Contains-append_left all (e ∷ []) x (within old)) (λ is. subst (λ (x : Entry). Contains (all ++ e ∷ []) x) is (Contains-push all e))
    (Contains-push_cases some e x here)
in_both true false all some e x within here = Contains-append_left all (e ∷ []) x (within here)
in_both false sends_it all some e x within here = within here

sends_told : (count : ℕ) (h : History) (q : ℕ) (x : Entry) → Contains (sends count h q) x → Contains (world.process_entries h q) x
sends_told count [] q x here = here
sends_told count (world.Event r e ∷ h) q x here =
    in_both (r == q) (is_sent count e) (world.process_entries h q) (sends count h q) e x (sends_told count h q x) here
sends_told count (_ ∷ h) q x here = sends_told count h q x here

put_after : (test : Bool) (es : List Entry) (e x : Entry) → Contains es x → Contains (put_last_if test es e) x
put_after true es e x here = Contains-append_left es (e ∷ []) x here
put_after false es e x here = here

one_act : (act : Act) (h : History) (q : ℕ) (x : Entry) → Contains (world.process_entries h q) x → Contains (world.process_entries (act ∷ h) q) x
one_act (world.Event r e) h q x here = put_after (r == q) (world.process_entries h q) e x here
one_act _ h q x here = here

entries_grow : (later earlier h : History) (act : Act) → h ≡ later ++ act ∷ earlier → (q : ℕ) (x : Entry) → Contains (world.process_entries earlier q) x → Contains (world.process_entries h q) x
entries_grow [] earlier h act is q x here = subst (λ (h : History). Contains (world.process_entries h q) x) (sym is) (one_act act earlier q x here)
entries_grow (a ∷ later) earlier h act is q x here =
    subst (λ (h : History). Contains (world.process_entries h q) x) (sym is)
    (one_act a (later ++ act ∷ earlier) q x (entries_grow later earlier (later ++ act ∷ earlier) act refl q x here))

pub is_told : (count : ℕ) (h : History) (p number : ℕ) (bytes : List ℕ) (e : Entry) (giver : GiverOfDatagram count h p number bytes) (q n : ℕ) (s : IsSendInHistory (nth_of (sends count giver.earlier q) n) q p e) → Contains (world.process_entries h q) s.sent
is_told count h p number bytes e giver q n s =
    entries_grow giver.later giver.earlier h giver.act giver.split q s.sent
    (sends_told count giver.earlier q s.sent (contains_nth n (sends count giver.earlier q) s.sent s.is))
