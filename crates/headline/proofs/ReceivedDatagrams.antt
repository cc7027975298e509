-- Each datagram that was taken came from outside, or its send comes before it in the order.
use Rattle.std.proofs.Common.{◌≡◌, ◌∙◌, ◌≤◌, ◌<◌, ◌^◌, ℕ, Bool, true, false, cond, List, [], ◌∷◌, ◌++◌, length, map, take, slice_get, Some, ap, append_assoc, arith, refl, subst, sym}
use Rattle.std.specs.Prelude.{Contains, IsTrue, ◌==◌}
use Rattle.std.proofs.Math.Seq.{get_or-append_seam}
use Rattle.std.proofs.lemmas.Bool.{eqb-true}
use Rattle.std.proofs.lemmas.List.{length-append}
use Rattle.std.proofs.lemmas.Option.{slice_get-get_or}
use Rattle.lamport_tag.specs.Tag.{read_datagram}
use Rattle.lib_calls.specs.Traffic.{is_taken}
use Rattle.lib_calls.specs.declared.entry.Entry.{Entry}
use Rattle.guest_process.specs.Live.{Event}
use Rattle.group_order.specs.Order.{IsOrder, node_event}
use Rattle.proc_replay.specs.Replaying.{Replaying}
use Rattle.group_world.specs.History.{Act, Deliver, Inject}
use Rattle.group_world.specs.History as world
use Rattle.group_world.specs.Laws.{gives}
use Rattle.group_record.specs.Laws.{TakesDatagram, TellsSend}
use Rattle.group_record.specs.Run.{Had, RunStep, entries_of_steps, history_of_steps, processes_in_group}
use Rattle.group_record.specs.Standing.{IsRun}
use Rattle.group_state.specs.Laws.{SendsFirst}
use Rattle.group_state.specs.Place.{ReplaysFit, entry_clock, events_of_replays}
use Rattle.headline.specs.Shown.{FromOutside, FromSend, ReceivedDatagram, RecordedRun}
use Rattle.headline.proofs.RecordedCourse.{entries_stay}
use Rattle.headline.proofs.RecordedOrder.{own_is, own_of, place_of}
use Rattle.headline.proofs.ToldEntries.{nth_is_sent, was_had}

-- ---- acts that stand in a history

seam : {A : Type 0} (xs : List A) (y : A) (ys whole : List A) → whole ≡ xs ++ y ∷ ys → Contains whole y
seam xs y ys whole is =
    subst (λ (list : List _). Contains list y) (sym is) (length xs, omega (arith, length-append xs (y ∷ ys)), get_or-append_seam xs y ys y)

-- ---- one event

abbrev first_of : List (List ℕ) → List ℕ
first_of [] = []
first_of (bytes ∷ rest) = bytes

record Injects (q p : ℕ) (given bytes : List ℕ) : Type 0 where
  to : q ≡ p
  same : given ≡ bytes

injects : (q p : ℕ) (given bytes : List ℕ) → cond (q == p) (given ∷ []) [] ≡ bytes ∷ [] → Injects q p given bytes
injects q p given bytes is = by_test (q == p) refl is where
  by_test : (b : Bool) → (q == p) ≡ b → cond b (given ∷ []) [] ≡ bytes ∷ [] → Injects q p given bytes
  by_test true same is = record { to = eqb-true q p same; same = ap first_of is }
  by_test false other is = cc

module _ (run : RecordedRun) (ps : List ℕ) (start : List Replaying) (is_run : IsRun run.group run.steps) (fits : ReplaysFit start) (sends : SendsFirst)
    (order : IsOrder entry_clock (map (entries_of_steps run.steps) ps) (events_of_replays start)) where
  -- the send of a tag that an event bears comes before it
  before : (j node q k : ℕ) (e sent : Entry) → slice_get (events_of_replays start) j ≡ Some (node_event node e) → slice_get (entries_of_steps run.steps q) k ≡ Some sent → e.tag ≡ Some (record { sender = q; clock = sent.clock })
      → (other : ℕ) → slice_get ps other ≡ Some q → (i : ℕ) × (i < j) × (slice_get (events_of_replays start) i ≡ Some (node_event other sent))
  before j node q k e sent at among tag other given =
      let place = place_of (events_of_replays start) other k sent (ap (λ (es : List Entry). slice_get es k) (own_is run.steps ps (events_of_replays start) order other q given) ∙ among) in
      (place.at, sends start fits place.at j (node_event other sent) (node_event node e) (record { sender = q; clock = sent.clock }) place.is at tag refl, place.is)

  module _ (j node p : ℕ) (e : Entry) (at : slice_get (events_of_replays start) j ≡ Some (node_event node e)) (later early : List RunStep) (event : Event) (split : run.steps ≡ later ++ (Had p event ∷ early)) (is : event.entry ≡ e)
      (t : TakesDatagram (processes_in_group run.group) early p event) where
    from_send : (q n : ℕ) → t.giver.act ≡ Deliver q n → ReceivedDatagram run ps (events_of_replays start) j (record { process = p; entry = e })
    from_send q n act =
        let s = t.sent q n act in
        let told = t.told q n act in
        let among : slice_get (entries_of_steps run.steps q) told.0 ≡ Some s.sent =
        ap (λ (steps : List RunStep). slice_get (entries_of_steps steps q) told.0) (split ∙ sym (append_assoc later (Had p event ∷ []) early))
        ∙ entries_stay (later ++ (Had p event ∷ [])) early q told.0 s.sent
        (slice_get-get_or (entries_of_steps early q) told.0 s.sent told.1 ∙ ap (λ (x : Entry). Some x) told.2) in
        let named : s.sent.clock ≤ 2 ^ 62 → TellsSend e q s.sent = λ low. subst (λ (e : Entry). TellsSend e q s.sent) is (s.named low) in
        FromSend q told.0 s.sent among (nth_is_sent (processes_in_group run.group) t.giver.earlier q n s.sent s.is) s.to named (λ low. before j node q told.0 e s.sent at among (named low).tag)

    from_outside : (q : ℕ) (given : List ℕ) → t.giver.act ≡ Inject q given → Injects q p given t.bytes → ReceivedDatagram run ps (events_of_replays start) j (record { process = p; entry = e })
    from_outside q given act in_it =
        let there : t.giver.act ≡ Inject p t.bytes = act ∙ ap (λ (n : ℕ). Inject n given) in_it.to ∙ ap (Inject p) in_it.same in
        FromOutside t.bytes later early event split is
        (seam t.giver.later (Inject p t.bytes) t.giver.earlier (history_of_steps early) (t.giver.split ∙ ap (λ (act : Act). t.giver.later ++ act ∷ t.giver.earlier) there))
        (subst (λ (e : Entry). e.tag ≡ (read_datagram (processes_in_group run.group) t.bytes).0) is t.tag)
        (subst (λ (e : Entry). e.incoming ≡ take e.call.a1 (read_datagram (processes_in_group run.group) t.bytes).1) is t.payload)

    by_act : (act : Act) → t.giver.act ≡ act → gives (processes_in_group run.group) t.giver.earlier act p ≡ t.bytes ∷ [] → ReceivedDatagram run ps (events_of_replays start) j (record { process = p; entry = e })
    by_act (world.Deliver q n) act given = from_send q n act
    by_act (world.Inject q bytes) act given = from_outside q bytes act (injects q p bytes t.bytes given)
    by_act (world.Event q x) act given = cc
    by_act (world.Clock q value) act given = cc
    by_act (world.Random q bytes) act given = cc
    by_act (world.Signal q signal) act given = cc
    by_act (world.Kill q) act given = cc

    came : ReceivedDatagram run ps (events_of_replays start) j (record { process = p; entry = e })
    came = by_act t.giver.act refl t.giver.gives_it

  pub received : ((later early : List RunStep) (p : ℕ) (e : Event) → run.steps ≡ later ++ (Had p e ∷ early) → IsTrue (is_taken e.entry) → TakesDatagram (processes_in_group run.group) early p e)
      → (j node p : ℕ) (e : Entry) → slice_get ps node ≡ Some p → slice_get (events_of_replays start) j ≡ Some (node_event node e) → IsTrue (is_taken e) → ReceivedDatagram run ps (events_of_replays start) j (record { process = p; entry = e })
  received takes j node p e is_node at taken =
      let own = own_of (events_of_replays start) j node e at in
      let was = was_had run.group run.steps p own.0 e is_run (ap (λ (es : List Entry). slice_get es own.0) (sym (own_is run.steps ps (events_of_replays start) order node p is_node)) ∙ own.1) in
      came j node p e at was.later was.early was.event was.split was.is
      (takes was.later was.early p was.event was.split (subst (λ (x : Entry). IsTrue (is_taken x)) (sym was.is) taken))
