-- The items of an event make that event, and nothing else.
use Rattle.std.proofs.Common.{◌≡◌, ℕ, suc, ◌≤◌, ◌<◌, Bool, true, false, cond, List, [], ◌∷◌, ◌++◌, length, take, Option, Some, refl, ap, sym, subst, ◌∙◌, arith}
use Rattle.std.specs.Prelude.{◌==◌, option_and_then, slice_get}
use Rattle.std.proofs.lemmas.Bool.{le-leb}
use Rattle.std.proofs.lemmas.Option.{slice_get_within}
use Rattle.lib_calls.specs.declared.entry.Entry.{Entry}
use Rattle.call_log.specs.Entry.{encodings}
use Rattle.call_log.specs.Head.{head_bytes}
use Rattle.call_log.specs.Limits.{most_log}
use Rattle.call_log.specs.declared.version.Version.TheVariants.{Two}
use Rattle.guest_process.specs.Live.{Env, Event, live}
use Rattle.guest_process.specs.Next.{next}
use Rattle.guest_process.specs.OneEvent.{Possible}
use Rattle.guest_process.specs.State.{State}
use Rattle.group_order.specs.Order.{NodeEvent, of_node}
use Rattle.group_world.specs.History.{put_last_if}
use Rattle.schedule_text.specs.declared.item.Item.{Item}
use Rattle.schedule_text.specs.declared.item.Item.TheVariants as item
use Rattle.group_record.specs.Run.{GroupStart, Had, RunStep, after_items, run_attempts, entries_of_steps, event_of_try, had_event, head_of_log, history_of_steps, log_has_room, process_after, processes_in_group, unless_log_full}
use Rattle.group_record.specs.RunLaws.{after_had}
use Rattle.proc_replay.specs.Replaying.{Replaying}
use Rattle.group_state.specs.Laws.{IsStepOfGroup}
use Rattle.group_state.specs.Place.{events_of_replays, states_of_nodes}
use Rattle.schedule_back.specs.Back.{items_of, signal_items, world_items}
use Rattle.schedule_back.proofs.ProcessRanges.{AllFit, get_set}
use Rattle.schedule_back.proofs.NodeFronts.{of_more, take_more}
use Rattle.schedule_back.proofs.AnswerItems.{AreReady, are_ready, at_rest, regroup}
use Rattle.schedule_back.proofs.WorldsAround.{AreQuiet, env_around, quiet_after}

-- the run is where the group of the logs comes after its first k events, and nothing waits anywhere
pub record IsAt (start : List Replaying) (group : GroupStart) (k : ℕ) (steps : List RunStep) : Type 0 where
  pub states : (p : ℕ) → process_after group steps p ≡ slice_get (states_of_nodes start k) p
  pub logs : (p : ℕ) → entries_of_steps steps p ≡ of_node p (take k (events_of_replays start))
  pub quiet : AreQuiet (processes_in_group group) (history_of_steps steps)

-- each log has room for the first events, however many
abbrev pub HaveRoom : List Replaying → GroupStart → Type 0
HaveRoom start group = (p : ℕ) → p < length start → (k : ℕ) → length (head_bytes (head_of_log group p) ++ encodings Two 0 (of_node p (take k (events_of_replays start)))) ≤ most_log

-- these items, whatever follows them, make these steps
abbrev pub Moves : GroupStart → List RunStep → List Item → List RunStep → Type 0
Moves group steps items after = (rest : List Item) (n : ℕ) → (m : ℕ) × (after_items group n (items ++ rest) (at_rest steps) ≡ after_items group m rest (at_rest after))

-- ---- the try

-- a try of a thread that makes this event, for which the log has room
pub tried : (group : GroupStart) (steps : List RunStep) (p thread : ℕ) (e : Event) → event_of_try group steps p thread ≡ Some e → log_has_room group steps p e ≡ true
    → (rest : List Item) (n : ℕ) → after_items group n (item.Run p thread 1 ∷ rest) (at_rest steps) ≡ after_items group (suc n) rest (at_rest (Had p e ∷ steps))
unfolding run_attempts
tried group steps p thread e is room rest n =
    ap (λ (try : Option Event). after_items group (suc n) rest (unless_log_full (at_rest steps) (had_event group n p try (at_rest steps)))) is
    ∙ ap (λ (b : Bool). after_items group (suc n) rest (cond b (at_rest (Had p e ∷ steps)) (record (at_rest steps) { full = Some n }))) room

-- ---- an event

module _ (possible : Possible) (start : List Replaying) (group : GroupStart) (k : ℕ) (e : NodeEvent Entry) (steps : List RunStep)
    (here : slice_get (events_of_replays start) k ≡ Some e) (s : IsStepOfGroup start k e) (fit : AllFit (states_of_nodes start k)) (count : length (states_of_nodes start k) ≡ length start)
    (room : HaveRoom start group) (at : IsAt start group k steps) where
  abbrev p : ℕ
  p = e.node

  abbrev x : Entry
  x = e.entry

  abbrev event : Event
  event = record { state = next s.state x; entry = x }

  ready : AreReady group (processes_in_group group) steps p x
  ready = are_ready group (processes_in_group group) steps p x at.quiet s.shaped.reply

  abbrev after : List RunStep
  after = Had p event ∷ ready.after

  logs_after : (q : ℕ) → entries_of_steps after q ≡ of_node q (take (suc k) (events_of_replays start))
  logs_after q =
      ap (λ (es : List Entry). put_last_if (p == q) es x) (ready.comes.logs q ∙ at.logs q)
      ∙ by_test (p == q)
      ∙ sym (of_more q (take k (events_of_replays start)) e)
      ∙ ap (of_node q) (sym (take_more (events_of_replays start) k e here)) where
        by_test : (b : Bool) → put_last_if b (of_node q (take k (events_of_replays start))) x ≡ cond b (of_node q (take k (events_of_replays start)) ++ x ∷ []) (of_node q (take k (events_of_replays start)))
        by_test true = refl
        by_test false = refl

  states_after : (q : ℕ) → process_after group after q ≡ slice_get (states_of_nodes start (suc k)) q
  states_after q =
      after_had group ready.after p q event
      ∙ ap (λ (o : Option State). cond (p == q) (Some (next s.state x)) o) (ready.comes.states q ∙ at.states q)
      ∙ sym (get_set (states_of_nodes start k) p s.state (next s.state x) s.stands q)
      ∙ ap (λ (ss : List State). slice_get ss q) (sym s.after)

  has_room : log_has_room group ready.after p event ≡ true
  has_room =
      let within : p < length start = omega (arith, slice_get_within (states_of_nodes start k) p s.state s.stands, count) in
      le-leb _ _ (subst (λ es. length (head_bytes (head_of_log group p) ++ encodings Two 0 es) ≤ most_log) (sym (logs_after p)) (room p within (suc k)))

  try_is : event_of_try group ready.after p x.thread ≡ Some event
  try_is =
      ap (λ (o : Option State). option_and_then (λ S. live S x.thread (around ready.after)) o) (ready.comes.states p ∙ at.states p ∙ s.stands)
      ∙ possible s.state x (fit p s.state s.stands) s.legal (around ready.after) ready.ready.supplies where
        around : List RunStep → Env
        around steps = env_around (processes_in_group group) (history_of_steps steps) p

  moves : Moves group steps (items_of p x) after
  moves rest n =
      let first = ready.comes.moves (item.Run p x.thread 1 ∷ rest) n in
      let world = world_items x.call.kind p x in
      let signal = signal_items p x in
      let same : (world ++ (signal ++ item.Run p x.thread 1 ∷ [])) ++ rest ≡ (world ++ signal) ++ (item.Run p x.thread 1 ∷ rest) =
      regroup world (signal ++ item.Run p x.thread 1 ∷ []) rest ∙ ap (λ l. world ++ l) (regroup signal (item.Run p x.thread 1 ∷ []) rest) ∙ sym (regroup world signal (item.Run p x.thread 1 ∷ rest)) in
      (suc first.0, ap (λ items. after_items group n items (at_rest steps)) same ∙ first.1 ∙ tried group ready.after p x.thread event try_is has_room rest first.0)

  -- after the items of the event the run stands where the group stands after one event more
  pub stepped : (after : List RunStep) × Moves group steps (items_of e.node e.entry) after × IsAt start group (suc k) after
  stepped = (after, moves, record { states = states_after; logs = logs_after; quiet = quiet_after (processes_in_group group) (history_of_steps ready.after) p x ready.ready })
