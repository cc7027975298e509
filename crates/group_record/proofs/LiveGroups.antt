-- A live group, by the recorder that has its parts.
use Rattle.std.proofs.Common.{◌≡◌, ℕ, zero, suc, ◌+◌, ◌<◌, ◌≤◌, ◌^◌, ◌++◌, Bool, true, false, List, [], ◌∷◌, length, map, slice_get, slice_index_or, Option, Some, None, refl, ap, sym, subst, ◌∙◌, arith}
use Rattle.std.specs.Prelude.{IfOk, OnOk, Result, Ok, Err, nat_le, option_map}
use Rattle.std.specs.declared.alloc.AllocError.{AllocError}
use Rattle.std.specs.List.{flat_map}
use Rattle.std.specs.Option.{option_to_list}
use Rattle.std.proofs.lemmas.Bool.{leb-true}
use Rattle.std.proofs.lemmas.List.{length-map, length-replicate}
use Rattle.std.proofs.lemmas.Option.{same_Some, slice_get-get_or, slice_get-map, slice_get_within}
use Rattle.call_log.specs.declared.version.Version.TheVariants.{Two}
use Rattle.call_log.specs.Limits.{most_log}
use Rattle.lib_calls.specs.declared.entry.Entry.{Entry}
use Rattle.lib_calls.specs.Traffic.{printed, prints}
use Rattle.lossy_net.specs.Network.{Sent, nth_of, sent_by}
use Rattle.schedule_text.specs.Schedule.{IsInRange, IsSchedule, Schedule}
use Rattle.schedule_text.specs.declared.item.Item.{Item}
use Rattle.schedule_text.specs.declared.item.Item.TheVariants as item
use Rattle.std.specs.Int.{w64, cast_unsigned}
use Rattle.guest_process.specs.Live.{Env, live}
use Rattle.guest_process.specs.Legal.{reason}
use Rattle.guest_process.specs.Next.{next}
use Rattle.guest_process.specs.State.{State}
use Rattle.group_world.specs.History.{Act, is_killed, sends}
use Rattle.group_world.specs.History as world
use Rattle.group_world.specs.Laws.{Counting, sent_as}
use Rattle.lamport_tag.specs.Limits.{most_processes}
use Rattle.group_world.specs.World.{World, process_count, surroundings_of}
use Rattle.group_record.specs.declared.error.RecordError.{RecordError}
use Rattle.group_record.specs.declared.error.RecordError.TheVariants as errors
use Rattle.group_record.specs.declared.member.Member.{Member}
use Rattle.group_record.specs.declared.parts.Parts.{Parts}
use Rattle.group_record.specs.declared.recorder.Recorder.{Recorder}
use Rattle.group_record.specs.declared.tried.Tried.{Tried}
use Rattle.group_record.specs.declared.tried.Tried.TheVariants as tried
use Rattle.group_record.specs.Answer.{end_after, group_of, names_of, summary_line}
use Rattle.group_record.specs.Live.{ActsAfter, BeginsLive, DoesAfter, IsLiveAfter, IsMemberAfter, IsNoRun, LiveActs, LiveMember, LiveParts, LiveTries, TriesAfter, live_count, live_states, states_after, named_states}
use Rattle.group_record.specs.Run.{GroupStart, RunProgress, RunStep, Had, Did, can_be_killed, done_by_item, entries_of_steps, event_of_try, has_sent, history_of_steps, idled_item, log_of, process_after, processes_in_group, with_step, with_step_if}
use Rattle.group_record.specs.inside.Around.{env_of}
use Rattle.group_record.specs.inside.Begun.{AreStarted, BeginsAll}
use Rattle.group_record.specs.inside.Members.{CanKeepEntry, live_member, member_after, spelled_entry}
use Rattle.group_record.specs.inside.Parts.{AreNewParts, AreSound, AreSoundParts, CanMakeEvent, CountsEvent, IsSoundMember, MadeEvent, TakesEntry, live_parts}
use Rattle.group_record.specs.inside.Recorded.{IsLiveEntry, IsMember, KeepsUpWithRun, after_act, item_acts, recorder_acted_on}
use Rattle.group_record.proofs.FirstRecorder.{recorder_begun}
use Rattle.group_record.proofs.LogGrowth.{entry_there}
use Rattle.group_record.proofs.RecorderSteps.{around_too, env_same, event_keeps, events_within, full_test, item_keeps, kill_same, lives_of, log_size, room_test, sent_same, short_of, some_there, tells_of, try_is, world_size}
use Rattle.group_record.proofs.SharedLemmas.{length_set, set_each}

-- ---- the recorder with these parts

-- how many tries were idle makes no difference
abbrev pub at_steps : List RunStep → RunProgress
at_steps steps = record { steps = steps; idle = 0; full = None }

abbrev pub recorder_with : Parts → ℕ → ℕ → Recorder
recorder_with parts acted idle = record {
  members = parts.members;
  world = parts.world;
  prints = parts.prints;
  acted = acted;
  idle = idle;
}

-- a group that is live after some steps keeps up with the run
pub keeps_of : (group : GroupStart) (steps : List RunStep) (parts : Parts) → IsLiveAfter group steps (live_parts parts) → KeepsUpWithRun group (at_steps steps) (recorder_with parts (length steps) 0)
keeps_of group steps parts live = record {
  room = refl;
  apart = live.apart;
  count = sym (length-map parts.members.items live_member) ∙ live.count;
  members = λ p m at. live.members p (live_member m) (slice_get-map live_member parts.members.items p ∙ ap (option_map live_member) at);
  can_be = live.can_be;
  world = live.world;
  prints = live.prints;
  acted = refl;
  idle = refl;
}

-- what was mapped to something that is there
mapped_at : {A B : Type 0} (f : A → B) (o : Option A) (y : B) → option_map f o ≡ Some y → (x : A) × (o ≡ Some x) × (f x ≡ y)
mapped_at f None y e = absurd cc
mapped_at f (Some x) y e = (x, refl, same_Some _ _ e)

-- one that keeps up is live
pub live_of : (group : GroupStart) (done : RunProgress) (parts : Parts) (acted idle : ℕ) → KeepsUpWithRun group done (recorder_with parts acted idle) → length parts.prints ≡ processes_in_group group
    → IsLiveAfter group done.steps (live_parts parts)
live_of group done parts acted idle keeps kept = record {
  apart = keeps.apart;
  count = length-map parts.members.items live_member ∙ keeps.count;
  members = λ p m at.
      let one = mapped_at live_member (slice_get parts.members.items p) m (sym (slice_get-map live_member parts.members.items p) ∙ at) in
      subst (λ (m : LiveMember). IsMemberAfter group done.steps p m) one.2 (keeps.members p one.0 one.1);
  can_be = keeps.can_be;
  world = keeps.world;
  kept = kept;
  prints = keeps.prints;
}

-- ---- a try

-- as a try has it
within_group : (group : GroupStart) (steps : List RunStep) (parts : Parts) (p : ℕ) → IsLiveAfter group steps (live_parts parts) → p < length parts.members.items → p < processes_in_group group
within_group group steps parts p live within = omega (arith, within, length-map parts.members.items live_member, live.count)

pub live_idles : Counting → (group : GroupStart) (steps : List RunStep) (parts : Parts) (p thread : ℕ) (m : Member) (S : State) → IsLiveAfter group steps (live_parts parts) → p < length parts.members.items
    → slice_get parts.members.items p ≡ Some m → m.process ≡ Some S → live S thread (env_of parts.world p) ≡ None → event_of_try group steps p thread ≡ None
live_idles counting group steps parts p thread m S lives within at is none =
    let r = recorder_with parts (length steps) 0 in
    let keeps = keeps_of group steps parts lives in
    let k = keeps.members p m at in
    try_is counting group (at_steps steps) r p thread k.state keeps (within_group group steps parts p lives within) k.after
    ∙ lives_of group (at_steps steps) r p thread m (env_of parts.world p) keeps at S is none

pub live_takes : Counting → (group : GroupStart) (steps : List RunStep) (old new : Parts) (p thread : ℕ) (m : Member) (S : State) (entry : Entry) (tried : Tried) → IsLiveAfter group steps (live_parts old) → p < length old.members.items
    → slice_get old.members.items p ≡ Some m → m.process ≡ Some S → IsLiveEntry S thread (env_of old.world p) entry → TakesEntry old p m entry tried new → TriesAfter group steps p thread tried (live_parts new)
live_takes counting group steps old new p thread m S entry tried.Idle lives within at is tells takes = absurd takes
live_takes counting group steps old new p thread m S entry (tried.Had had) lives within at is tells takes =
    let r = recorder_with old (length steps) 0 in
    let keeps = keeps_of group steps old lives in
    let k = keeps.members p m at in
    let inside = within_group group steps old p lives within in
    let t = tells_of group (at_steps steps) r p thread m (env_of old.world p) entry keeps at S is tells in
    let made = takes.2 in
    let kept : length new.prints ≡ processes_in_group group = ap length made.prints ∙ length_set old.prints p (slice_index_or old.prints p [] ++ printed entry) ∙ lives.kept in (
      t.event,
      try_is counting group (at_steps steps) r p thread k.state keeps inside k.after ∙ t.lives,
      room_test (length (log_of group (Had p t.event ∷ steps) p)) most_log (subst (λ n. n ≤ most_log) (log_size group steps p m entry t.event k t.same) takes.1),
      takes.0 ∙ t.same,
      live_of group (with_step (Had p t.event) (at_steps steps)) new (length steps + 1) 0
          (event_keeps counting group (at_steps steps) r (recorder_with new (length steps + 1) 0) p thread m entry keeps inside k t takes.1
          (record { members = made.members; world = made.world; prints = made.prints; acted = refl; idle = refl })) kept,
    )
live_takes counting group steps old new p thread m S entry tried.Full lives within at is tells takes =
    let r = recorder_with old (length steps) 0 in
    let keeps = keeps_of group steps old lives in
    let k = keeps.members p m at in
    let inside = within_group group steps old p lives within in
    let t = tells_of group (at_steps steps) r p thread m (env_of old.world p) entry keeps at S is tells in (
      t.event,
      try_is counting group (at_steps steps) r p thread k.state keeps inside k.after ∙ t.lives,
      full_test (length (log_of group (Had p t.event ∷ steps) p)) most_log (subst (λ n. most_log < n) (log_size group steps p m entry t.event k t.same) takes.0),
      subst (IsLiveAfter group steps) (sym takes.1) lives,
    )

-- a sound member has had few events
pub few_there : (count : ℕ) (m : Member) (S : State) → IsSoundMember count m → m.process ≡ Some S → S.events < 2 ^ 61
few_there count m S sound is =
    let same : S ≡ sound.state = same_Some _ _ (sym is ∙ sound.process) in
    omega (arith, ap (λ (S : State). S.events) same, sound.events, sound.room)

-- an entry that takes so many bytes, and for which the log has room
pub can_make : (m : Member) (e : Entry) (size : ℕ) (fits : Bool) → CanKeepEntry m e → CountsEvent m e → size ≡ length (spelled_entry m e)
    → fits ≡ nat_le (m.size + size) most_log → fits ≡ true → CanMakeEvent m e size
can_make m e size fits keeps counts spelled test room = record {
  keeps = keeps;
  counts = counts;
  spelled = spelled;
  fits = subst (λ n. m.size + n ≤ most_log) spelled (leb-true _ _ (sym test ∙ room));
}

-- and for which it has none
pub taken_full : (m : Member) (e : Entry) (size : ℕ) (fits : Bool) → size ≡ length (spelled_entry m e) → fits ≡ nat_le (m.size + size) most_log → fits ≡ false → most_log < m.size + length (spelled_entry m e)
taken_full m e size fits spelled test full = subst (λ n. most_log < m.size + n) spelled (short_of (m.size + size) most_log (sym test ∙ full))

-- what was taken is what the try gave, wherever the group stood
pub tried_so : Counting → (old new : Parts) (p thread : ℕ) (m : Member) (S : State) (entry : Entry) (result : Result Tried AllocError) → p < length old.members.items
    → slice_get old.members.items p ≡ Some m → m.process ≡ Some S → IsLiveEntry S thread (env_of old.world p) entry
    → IfOk result (λ tried. (m : Member) → slice_get old.members.items p ≡ Some m → TakesEntry old p m entry tried new)
    → IfOk result (λ tried. LiveTries (live_parts old) p thread tried (live_parts new))
tried_so counting old new p thread m S entry (Ok tried) within at is tells takes =
    λ group steps lives. live_takes counting group steps old new p thread m S entry tried lives within at is tells (takes m at)
tried_so counting old new p thread m S entry (Err error) within at is tells takes = tt

-- the entry of an event can be kept, and counts as one
pub can_take : (count thread : ℕ) (env : Env) (m : Member) (S : State) (entry : Entry) → IsSoundMember count m → m.process ≡ Some S → IsLiveEntry S thread env entry → CanKeepEntry m entry
can_take count thread env m S entry sound is t = record {
  state = S;
  process = is;
  legal = ap (reason S) t.same ∙ t.told.legal;
  few = few_there count m S sound is;
  room = sound.room;
}

pub counts_one : (thread : ℕ) (env : Env) (m : Member) (S : State) (entry : Entry) → m.process ≡ Some S → IsLiveEntry S thread env entry → CountsEvent m entry
counts_one thread env m S entry is t =
    let after : next S entry ≡ t.event.state = ap (next S) t.same ∙ t.told.same in
    record {
      state = S;
      process = is;
      events = ap (λ (S : State). S.events) after ∙ t.events;
      count_is = ap (λ (S : State). S.count) after ∙ t.count;
    }

-- ---- an item

-- what an item that is not `run` does
acts_as : Counting → (group : GroupStart) (steps : List RunStep) (r : Recorder) (i : Item) → KeepsUpWithRun group (at_steps steps) r → IsInRange (length r.members.items) i → IsNoRun i
    → (act : Act) × DoesAfter group steps i (with_step_if (item_acts r.members.items r.world i) (Did act))
acts_as counting group steps r (item.Run p thread times) keeps fits other = absurd other
acts_as counting group steps r (item.Deliver p n) keeps fits other = (
  world.Deliver p n,
  λ number done same. ap (λ b. with_step_if b (Did (world.Deliver p n)) done)
      (ap (λ (ss : List RunStep). has_sent (processes_in_group group) ss p n) same ∙ sym (sent_same counting group (at_steps steps) r p n keeps (around_too counting group (at_steps steps) r p keeps fits.0))),
)
acts_as counting group steps r (item.Inject p bytes) keeps fits other = (world.Inject p bytes, λ number done same. refl)
acts_as counting group steps r (item.Clock p value) keeps fits other = (world.Clock p (cast_unsigned w64 value), λ number done same. refl)
acts_as counting group steps r (item.Random p bytes) keeps fits other = (world.Random p bytes, λ number done same. refl)
acts_as counting group steps r (item.Signal p s) keeps fits other = (world.Signal p s, λ number done same. refl)
acts_as counting group steps r (item.Kill p) keeps fits other = (
  world.Kill p,
  λ number done same. ap (λ b. with_step_if b (Did (world.Kill p)) done)
      (ap (λ (ss : List RunStep). can_be_killed group ss p) same ∙ sym (kill_same counting group (at_steps steps) r p keeps (omega (arith, fits, keeps.count)))),
)

acted_so : (group : GroupStart) (steps : List RunStep) (old : Parts) (w : World) (act : Act) (i : Item) (acted : Bool) → length old.prints ≡ processes_in_group group
    → DoesAfter group steps i (with_step_if acted (Did act))
    → KeepsUpWithRun group (with_step_if acted (Did act) (at_steps steps)) (recorder_acted_on acted w (recorder_with old (length steps) 0))
    → ActsAfter group steps i acted (live_parts (record old { world = w }))
acted_so group steps old w act i true kept does keeps =
    (act, does, live_of group (with_step (Did act) (at_steps steps)) (record old { world = w }) (length steps + 1) 0 keeps kept)
acted_so group steps old w act i false kept does keeps =
    (does, live_of group (idled_item (at_steps steps)) (record old { world = w }) (length steps) 1 keeps kept)

pub live_acts : Counting → (group : GroupStart) (steps : List RunStep) (old : Parts) (i : Item) (acted : Bool) (w : World) → IsLiveAfter group steps (live_parts old) → IsInRange (length old.members.items) i → IsNoRun i
    → acted ≡ item_acts old.members.items old.world i → w ≡ after_act old.members.items old.world i → ActsAfter group steps i acted (live_parts (record old { world = w }))
live_acts counting group steps old i acted w lives fits other acts is =
    let r = recorder_with old (length steps) 0 in
    let keeps = keeps_of group steps old lives in
    let does = acts_as counting group steps r i keeps fits other in
    let after : KeepsUpWithRun group (done_by_item group 0 i (at_steps steps)) (recorder_acted_on (item_acts old.members.items old.world i) (after_act old.members.items old.world i) r) =
    item_keeps counting group (at_steps steps) r (recorder_acted_on (item_acts old.members.items old.world i) (after_act old.members.items old.world i) r) 0 i keeps fits other refl in
    let so : ActsAfter group steps i (item_acts old.members.items old.world i) (live_parts (record old { world = after_act old.members.items old.world i })) =
    acted_so group steps old (after_act old.members.items old.world i) does.0 i (item_acts old.members.items old.world i) lives.kept does.1
    (subst (λ (d : RunProgress). KeepsUpWithRun group d (recorder_acted_on (item_acts old.members.items old.world i) (after_act old.members.items old.world i) r)) (does.1 0 (at_steps steps) refl) after) in
    subst (λ (w : World). ActsAfter group steps i acted (live_parts (record old { world = w }))) (sym is)
    (subst (λ (b : Bool). ActsAfter group steps i b (live_parts (record old { world = after_act old.members.items old.world i }))) (sym acts) so)

-- so wherever the group stood
pub acts_so_far : Counting → (old : Parts) (ms : List Member) (i : Item) (w : World) (result : Result Bool AllocError) → ms ≡ old.members.items → IsInRange (length old.members.items) i
    → IfOk result (λ acted. acted ≡ item_acts ms old.world i) → OnOk result (w ≡ after_act ms old.world i)
    → IfOk result (λ acted. IsNoRun i → LiveActs (live_parts old) i acted (live_parts (record old { world = w })))
acts_so_far counting old ms i w (Ok acted) same fits acts is = λ other group steps lives.
    live_acts counting group steps old i acted w lives fits other (acts ∙ ap (λ ms. item_acts ms old.world i) same) (is ∙ ap (λ ms. after_act ms old.world i) same)
acts_so_far counting old ms i w (Err error) same fits acts is = tt

-- ---- the states

-- each of these processes is there
abbrev pub AreThere : List LiveMember → Type 0
AreThere ms = (p : ℕ) (m : LiveMember) → slice_get ms p ≡ Some m → (S : State) × (m.process ≡ Some S)

abbrev pub states_of : List LiveMember → List State
states_of ms = flat_map (λ (m : LiveMember). option_to_list m.process) ms

pub state_at : (ms : List LiveMember) (p : ℕ) (m : LiveMember) (S : State) → AreThere ms → slice_get ms p ≡ Some m → m.process ≡ Some S → slice_get (states_of ms) p ≡ Some S
state_at [] p m S there at is = absurd cc
state_at (x ∷ ms) zero m S there at is =
    let here : x.process ≡ Some S = ap (λ (m : LiveMember). m.process) (same_Some _ _ at) ∙ is in
    ap (λ (o : Option State). slice_get (option_to_list o ++ states_of ms) 0) here
state_at (x ∷ ms) (suc p) m S there at is =
    let first = there 0 x refl in
    ap (λ (o : Option State). slice_get (option_to_list o ++ states_of ms) (suc p)) first.1 ∙ state_at ms p m S (λ q n at. there (suc q) n at) at is

length_states : (ms : List LiveMember) → AreThere ms → length (states_of ms) ≡ length ms
length_states [] there = refl
length_states (x ∷ ms) there =
    ap (λ (o : Option State). length (option_to_list o ++ states_of ms)) (there 0 x refl).1 ∙ ap suc (length_states ms (λ q n at. there (suc q) n at))

states_same : (group : GroupStart) (steps : List RunStep) (from : ℕ) (ms : List LiveMember) (names : List (List ℕ)) → length ms ≡ length names
    → ((q : ℕ) (m : LiveMember) → slice_get ms q ≡ Some m → m.process ≡ process_after group steps (from + q)) → states_of ms ≡ named_states group steps from names
states_same group steps from [] [] same each = refl
states_same group steps from [] (name ∷ names) same each = absurd (omega (arith, same))
states_same group steps from (x ∷ ms) [] same each = absurd (omega (arith, same))
states_same group steps from (x ∷ ms) (name ∷ names) same each =
    let here : from + 0 ≡ from = omega arith in
    ap (λ (o : Option State). option_to_list o ++ states_of ms) (each 0 x refl ∙ ap (process_after group steps) here)
    ∙ ap (λ (ss : List State). option_to_list (process_after group steps from) ++ ss) (states_same group steps (suc from) ms names (omega (arith, same)) later)
  where
    later : (q : ℕ) (m : LiveMember) → slice_get ms q ≡ Some m → m.process ≡ process_after group steps (suc from + q)
    later q m at =
        let there : from + suc q ≡ suc from + q = omega arith in
        each (suc q) m at ∙ ap (process_after group steps) there

are_there : (group : GroupStart) (steps : List RunStep) (live : LiveParts) → IsLiveAfter group steps live → AreThere live.members
are_there group steps live lives p m at = let k = lives.members p m at in (k.state, k.process)

pub live_states_are : (group : GroupStart) (steps : List RunStep) (live : LiveParts) → IsLiveAfter group steps live → live_states live ≡ states_after group steps
live_states_are group steps live lives = states_same group steps 0 live.members group.names lives.count each
  where
    each : (q : ℕ) (m : LiveMember) → slice_get live.members q ≡ Some m → m.process ≡ process_after group steps (0 + q)
    each q m at =
        let k = lives.members q m at in
        let here : q ≡ 0 + q = omega arith in
        k.process ∙ sym k.after ∙ ap (process_after group steps) here

pub live_line : (group : GroupStart) (steps : List RunStep) (live : LiveParts) → IsLiveAfter group steps live → (p : ℕ) (S : State) → slice_get (live_states live) p ≡ Some S → (name : List ℕ)
    → summary_line group steps p name ≡ record { name = name; events = S.events; end = S.end; killed = is_killed (history_of_steps steps) p }
live_line group steps live lives p S at name =
    let there = are_there group steps live lives in
    let one = some_there live.members p (omega (arith, slice_get_within (live_states live) p S at, length_states live.members there)) in
    let k = lives.members p one.0 one.1 in
    let same : S ≡ k.state = same_Some _ _ (sym at ∙ state_at live.members p one.0 k.state there one.1 k.process) in
    ap (λ (o : Option State). record (summary_line group steps p name) { end = end_after o }) (k.after ∙ ap Some (sym same))
    ∙ ap (λ (n : ℕ). record { name = name; events = n; end = S.end; killed = is_killed (history_of_steps steps) p }) (sym (ap (λ (S : State). S.events) same ∙ k.events))

-- ---- what is asked of a group

pub live_killed : Counting → (group : GroupStart) (steps : List RunStep) (parts : Parts) (p : ℕ) → IsLiveAfter group steps (live_parts parts) → p < length parts.members.items
    → (surroundings_of parts.world p).killed ≡ is_killed (history_of_steps steps) p
live_killed counting group steps parts p lives within =
    ap (λ (env : Env). env.killed) (env_same counting group (at_steps steps) (recorder_with parts (length steps) 0) p (keeps_of group steps parts lives) (within_group group steps parts p lives within))

nth_sent : (p n : ℕ) (es : List Entry) → nth_of (map (sent_as p) es) n ≡ option_map (sent_as p) (nth_of es n)
nth_sent p zero es = refl
nth_sent p (suc before) es = slice_get-map (sent_as p) es before

pub live_sent : Counting → (group : GroupStart) (steps : List RunStep) (parts : Parts) (p n : ℕ) → IsLiveAfter group steps (live_parts parts) → p < length parts.members.items
    → nth_of (sent_by parts.world.net p) n ≡ option_map (sent_as p) (nth_of (sends (processes_in_group group) (history_of_steps steps) p) n)
live_sent counting group steps parts p n lives within =
    let counted = counting.counted (processes_in_group group) (history_of_steps steps) lives.can_be p (within_group group steps parts p lives within) in
    ap (λ (w : World). nth_of (sent_by w.net p) n) lives.world
    ∙ ap (λ (sent : List Sent). nth_of sent n) counted.sent
    ∙ nth_sent p n (sends (processes_in_group group) (history_of_steps steps) p)

pub live_printed : (group : GroupStart) (steps : List RunStep) (parts : Parts) (p : ℕ) → IsLiveAfter group steps (live_parts parts) → p < length parts.members.items
    → slice_index_or parts.prints p [] ≡ prints (entries_of_steps steps p)
live_printed group steps parts p lives within =
    lives.prints p (slice_index_or parts.prints p []) (slice_get-get_or parts.prints p [] (omega (arith, within_group group steps parts p lives within, lives.kept)))

-- ---- what holds even where memory ran out

sound_member : (group : GroupStart) (steps : List RunStep) (p count : ℕ) (m : Member) → processes_in_group group ≡ count → IsMember group steps p m → IsSoundMember count m
sound_member group steps p count m size k = record {
  state = k.state;
  process = k.process;
  count_is = k.count ∙ size;
  events = events_within group steps p m k;
  room = k.room;
}

pub sound_of : Counting → (group : GroupStart) (steps : List RunStep) (parts : Parts) → IsLiveAfter group steps (live_parts parts) → processes_in_group group ≤ most_processes → AreSoundParts parts
sound_of counting group steps parts lives few =
    let keeps = keeps_of group steps parts lives in
    let size = world_size counting group (at_steps steps) (recorder_with parts (length steps) 0) keeps in
    record {
      few = omega (arith, few, keeps.count);
      around = omega (arith, size, keeps.count);
      kept = omega (arith, lives.kept, keeps.count);
      each = λ p m at. sound_member group steps p (process_count parts.world) m (sym size) (keeps.members p m at);
    }

sound_after : (count : ℕ) (m : Member) (e : Entry) (size : ℕ) → CanMakeEvent m e size → IsSoundMember count m → IsSoundMember count (member_after m e)
sound_after count m e size can sound =
    let same : can.counts.state ≡ sound.state = same_Some _ _ (sym can.counts.process ∙ sound.process) in
    record {
      state = next can.counts.state e;
      process = ap (option_map (λ S. next S e)) can.counts.process;
      count_is = can.counts.count_is ∙ ap (λ (S : State). S.count) same ∙ sound.count_is;
      events = omega (arith, can.counts.events, ap (λ (S : State). S.events) same, sound.events, entry_there Two m.last e);
      room = can.fits;
    }

pub sound_made : (old new : Parts) (p : ℕ) (m : Member) (e : Entry) (taken : ℕ) → AreSoundParts old → slice_get old.members.items p ≡ Some m → CanMakeEvent m e taken → MadeEvent old p m e new
    → process_count new.world ≡ process_count old.world → AreSoundParts new
sound_made old new p m e taken sound at can made size =
    let members : length new.members.items ≡ length old.members.items = ap length made.members ∙ length_set old.members.items p (member_after m e) in
    let prints : length new.prints ≡ length old.prints = ap length made.prints ∙ length_set old.prints p (slice_index_or old.prints p [] ++ printed e) in
    record {
      few = omega (arith, members, sound.few);
      around = omega (arith, members, size, sound.around);
      kept = omega (arith, members, prints, sound.kept);
      each = λ q n there. subst (λ count. IsSoundMember count n) (sym size)
          (set_each old.members.items p (member_after m e) (λ q n. IsSoundMember (process_count old.world) n)
          (λ inside. sound_after (process_count old.world) m e taken can (sound.each p m at))
          (λ q n apart at. sound.each q n at)
          q n (sym (ap (λ ms. slice_get ms q) made.members) ∙ there));
    }

-- none is left
pub sound_none : (members : List Member) (w : World) (prints : List (List ℕ)) → members ≡ [] → AreSound members w prints
sound_none members w prints none =
    let few : length members ≡ 0 = ap length none in
    record {
      few = omega (arith, few);
      around = omega (arith, few);
      kept = omega (arith, few);
      each = λ p m at. absurd (omega (arith, few, slice_get_within members p m at));
    }

-- another world of the same size
pub sound_around : (old : Parts) (w : World) → process_count w ≡ process_count old.world → AreSoundParts old → AreSoundParts (record old { world = w })
sound_around old w size sound = record {
  few = sound.few;
  around = omega (arith, size, sound.around);
  kept = sound.kept;
  each = λ p m at. subst (λ count. IsSoundMember count m) (sym size) (sound.each p m at);
}

-- the process of a sound member is at its place
pub sound_state : (parts : Parts) (p : ℕ) (m : Member) (S : State) → AreSoundParts parts → slice_get parts.members.items p ≡ Some m → m.process ≡ Some S → slice_get (live_states (live_parts parts)) p ≡ Some S
sound_state parts p m S sound at is =
    state_at (map live_member parts.members.items) p (live_member m) S there (slice_get-map live_member parts.members.items p ∙ ap (option_map live_member) at) is
  where
    there : AreThere (map live_member parts.members.items)
    there q n at =
        let one = mapped_at live_member (slice_get parts.members.items q) n (sym (slice_get-map live_member parts.members.items q) ∙ at) in
        let s = sound.each q one.0 one.1 in
        (s.state, sym (ap (λ (m : LiveMember). m.process) one.2) ∙ s.process)

-- ---- how it begins

pub live_begun : (schedule : Schedule) (first : List State) (members : List Member) (parts : Parts) → IsSchedule schedule → AreStarted (names_of schedule) first members → AreNewParts members parts
    → IsLiveAfter (group_of schedule first) [] (live_parts parts)
live_begun schedule first members parts fits started new =
    live_of (group_of schedule first) (at_steps []) parts 0 0
    (recorder_begun true schedule first members (recorder_with parts 0 0) fits started (record { members = new.members; world = new.world; prints = new.prints; acted = refl; idle = refl }))
    (ap length new.prints ∙ length-replicate (length members) [] ∙ started.count)

-- not all processes began
pub live_fails : {T : Type 0} (items : T → List Member) (names : List (List ℕ)) (schedule : Schedule) (begun : Result (List State) ℕ) (error : RecordError) → BeginsAll items names begun (Err error) → BeginsLive schedule begun (Err error)
live_fails items names schedule begun (errors.BadSegment p) h = h
live_fails items names schedule begun (errors.LogFull item) h = h
live_fails items names schedule begun errors.WriteFault h = h
live_fails items names schedule begun errors.NoMemory h = tt

-- ---- as contracts see it

pub within_parts : (parts : Parts) (seen : LiveParts) (p : ℕ) → live_parts parts ≡ seen → p < live_count seen → p < length parts.members.items
within_parts parts seen p is within = omega (arith, within, ap (λ (live : LiveParts). length live.members) is, length-map parts.members.items live_member)
