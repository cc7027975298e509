-- A recorder that goes on by one try or one item.
use Rattle.std.proofs.Common.{◌≡◌, ◌≢◌, ℕ, zero, suc, ◌+◌, ◌<◌, ◌≤◌, ◌^◌, ◌++◌, Bool, true, false, ◌&&◌, not, cond, eqb, List, [], ◌∷◌, length, map, slice_get, take, Option, Some, None, inl, inr, refl, ap, sym, subst, ◌∙◌, arith, add-one, length-append, string_bytes}
use Rattle.std.specs.Prelude.{All, OnOk, Result, ⊤, Ok, Err, is_some, nat_le, option_map, option_and_then}
use Rattle.std.proofs.lemmas.Bool.{eq-eqb, leb-true}
use Rattle.std.proofs.lemmas.Bool.Decides.{nat_tests}
use Rattle.std.proofs.lemmas.List.{take_all}
use Rattle.std.proofs.lemmas.List.Elements.{All-push}
use Rattle.std.proofs.lemmas.Option.{same_Some, slice_get-map}
use Rattle.fri_outside.specs.Outside.{Folder, with_piece_in_folder}
use Rattle.fri_outside.specs.Several.{files_with_grown_piece, with_files}
use Rattle.fri_outside.specs.Laws.{KeepsFiles}
use Rattle.lib_calls.specs.declared.entry.Entry.{Entry}
use Rattle.lib_calls.specs.Traffic.{drawn, prints}
use Rattle.lib_calls.specs.Entry.{IsShaped}
use Rattle.call_log.specs.Entry.{clock_after, encoding, encodings}
use Rattle.call_log.specs.declared.version.Version.TheVariants.{Two}
use Rattle.call_log.specs.Head.{head_bytes}
use Rattle.call_log.specs.Limits.{most_log}
use Rattle.guest_process.specs.Live.{Env, Event, live}
use Rattle.guest_process.specs.Legal.{reason}
use Rattle.guest_process.specs.Next.{next}
use Rattle.guest_process.specs.State.{State}
use Rattle.group_world.specs.History.{Act, History, put_last_if}
use Rattle.group_world.specs.History as world
use Rattle.group_world.specs.Laws.{IsPossibleNext, CanTake, Counting, sent_as}
use Rattle.group_world.specs.World.{World, has_pending, surroundings_of, with_act, world_after}
use Rattle.lossy_net.specs.Network.{Sent, nth_of, sent_by, with_delivered}
use Rattle.schedule_text.specs.Schedule.{IsInRange}
use Rattle.schedule_text.specs.declared.item.Item.{Item}
use Rattle.schedule_text.specs.declared.item.Item.TheVariants as item
use Rattle.std.specs.Int.{w64, cast_unsigned}
use Rattle.group_record.specs.declared.error.RecordError.{RecordError}
use Rattle.group_record.specs.declared.error.RecordError.TheVariants as errors
use Rattle.group_record.specs.declared.member.Member.{Member}
use Rattle.group_record.specs.declared.recorder.Recorder.{Recorder}
use Rattle.group_record.specs.Run.{GroupStart, RunProgress, RunStep, Had, Did, with_step, with_step_if, after_item, world_around, attempt, can_be_killed, done_by_item, entries_of_steps, entry_bytes, event_of_try, with_full_log, had_event, has_sent, head_of_log, history_of_steps, idled_item, log_of, is_running_process, processes_in_group, process_after, unless_log_full}
use Rattle.group_record.specs.RunLaws.{after_had}
use Rattle.group_record.specs.Live.{IsNoRun}
use Rattle.group_record.specs.Logs.{logs_of_steps}
use Rattle.group_record.specs.Files.{IsStoppedRecording, Between, InEntry, change}
use Rattle.group_record.specs.inside.Around.{env_of}
use Rattle.group_record.specs.inside.Members.{CanKeepEntry, IsAppendedInPart, LogHasRoom, WritesToLog, member_after, spelled_entry}
use Rattle.group_record.specs.inside.Recorded.{RecorderReaches, FilesOf, IsMember, IsLoggedEvent, KeepsUpWithRun, IsLiveEntry, recorder_acted_on, item_acts, after_act, counted_tries_of, is_not_killed}
use Rattle.group_record.proofs.ReadySignals.{live_same, with_signals}
use Rattle.group_record.proofs.GroupRunStops.{LeadsTo, attempt_leads}
use Rattle.group_record.proofs.LogGrowth.{clock_last, entries_few, entry_added, log_longer, logs_grown, piece_written, spelled_next}
use Rattle.group_record.proofs.KeptPrints.{event_printed}
use Rattle.group_record.proofs.SharedLemmas.{length_set, set_each}

-- ---- what is kept is what is counted

pub env_same : Counting → (group : GroupStart) (done : RunProgress) (r : Recorder) (p : ℕ) → KeepsUpWithRun group done r → p < processes_in_group group
    → env_of r.world p ≡ with_signals (world_around (processes_in_group group) done.steps p) (has_pending r.world p)
env_same counting group done r p keeps within =
    let counted = counting.counted (processes_in_group group) (history_of_steps done.steps) keeps.can_be p within in
    ap (λ w. with_signals (env_of w p) (has_pending r.world p)) keeps.world ∙ rw (counted.mailbox, counted.pool, counted.time, counted.killed) refl

-- so are the signals, and nothing else of what is pending makes a difference
live_now : Counting → (group : GroupStart) (done : RunProgress) (r : Recorder) (p thread : ℕ) (S : State) → KeepsUpWithRun group done r → p < processes_in_group group
    → live S thread (env_of r.world p) ≡ live S thread (world_around (processes_in_group group) done.steps p)
live_now counting group done r p thread S keeps within =
    let counted = counting.counted (processes_in_group group) (history_of_steps done.steps) keeps.can_be p within in
    ap (live S thread) (env_same counting group done r p keeps within)
    ∙ live_same S thread (world_around (processes_in_group group) done.steps p) (has_pending r.world p) (λ s first last. ap (λ w. has_pending w p s) keeps.world ∙ counted.pending s first last)

-- nothing is full yet
pub unless_none : (done next : RunProgress) → done.full ≡ None → unless_log_full done next ≡ next
unless_none done next none = ap (λ o. cond (is_some o) done next) none

-- the event of a try
pub try_is : Counting → (group : GroupStart) (done : RunProgress) (r : Recorder) (p thread : ℕ) (S : State) → KeepsUpWithRun group done r → p < processes_in_group group → process_after group done.steps p ≡ Some S
    → event_of_try group done.steps p thread ≡ live S thread (env_of r.world p)
try_is counting group done r p thread S keeps within here =
    ap (λ o. option_and_then (λ S. live S thread (world_around (processes_in_group group) done.steps p)) o) here
    ∙ sym (live_now counting group done r p thread S keeps within)

-- the result of a try
pub attempt_is : Counting → (group : GroupStart) (done : RunProgress) (r : Recorder) (number p thread : ℕ) (S : State) → KeepsUpWithRun group done r → p < processes_in_group group → process_after group done.steps p ≡ Some S
    → attempt group number p thread done ≡ had_event group number p (live S thread (env_of r.world p)) done
attempt_is counting group done r number p thread S keeps within here =
    unless_none done (had_event group number p (event_of_try group done.steps p thread) done) keeps.room
    ∙ ap (λ o. had_event group number p o done) (try_is counting group done r p thread S keeps within here)

-- ---- a try that is idle, or an item that is

pub idle_keeps : (group : GroupStart) (done : RunProgress) (old new : Recorder) → KeepsUpWithRun group done old → new ≡ record old { idle = old.idle + 1 } → KeepsUpWithRun group (idled_item done) new
idle_keeps group done old new k is = subst (λ (r : Recorder). KeepsUpWithRun group (idled_item done) r) (sym is) (record {
  room = k.room;
  apart = k.apart;
  count = k.count;
  members = k.members;
  can_be = k.can_be;
  world = k.world;
  prints = k.prints;
  acted = k.acted;
  idle = add-one old.idle ∙ ap suc k.idle;
})

-- ---- an item that acts

-- what an item does is no event
abbrev pub IsItem : Act → Type 0
IsItem (world.Event p e) = ⊥
IsItem _ = Unit {0}

did_entries : (act : Act) (steps : List RunStep) (p : ℕ) → IsItem act → entries_of_steps (Did act ∷ steps) p ≡ entries_of_steps steps p
did_entries (world.Event q e) steps p item = absurd item
did_entries (world.Deliver q n) steps p item = refl
did_entries (world.Inject q bytes) steps p item = refl
did_entries (world.Clock q value) steps p item = refl
did_entries (world.Random q bytes) steps p item = refl
did_entries (world.Signal q s) steps p item = refl
did_entries (world.Kill q) steps p item = refl

did_member : (group : GroupStart) (act : Act) (steps : List RunStep) (p : ℕ) (m : Member) → IsItem act → IsMember group steps p m → IsMember group (Did act ∷ steps) p m
did_member group (world.Event q e) steps p m item k = absurd item
did_member group (world.Deliver q n) steps p m item k = record { state = k.state; process = k.process; after = k.after; events = k.events; count = k.count; log = k.log; size = k.size; room = k.room; last = k.last; logged = k.logged }
did_member group (world.Inject q bytes) steps p m item k = record { state = k.state; process = k.process; after = k.after; events = k.events; count = k.count; log = k.log; size = k.size; room = k.room; last = k.last; logged = k.logged }
did_member group (world.Clock q value) steps p m item k = record { state = k.state; process = k.process; after = k.after; events = k.events; count = k.count; log = k.log; size = k.size; room = k.room; last = k.last; logged = k.logged }
did_member group (world.Random q bytes) steps p m item k = record { state = k.state; process = k.process; after = k.after; events = k.events; count = k.count; log = k.log; size = k.size; room = k.room; last = k.last; logged = k.logged }
did_member group (world.Signal q s) steps p m item k = record { state = k.state; process = k.process; after = k.after; events = k.events; count = k.count; log = k.log; size = k.size; room = k.room; last = k.last; logged = k.logged }
did_member group (world.Kill q) steps p m item k = record { state = k.state; process = k.process; after = k.after; events = k.events; count = k.count; log = k.log; size = k.size; room = k.room; last = k.last; logged = k.logged }

pub did_keeps : (group : GroupStart) (done : RunProgress) (old new : Recorder) (act : Act) → KeepsUpWithRun group done old → IsItem act → IsPossibleNext (processes_in_group group) (history_of_steps done.steps) act
    → new ≡ record old { world = with_act old.world act; acted = old.acted + 1 } → KeepsUpWithRun group (with_step (Did act) done) new
did_keeps group done old new act k item can is = subst (λ (r : Recorder). KeepsUpWithRun group (with_step (Did act) done) r) (sym is) (record {
  room = k.room;
  apart = k.apart;
  count = k.count;
  members = λ p m at. did_member group act done.steps p m item (k.members p m at);
  can_be = (can, k.can_be);
  world = ap (λ w. with_act w act) k.world;
  prints = λ p bytes at. k.prints p bytes at ∙ ap prints (sym (did_entries act done.steps p item));
  acted = add-one old.acted ∙ ap suc k.acted;
  idle = k.idle;
})

-- ---- an event

other_member : (group : GroupStart) (steps : List RunStep) (p q : ℕ) (e : Event) (m : Member) → p ≢ q → IsMember group steps q m → IsMember group (Had p e ∷ steps) q m
other_member group steps p q e m apart k =
    let other : eqb p q ≡ false = grind (arith, nat_tests) in
    let same : entries_of_steps (Had p e ∷ steps) q ≡ entries_of_steps steps q = ap (λ b. put_last_if b (entries_of_steps steps q) e.entry) other in
    record {
      state = k.state;
      process = k.process;
      after = after_had group steps p q e ∙ ap (λ b. cond b (Some e.state) (process_after group steps q)) other ∙ k.after;
      events = k.events ∙ ap length (sym same);
      count = k.count;
      log = k.log;
      size = k.size ∙ ap (λ es. length (head_bytes (head_of_log group q) ++ encodings Two 0 es)) (sym same);
      room = k.room;
      last = k.last ∙ ap (clock_after 0) (sym same);
      logged = subst (λ es. All IsShaped es) (sym same) k.logged;
    }

-- the member spells the entry as it is in the log
spelled_here : (group : GroupStart) (steps : List RunStep) (p : ℕ) (m : Member) (entry : Entry) (e : Event) → IsMember group steps p m → entry ≡ e.entry → spelled_entry m entry ≡ spelled_next steps p e.entry
spelled_here group steps p m entry e k same = ap (λ last. encoding Two last entry) k.last ∙ ap (λ x. spelled_next steps p x) same

pub log_size : (group : GroupStart) (steps : List RunStep) (p : ℕ) (m : Member) (entry : Entry) (e : Event) → IsMember group steps p m → entry ≡ e.entry → m.size + length (spelled_entry m entry) ≡ length (log_of group (Had p e ∷ steps) p)
log_size group steps p m entry e k same =
    ap (λ n. n + length (spelled_entry m entry)) k.size ∙ ap (λ bytes. length (log_of group steps p) + length bytes) (spelled_here group steps p m entry e k same) ∙ sym (log_longer group steps p e)

own_member : (group : GroupStart) (steps : List RunStep) (p thread : ℕ) (env : Env) (m : Member) (entry : Entry) → (k : IsMember group steps p m) → (t : IsLiveEntry k.state thread env entry) → LogHasRoom m (spelled_entry m entry)
    → IsMember group (Had p t.event ∷ steps) p (member_after m entry)
own_member group steps p thread env m entry k t room =
    let here : eqb p p ≡ true = eq-eqb p p refl in
    let more : entries_of_steps (Had p t.event ∷ steps) p ≡ entries_of_steps steps p ++ t.event.entry ∷ [] = ap (λ b. put_last_if b (entries_of_steps steps p) t.event.entry) here in
    record {
      state = t.event.state;
      process = ap (option_map (λ S. next S entry)) k.process ∙ ap (λ e. Some (next k.state e)) t.same ∙ ap Some t.told.same;
      after = after_had group steps p p t.event ∙ ap (λ b. cond b (Some t.event.state) (process_after group steps p)) here;
      events = t.events ∙ ap (λ n. n + 1) k.events ∙ sym (ap length more ∙ length-append (entries_of_steps steps p) (t.event.entry ∷ []));
      count = t.count ∙ k.count;
      log = k.log;
      size = log_size group steps p m entry t.event k t.same;
      room = room;
      last = ap (λ (e : Entry). e.clock) t.same ∙ sym (ap (clock_after 0) more ∙ clock_last 0 (entries_of_steps steps p) t.event.entry);
      logged = subst (λ es. All IsShaped es) (sym more) (All-push IsShaped (entries_of_steps steps p) t.event.entry k.logged (subst IsShaped t.same t.logged));
    }

pub event_keeps : Counting → (group : GroupStart) (done : RunProgress) (old new : Recorder) (p thread : ℕ) (m : Member) (entry : Entry) → (keeps : KeepsUpWithRun group done old) → p < processes_in_group group
    → (k : IsMember group done.steps p m) → (t : IsLiveEntry k.state thread (env_of old.world p) entry) → LogHasRoom m (spelled_entry m entry) → IsLoggedEvent old p m entry new
    → KeepsUpWithRun group (with_step (Had p t.event) done) new
event_keeps counting group done old new p thread m entry keeps within k t room made =
    let env = env_same counting group done old p keeps within in
    record {
      room = keeps.room;
      apart = keeps.apart;
      count = ap length made.members ∙ length_set old.members.items p (member_after m entry) ∙ keeps.count;
      members = λ q n at. set_each old.members.items p (member_after m entry) (λ q n. IsMember group (Had p t.event ∷ done.steps) q n)
          (λ inside. own_member group done.steps p thread (env_of old.world p) m entry k t room)
          (λ q n apart at. other_member group done.steps p q t.event n apart (keeps.members q n at))
          q n (sym (ap (λ ms. slice_get ms q) made.members) ∙ at);
      can_be = (
        (
          within,
          subst (λ e. CanTake (processes_in_group group) (history_of_steps done.steps) p e) t.same (record {
            datagrams = λ takes. subst (λ (env : Env). 1 ≤ length env.mailbox) env (t.datagram takes);
            bytes = subst (λ (env : Env). drawn entry ≤ length env.pool) env t.bytes;
          }),
        ),
        keeps.can_be,
      );
      world = made.world ∙ ap (λ w. with_act w (world.Event p entry)) keeps.world ∙ ap (λ e. with_act (world_after (processes_in_group group) (history_of_steps done.steps)) (world.Event p e)) t.same;
      prints = λ q bytes at.
          event_printed old.prints done.steps p t.event entry keeps.prints t.same q bytes (sym (ap (λ kept. slice_get kept q) made.prints) ∙ at);
      acted = made.acted ∙ add-one old.acted ∙ ap suc keeps.acted;
      idle = made.idle ∙ keeps.idle;
    }

-- ---- one try

-- it is idle
pub try_idle : Counting → (group : GroupStart) (done : RunProgress) (before now : Option Folder) (old new : Recorder) (number p thread : ℕ) (m : Member) → KeepsUpWithRun group done old → FilesOf group done before now → p < processes_in_group group
    → (k : IsMember group done.steps p m) → live k.state thread (env_of old.world p) ≡ None → new ≡ record old { idle = old.idle + 1 } → RecorderReaches group (attempt group number p thread done) (Ok tt) new (change before now)
try_idle counting group done before now old new number p thread m keeps files within k none is =
    let next : attempt group number p thread done ≡ idled_item done = attempt_is counting group done old number p thread k.state keeps within k.after ∙ ap (λ o. had_event group number p o done) none in
    subst (λ d. RecorderReaches group d (Ok tt) new (change before now)) (sym next) (idle_keeps group done old new keeps is, files)

-- it has an event, for which the log has room or not
pub room_test : (n limit : ℕ) → n ≤ limit → nat_le n limit ≡ true
room_test n limit fits = grind (arith, nat_tests)

pub full_test : (n limit : ℕ) → limit < n → nat_le n limit ≡ false
full_test n limit over = grind (arith, nat_tests)

has_event : Counting → (group : GroupStart) (done : RunProgress) (old : Recorder) (number p thread : ℕ) (m : Member) (entry : Entry) → KeepsUpWithRun group done old → p < processes_in_group group
    → (k : IsMember group done.steps p m) → (t : IsLiveEntry k.state thread (env_of old.world p) entry) → LogHasRoom m (spelled_entry m entry) → attempt group number p thread done ≡ with_step (Had p t.event) done
has_event counting group done old number p thread m entry keeps within k t room =
    attempt_is counting group done old number p thread k.state keeps within k.after ∙ ap (λ o. had_event group number p o done) t.lives
    ∙ ap (λ b. cond b (with_step (Had p t.event) done) (with_full_log number done))
    (room_test (length (log_of group (Had p t.event ∷ done.steps) p)) most_log (subst (λ n. n ≤ most_log) (log_size group done.steps p m entry t.event k t.same) room))

no_room : Counting → (group : GroupStart) (done : RunProgress) (old : Recorder) (number p thread : ℕ) (m : Member) (entry : Entry) → KeepsUpWithRun group done old → p < processes_in_group group
    → (k : IsMember group done.steps p m) → (t : IsLiveEntry k.state thread (env_of old.world p) entry) → most_log < m.size + length (spelled_entry m entry) → attempt group number p thread done ≡ with_full_log number done
no_room counting group done old number p thread m entry keeps within k t over =
    attempt_is counting group done old number p thread k.state keeps within k.after ∙ ap (λ o. had_event group number p o done) t.lives
    ∙ ap (λ b. cond b (with_step (Had p t.event) done) (with_full_log number done))
    (full_test (length (log_of group (Had p t.event ∷ done.steps) p)) most_log (subst (λ n. most_log < n) (log_size group done.steps p m entry t.event k t.same) over))

-- the files with the entry more
entry_written : KeepsFiles → (group : GroupStart) (done : RunProgress) (before now after : Option Folder) (old : Recorder) (p : ℕ) (m : Member) (entry : Entry) (e : Event) → KeepsUpWithRun group done old → FilesOf group done before now → p < processes_in_group group
    → IsMember group done.steps p m → entry ≡ e.entry → after ≡ with_piece_in_folder (string_bytes m.log) (spelled_entry m entry) now → after ≡ with_files (logs_of_steps group (Had p e ∷ done.steps)) before
entry_written files_keep group done before now after old p m entry e keeps files within k same is =
    is ∙ piece_written files_keep group (log_of group done.steps) p (string_bytes m.log) (spelled_entry m entry) before now keeps.apart within k.log files
    ∙ ap (λ bytes. with_files (files_with_grown_piece (logs_of_steps group done.steps) p bytes) before) (spelled_here group done.steps p m entry e k same)
    ∙ ap (λ fs. with_files fs before) (logs_grown group done.steps p e)

-- memory ran out before the files were touched
pub memory_stops : (group : GroupStart) (done next : RunProgress) (r : Recorder) (before now : Option Folder) → LeadsTo done next → FilesOf group done before now → RecorderReaches group next (Err errors.NoMemory) r (change before now)
memory_stops group done next r before now leads files = Between done.steps leads.front files

pub short_of : (many n : ℕ) → nat_le many n ≡ false → n < many
short_of many n is = grind (arith, nat_tests)

-- all of the entry was written, or a part of it
cut_stops : KeepsFiles → (group : GroupStart) (done : RunProgress) (before now after : Option Folder) (old : Recorder) (p : ℕ) (m : Member) (entry : Entry) (e : Event) → KeepsUpWithRun group done old → FilesOf group done before now → p < processes_in_group group
    → IsMember group done.steps p m → entry ≡ e.entry → (n : ℕ) (whole : Bool) → nat_le (length (spelled_entry m entry)) n ≡ whole → after ≡ with_piece_in_folder (string_bytes m.log) (take n (spelled_entry m entry)) now
    → IsStoppedRecording group (Had p e ∷ done.steps) [] before after
cut_stops files_keep group done before now after old p m entry e keeps files within k same n true whole is =
    let all : take n (spelled_entry m entry) ≡ spelled_entry m entry = take_all n (spelled_entry m entry) (leb-true _ _ whole) in
    Between (Had p e ∷ done.steps) ([], refl)
    (entry_written files_keep group done before now after old p m entry e keeps files within k same (is ∙ ap (λ piece. with_piece_in_folder (string_bytes m.log) piece now) all))
cut_stops files_keep group done before now after old p m entry e keeps files within k same n false part is =
    let bytes : spelled_entry m entry ≡ entry_bytes group done.steps p e = spelled_here group done.steps p m entry e k same ∙ sym (entry_added group done.steps p e) in
    InEntry done.steps [] p n e refl (subst (λ (bytes : List ℕ). n < length bytes) bytes (short_of (length (spelled_entry m entry)) n part))
    (is ∙ piece_written files_keep group (log_of group done.steps) p (string_bytes m.log) (take n (spelled_entry m entry)) before now keeps.apart within k.log files
    ∙ ap (λ (bytes : List ℕ). with_files (files_with_grown_piece (logs_of_steps group done.steps) p (take n bytes)) before) bytes)

-- a write that failed
fault_stops : KeepsFiles → (group : GroupStart) (done : RunProgress) (before now after : Option Folder) (old : Recorder) (p : ℕ) (m : Member) (entry : Entry) (e : Event) → KeepsUpWithRun group done old → FilesOf group done before now → p < processes_in_group group
    → IsMember group done.steps p m → entry ≡ e.entry → IsAppendedInPart (string_bytes m.log) (spelled_entry m entry) now after → IsStoppedRecording group (Had p e ∷ done.steps) [] before after
fault_stops files_keep group done before now after old p m entry e keeps files within k same (inl none) = Between done.steps (Had p e ∷ [], refl) (none ∙ files)
fault_stops files_keep group done before now after old p m entry e keeps files within k same (inr (n, is)) =
    cut_stops files_keep group done before now after old p m entry e keeps files within k same n (nat_le (length (spelled_entry m entry)) n) refl is

-- what comes of a try that has an event
pub try_event : Counting → KeepsFiles → (group : GroupStart) (done : RunProgress) (before now after : Option Folder) (old : Recorder) (result : Result ⊤ RecordError) (new : Recorder) (number p thread : ℕ) (m : Member) (entry : Entry)
    → KeepsUpWithRun group done old → FilesOf group done before now → p < processes_in_group group → (k : IsMember group done.steps p m) → IsLiveEntry k.state thread (env_of old.world p) entry
    → WritesToLog m number (spelled_entry m entry) result (change now after) → OnOk result (IsLoggedEvent old p m entry new) → RecorderReaches group (attempt group number p thread done) result new (change before after)
try_event counting files_keep group done before now after old (Ok _) new number p thread m entry keeps files within k t writes made =
    subst (λ d. RecorderReaches group d (Ok tt) new (change before after)) (sym (has_event counting group done old number p thread m entry keeps within k t writes.0)) (
      event_keeps counting group done old new p thread m entry keeps within k t writes.0 made,
      entry_written files_keep group done before now after old p m entry t.event keeps files within k t.same writes.1,
    )
try_event counting files_keep group done before now after old (Err (errors.BadSegment q)) new number p thread m entry keeps files within k t writes made = writes
try_event counting files_keep group done before now after old (Err (errors.LogFull item)) new number p thread m entry keeps files within k t writes made =
    subst (λ d. RecorderReaches group d (Err (errors.LogFull item)) new (change before after)) (sym (no_room counting group done old number p thread m entry keeps within k t writes.1))
    (ap Some (sym writes.0), writes.2 ∙ files)
try_event counting files_keep group done before now after old (Err errors.WriteFault) new number p thread m entry keeps files within k t writes made =
    subst (λ d. RecorderReaches group d (Err errors.WriteFault) new (change before after)) (sym (has_event counting group done old number p thread m entry keeps within k t writes.0))
    (fault_stops files_keep group done before now after old p m entry t.event keeps files within k t.same writes.1)
try_event counting files_keep group done before now after old (Err errors.NoMemory) new number p thread m entry keeps files within k t (inl none) made =
    Between done.steps (attempt_leads group number p thread done).front (none ∙ files)
try_event counting files_keep group done before now after old (Err errors.NoMemory) new number p thread m entry keeps files within k t (inr (room, is)) made =
    subst (λ d. RecorderReaches group d (Err errors.NoMemory) new (change before after)) (sym (has_event counting group done old number p thread m entry keeps within k t room))
    (Between (Had p t.event ∷ done.steps) ([], refl) (entry_written files_keep group done before now after old p m entry t.event keeps files within k t.same is))

-- ---- what a try may ask

-- a log has room for its events
pub events_within : (group : GroupStart) (steps : List RunStep) (p : ℕ) (m : Member) → (k : IsMember group steps p m) → k.state.events ≤ m.size
events_within group steps p m k =
    let few : length (entries_of_steps steps p) ≤ length (encodings Two 0 (entries_of_steps steps p)) = entries_few Two 0 (entries_of_steps steps p) in
    let whole : length (log_of group steps p) ≡ length (head_bytes (head_of_log group p)) + length (encodings Two 0 (entries_of_steps steps p)) = length-append (head_bytes (head_of_log group p)) (encodings Two 0 (entries_of_steps steps p)) in
    omega (arith, few, whole, k.events, k.size)

pub few_events : (group : GroupStart) (steps : List RunStep) (p : ℕ) (m : Member) → (k : IsMember group steps p m) → k.state.events < 2 ^ 61
few_events group steps p m k = omega (arith, events_within group steps p m k, k.room)

-- the member at a place, which can keep an entry that tells an event
pub can_keep : (group : GroupStart) (steps : List RunStep) (p thread : ℕ) (env : Env) (m : Member) (entry : Entry) → (k : IsMember group steps p m) → IsLiveEntry k.state thread env entry → CanKeepEntry m entry
can_keep group steps p thread env m entry k t = record {
  state = k.state;
  process = k.process;
  legal = ap (reason k.state) t.same ∙ t.told.legal;
  few = few_events group steps p m k;
  room = k.room;
}

pub world_size : Counting → (group : GroupStart) (done : RunProgress) (r : Recorder) → KeepsUpWithRun group done r → length r.world.net ≡ processes_in_group group
world_size counting group done r keeps = ap (λ w. length w.net) keeps.world ∙ counting.net (processes_in_group group) (history_of_steps done.steps)

-- ---- items

pub acts_so : Counting → (group : GroupStart) (done : RunProgress) (old new : Recorder) (act : Act) (p : ℕ) → KeepsUpWithRun group done old → p < length old.world.net → IsItem act
    → (p < processes_in_group group → IsPossibleNext (processes_in_group group) (history_of_steps done.steps) act) → new ≡ record old { world = with_act old.world act; acted = old.acted + 1 } → KeepsUpWithRun group (with_step (Did act) done) new
acts_so counting group done old new act p keeps within item can is =
    did_keeps group done old new act keeps item (can (subst (λ n. p < n) (world_size counting group done old keeps) within)) is

some_mapped : {A B : Type 0} (f : A → B) (o : Option A) → is_some (option_map f o) ≡ is_some o
some_mapped f None = refl
some_mapped f (Some x) = refl

nth_mapped : (p : ℕ) (sends : List Entry) (n : ℕ) → is_some (nth_of (map (sent_as p) sends) n) ≡ is_some (nth_of sends n)
nth_mapped p sends zero = refl
nth_mapped p sends (suc before) = ap is_some (slice_get-map (sent_as p) sends before) ∙ some_mapped (sent_as p) (slice_get sends before)

-- whether a process has sent a datagram with this number
pub sent_same : Counting → (group : GroupStart) (done : RunProgress) (r : Recorder) (p n : ℕ) → KeepsUpWithRun group done r → p < length r.world.net → is_some (nth_of (sent_by r.world.net p) n) ≡ has_sent (processes_in_group group) done.steps p n
sent_same counting group done r p n keeps within =
    let counted = counting.counted (processes_in_group group) (history_of_steps done.steps) keeps.can_be p (subst (λ n. p < n) (world_size counting group done r keeps) within) in
    ap (λ w. is_some (nth_of (sent_by w.net p) n)) keeps.world ∙ ap (λ sent. is_some (nth_of sent n)) counted.sent
    ∙ nth_mapped p (world.sends (processes_in_group group) (history_of_steps done.steps) p) n

pub none_delivered : (w : World) (p n : ℕ) → is_some (nth_of (sent_by w.net p) n) ≡ false → with_act w (world.Deliver p n) ≡ w
none_delivered w p n none = by_found (nth_of (sent_by w.net p) n) none
  where
    by_found : (found : Option Sent) → is_some found ≡ false → record w { net = with_delivered w.net found } ≡ w
    by_found None h = refl
    by_found (Some datagram) h = cc

pub delivers : Counting → (group : GroupStart) (done : RunProgress) (old new : Recorder) (p n : ℕ) → KeepsUpWithRun group done old → p < length old.world.net → is_some (nth_of (sent_by old.world.net p) n) ≡ true
    → new ≡ record old { world = with_act old.world (world.Deliver p n); acted = old.acted + 1 } → KeepsUpWithRun group (done_by_item group 0 (item.Deliver p n) done) new
delivers counting group done old new p n keeps within found is =
    subst (λ b. KeepsUpWithRun group (with_step_if b (Did (world.Deliver p n)) done) new) (sym found ∙ sent_same counting group done old p n keeps within)
    (acts_so counting group done old new (world.Deliver p n) p keeps within tt (λ inside. inside) is)

pub delivers_none : Counting → (group : GroupStart) (done : RunProgress) (old new : Recorder) (p n : ℕ) → KeepsUpWithRun group done old → p < length old.world.net → is_some (nth_of (sent_by old.world.net p) n) ≡ false
    → new ≡ record old { world = with_act old.world (world.Deliver p n); idle = old.idle + 1 } → KeepsUpWithRun group (done_by_item group 0 (item.Deliver p n) done) new
delivers_none counting group done old new p n keeps within none is =
    subst (λ b. KeepsUpWithRun group (with_step_if b (Did (world.Deliver p n)) done) new) (sym none ∙ sent_same counting group done old p n keeps within)
    (idle_keeps group done old new keeps (is ∙ ap (λ (w : World). record old { world = w; idle = old.idle + 1 }) (none_delivered old.world p n none)))

-- there is a member at a place
pub some_there : {A : Type 0} (xs : List A) (p : ℕ) → p < length xs → (x : A) × (slice_get xs p ≡ Some x)
some_there [] p within = absurd (omega (arith, within))
some_there (x ∷ xs) zero within = (x, refl)
some_there (x ∷ xs) (suc p) within = some_there xs p (omega (arith, within))

-- whether a process can be killed
pub kill_same : Counting → (group : GroupStart) (done : RunProgress) (r : Recorder) (p : ℕ) → KeepsUpWithRun group done r → p < processes_in_group group → is_not_killed r.members.items r.world p ≡ can_be_killed group done.steps p
kill_same counting group done r p keeps within =
    let m = some_there r.members.items p (omega (arith, within, keeps.count)) in
    let k = keeps.members p m.0 m.1 in
    let process : option_and_then (λ (m : Member). m.process) (slice_get r.members.items p) ≡ process_after group done.steps p = ap (option_and_then (λ (m : Member). m.process)) m.1 ∙ k.process ∙ sym k.after in
    ap (λ o. is_running_process o && not (surroundings_of r.world p).killed) process
    ∙ ap (λ (env : Env). is_running_process (process_after group done.steps p) && not env.killed) (env_same counting group done r p keeps within)

kills : Counting → (group : GroupStart) (done : RunProgress) (old new : Recorder) (p : ℕ) (spared : Bool) → KeepsUpWithRun group done old → p < processes_in_group group → is_not_killed old.members.items old.world p ≡ spared
    → new ≡ recorder_acted_on spared (cond spared (with_act old.world (world.Kill p)) old.world) old → KeepsUpWithRun group (with_step_if (can_be_killed group done.steps p) (Did (world.Kill p)) done) new
kills counting group done old new p true keeps within can is =
    subst (λ b. KeepsUpWithRun group (with_step_if b (Did (world.Kill p)) done) new) (sym can ∙ kill_same counting group done old p keeps within)
    (did_keeps group done old new (world.Kill p) keeps tt within is)
kills counting group done old new p false keeps within can is =
    subst (λ b. KeepsUpWithRun group (with_step_if b (Did (world.Kill p)) done) new) (sym can ∙ kill_same counting group done old p keeps within)
    (idle_keeps group done old new keeps is)

delivery_is : Counting → (group : GroupStart) (done : RunProgress) (old new : Recorder) (p n : ℕ) (found : Bool) → KeepsUpWithRun group done old → p < length old.world.net → is_some (nth_of (sent_by old.world.net p) n) ≡ found
    → new ≡ recorder_acted_on found (with_act old.world (world.Deliver p n)) old → KeepsUpWithRun group (done_by_item group 0 (item.Deliver p n) done) new
delivery_is counting group done old new p n true keeps within found is = delivers counting group done old new p n keeps within found is
delivery_is counting group done old new p n false keeps within found is = delivers_none counting group done old new p n keeps within found is

-- an item that is not `run` counts as one
pub is_other : (i : Item) → ((p thread times : ℕ) → i ≡ item.Run p thread times → ⊥) → IsNoRun i × (counted_tries_of i ≡ 1)
is_other (item.Run p thread times) h = absurd (h p thread times refl)
is_other (item.Deliver p n) h = (tt, refl)
is_other (item.Inject p bytes) h = (tt, refl)
is_other (item.Clock p value) h = (tt, refl)
is_other (item.Random p bytes) h = (tt, refl)
is_other (item.Signal p s) h = (tt, refl)
is_other (item.Kill p) h = (tt, refl)

pub around_too : Counting → (group : GroupStart) (done : RunProgress) (r : Recorder) (p : ℕ) → KeepsUpWithRun group done r → p < length r.members.items → p < length r.world.net
around_too counting group done r p keeps within = omega (arith, within, keeps.count, world_size counting group done r keeps)

-- what comes of such an item
pub item_keeps : Counting → (group : GroupStart) (done : RunProgress) (old new : Recorder) (number : ℕ) (i : Item) → KeepsUpWithRun group done old → IsInRange (length old.members.items) i → IsNoRun i
    → new ≡ recorder_acted_on (item_acts old.members.items old.world i) (after_act old.members.items old.world i) old → KeepsUpWithRun group (done_by_item group number i done) new
item_keeps counting group done old new number (item.Run p thread times) keeps fits other is = absurd other
item_keeps counting group done old new number (item.Deliver p n) keeps fits other is =
    delivery_is counting group done old new p n (is_some (nth_of (sent_by old.world.net p) n)) keeps (around_too counting group done old p keeps fits.0) refl is
item_keeps counting group done old new number (item.Inject p bytes) keeps fits other is =
    acts_so counting group done old new (world.Inject p bytes) p keeps (around_too counting group done old p keeps fits.0) tt (λ inside. inside) is
item_keeps counting group done old new number (item.Clock p value) keeps fits other is =
    acts_so counting group done old new (world.Clock p (cast_unsigned w64 value)) p keeps (around_too counting group done old p keeps fits.0) tt (λ inside. inside) is
item_keeps counting group done old new number (item.Random p bytes) keeps fits other is =
    acts_so counting group done old new (world.Random p bytes) p keeps (around_too counting group done old p keeps fits.0) tt (λ inside. inside) is
item_keeps counting group done old new number (item.Signal p s) keeps fits other is =
    acts_so counting group done old new (world.Signal p s) p keeps (around_too counting group done old p keeps fits.0) tt (λ inside. (inside, fits.1, fits.2)) is
item_keeps counting group done old new number (item.Kill p) keeps fits other is =
    kills counting group done old new p (is_not_killed old.members.items old.world p) keeps (omega (arith, fits, keeps.count)) refl is

-- this is done, and no file has changed
logs_stay : (group : GroupStart) (done next : RunProgress) (before now : Option Folder) → logs_of_steps group next.steps ≡ logs_of_steps group done.steps → FilesOf group done before now → FilesOf group next before now
logs_stay group done next before now same files = files ∙ ap (λ fs. with_files fs before) (sym same)

same_logs : (group : GroupStart) (done : RunProgress) (acts : Bool) (act : Act) → logs_of_steps group (Did act ∷ done.steps) ≡ logs_of_steps group done.steps → logs_of_steps group (with_step_if acts (Did act) done).steps ≡ logs_of_steps group done.steps
same_logs group done true act same = same
same_logs group done false act same = refl

acted_logs : (group : GroupStart) (done : RunProgress) (acts : Bool) (act : Act) → IsItem act → logs_of_steps group (with_step_if acts (Did act) done).steps ≡ logs_of_steps group done.steps
acted_logs group done acts (world.Event p e) item = absurd item
acted_logs group done true (world.Deliver p n) item = refl
acted_logs group done false (world.Deliver p n) item = refl
acted_logs group done acts (world.Inject p bytes) item = same_logs group done acts (world.Inject p bytes) refl
acted_logs group done acts (world.Clock p value) item = same_logs group done acts (world.Clock p value) refl
acted_logs group done acts (world.Random p bytes) item = same_logs group done acts (world.Random p bytes) refl
acted_logs group done acts (world.Signal p s) item = same_logs group done acts (world.Signal p s) refl
acted_logs group done true (world.Kill p) item = refl
acted_logs group done false (world.Kill p) item = refl

does_logs : (group : GroupStart) (number : ℕ) (i : Item) (done : RunProgress) → IsNoRun i → logs_of_steps group (done_by_item group number i done).steps ≡ logs_of_steps group done.steps
does_logs group number (item.Run p thread times) done other = absurd other
does_logs group number (item.Deliver p n) done other = acted_logs group done (has_sent (processes_in_group group) done.steps p n) (world.Deliver p n) tt
does_logs group number (item.Inject p bytes) done other = refl
does_logs group number (item.Clock p value) done other = refl
does_logs group number (item.Random p bytes) done other = refl
does_logs group number (item.Signal p s) done other = refl
does_logs group number (item.Kill p) done other = acted_logs group done (can_be_killed group done.steps p) (world.Kill p) tt

pub item_comes : Counting → (group : GroupStart) (done : RunProgress) (before now : Option Folder) (old new : Recorder) (number : ℕ) (i : Item) → KeepsUpWithRun group done old → FilesOf group done before now
    → IsInRange (length old.members.items) i → IsNoRun i → new ≡ recorder_acted_on (item_acts old.members.items old.world i) (after_act old.members.items old.world i) old
    → RecorderReaches group (after_item group number i done) (Ok tt) new (change before now)
item_comes counting group done before now old new number i keeps files fits other is =
    subst (λ d. RecorderReaches group d (Ok tt) new (change before now)) (sym (unless_none done (done_by_item group number i done) keeps.room)) (
      item_keeps counting group done old new number i keeps fits other is,
      logs_stay group done (done_by_item group number i done) before now (does_logs group number i done other) files,
    )

-- of as many processes as before it is kept what they print
pub acted_prints : (acts : Bool) (w : World) (old new : Recorder) → new ≡ recorder_acted_on acts w old → length new.prints ≡ length old.prints
acted_prints true w old new is = ap (λ (r : Recorder). length r.prints) is
acted_prints false w old new is = ap (λ (r : Recorder). length r.prints) is

-- ---- what a write says of the whole

pub stops_of : (m other : Member) (number : ℕ) (e same : Entry) (error : RecordError) (before after : Option Folder) → m ≡ other → e ≡ same
    → WritesToLog m number (spelled_entry m e) (Err error) (change before after) → WritesToLog other number (spelled_entry other same) (Err error) (change before after)
stops_of m other number e same error before after is told h =
    subst (λ (m : Member). WritesToLog m number (spelled_entry m same) (Err error) (change before after)) is
    (subst (λ (e : Entry). WritesToLog m number (spelled_entry m e) (Err error) (change before after)) told h)

pub written_of : (m other : Member) (e same : Entry) (before after : Option Folder) → m ≡ other → e ≡ same
    → LogHasRoom m (spelled_entry m e) × (after ≡ with_piece_in_folder (string_bytes m.log) (spelled_entry m e) before) → LogHasRoom other (spelled_entry other same) × (after ≡ with_piece_in_folder (string_bytes other.log) (spelled_entry other same) before)
written_of m other e same before after is told h =
    subst (λ (m : Member). LogHasRoom m (spelled_entry m same) × (after ≡ with_piece_in_folder (string_bytes m.log) (spelled_entry m same) before)) is
    (subst (λ (e : Entry). LogHasRoom m (spelled_entry m e) × (after ≡ with_piece_in_folder (string_bytes m.log) (spelled_entry m e) before)) told h)

pub kept_at : (result : Result ⊤ RecordError) (old new : Recorder) (p : ℕ) (m : Member) (entry : Entry) → slice_get old.members.items p ≡ Some m
    → OnOk result ((m : Member) → slice_get old.members.items p ≡ Some m → IsLoggedEvent old p m entry new) → OnOk result (IsLoggedEvent old p m entry new)
kept_at (Ok _) old new p m entry at h = h m at
kept_at (Err error) old new p m entry at h = h

pub never_away : (o : Option State) (S : State) → o ≡ Some S → o ≡ None → ⊥
never_away o S here away = cc

-- as it is asked in a try
pub group_size : Counting → (group : GroupStart) (done : RunProgress) (r : Recorder) (p : ℕ) (m : Member) → (keeps : KeepsUpWithRun group done r) → slice_get r.members.items p ≡ Some m → (S : State) → m.process ≡ Some S → S.count ≡ length r.world.net
group_size counting group done r p m keeps at S is =
    let k = keeps.members p m at in
    ap (λ (S : State). S.count) (same_Some _ _ (sym is ∙ k.process)) ∙ k.count ∙ sym (world_size counting group done r keeps)

pub few_had : (group : GroupStart) (done : RunProgress) (r : Recorder) (p : ℕ) (m : Member) → (keeps : KeepsUpWithRun group done r) → slice_get r.members.items p ≡ Some m → (S : State) → m.process ≡ Some S → S.events < 2 ^ 61
few_had group done r p m keeps at S is =
    let k = keeps.members p m at in
    subst (λ (S : State). S.events < 2 ^ 61) (same_Some _ _ (sym k.process ∙ is)) (few_events group done.steps p m k)

pub tells_of : (group : GroupStart) (done : RunProgress) (r : Recorder) (p thread : ℕ) (m : Member) (env : Env) (entry : Entry) → (keeps : KeepsUpWithRun group done r) → (at : slice_get r.members.items p ≡ Some m) → (S : State) → m.process ≡ Some S
    → IsLiveEntry S thread env entry → IsLiveEntry (keeps.members p m at).state thread env entry
tells_of group done r p thread m env entry keeps at S is t = subst (λ (S : State). IsLiveEntry S thread env entry) (same_Some _ _ (sym is ∙ (keeps.members p m at).process)) t

pub lives_of : (group : GroupStart) (done : RunProgress) (r : Recorder) (p thread : ℕ) (m : Member) (env : Env) → (keeps : KeepsUpWithRun group done r) → (at : slice_get r.members.items p ≡ Some m) → (S : State) → m.process ≡ Some S
    → live S thread env ≡ None → live (keeps.members p m at).state thread env ≡ None
lives_of group done r p thread m env keeps at S is t = subst (λ (S : State). live S thread env ≡ None) (same_Some _ _ (sym is ∙ (keeps.members p m at).process)) t
