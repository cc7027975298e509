-- A group that has begun, and its recorder before the first item.
use Rattle.std.proofs.Common.{◌≡◌, ◌≢◌, ℕ, Bool, ◌+◌, ◌<◌, ◌≤◌, ◌++◌, List, [], ◌∷◌, length, length-append, map, slice_get, slice_index_or, Option, Some, refl, ap, sym, subst, ◌∙◌, append-nil, arith}
use Rattle.std.specs.Prelude.{All, AllPairs, nat_le, ◌&&◌, Result, Ok, Err, IsTrue, codes}
use Rattle.std.specs.Int.{w32, to_le_bytes}
use Rattle.std.specs.List.{list_all}
use Rattle.std.proofs.lemmas.Bool.{and_parts}
use Rattle.std.proofs.lemmas.Bool.Decides.{nat_tests}
use Rattle.std.proofs.lemmas.List.{length-map}
use Rattle.std.proofs.lemmas.Option.{get_or_from_slice_get, slice_get_within}
use Rattle.fri_outside.specs.Outside.{Folder}
use Rattle.fri_outside.specs.Several.{with_files}
use Rattle.fri_text.specs.Name.{is_name, is_name_byte}
use Rattle.call_log.specs.Head.{Head, head_bytes}
use Rattle.schedule_text.specs.declared.process.ProcessLine.{ProcessLine}
use Rattle.schedule_text.specs.Schedule.{IsProcess, IsSchedule, Schedule}
use Rattle.guest_process.specs.State.{State}
use Rattle.group_world.specs.World.{new_world}
use Rattle.group_record.specs.declared.error.RecordError.{RecordError}
use Rattle.group_record.specs.declared.error.RecordError.TheVariants as errors
use Rattle.group_record.specs.declared.member.Member.{Member}
use Rattle.group_record.specs.declared.recorder.Recorder.{Recorder}
use Rattle.group_record.specs.Answer.{group_of, names_of}
use Rattle.group_record.specs.inside.Begun.{AreStarted, BeginsAll, GroupBegins, HaveHeads, IsNewRecorder, MakeAll, StopsAtHead, heads_of_logs}
use Rattle.group_record.specs.Files.{InHeads}
use Rattle.group_record.specs.inside.Recorded.{FilesOf, IsMember, KeepsUpWithRun, prints_kept_for}
use Rattle.group_record.specs.Run.{head_of_log, name_of_process, no_progress_yet}
use Rattle.group_record.specs.RunLaws.{before_steps}
use Rattle.group_record.proofs.LogHeads.{heads_are_logs}
use Rattle.group_record.proofs.KeptPrints.{none_printed}
use Rattle.group_record.proofs.RecorderSteps.{some_there}
use Rattle.group_record.proofs.FirstProcesses.{name_at}

-- no file has changed
pub nothing_made : (schedule : Schedule) (begun : Result (List State) ℕ) (told : Option Folder) → StopsAtHead schedule begun told told
nothing_made schedule (Ok first) told = InHeads 0 (λ p. 0) refl
nothing_made schedule (Err p) told = refl

-- not all processes began
pub members_fail : {T : Type 0} (items : T → List Member) (names : List (List ℕ)) (schedule : Schedule) (begun : Result (List State) ℕ) (error : RecordError) (told : Option Folder) → BeginsAll items names begun (Err error)
    → GroupBegins schedule begun (Err error) told told
members_fail items names schedule begun (errors.BadSegment p) told h = (h, refl)
members_fail items names schedule begun (errors.LogFull item) told h = h
members_fail items names schedule begun errors.WriteFault told h = absurd h
members_fail items names schedule begun errors.NoMemory told h = nothing_made schedule begun told

-- not all logs were made
pub logs_fail : (schedule : Schedule) (begun : Result (List State) ℕ) (first : List State) (bytes : ℕ → List ℕ) (error : RecordError) (before after : Option Folder) → begun ≡ Ok first
    → MakeAll (group_of schedule first) bytes (Err error) before after → GroupBegins schedule begun (Err error) before after
logs_fail schedule begun first bytes (errors.BadSegment p) before after is h = absurd h
logs_fail schedule begun first bytes (errors.LogFull item) before after is h = h
logs_fail schedule begun first bytes errors.WriteFault before after is h = subst (λ b. StopsAtHead schedule b before after) (sym is) h
logs_fail schedule begun first bytes errors.NoMemory before after is h = subst (λ b. StopsAtHead schedule b before after) (sym is) h

-- ---- the names

names_apart : (lines : List ProcessLine) → AllPairs (λ a b. a.name ≢ b.name) lines → AllPairs (λ name other. name ≢ other) (map (λ line. line.name) lines)
names_apart lines apart i j d before within same =
    let inside : j < length lines = omega (arith, within, length-map lines (λ (line : ProcessLine). line.name)) in
    let one = some_there lines i (omega (arith, before, inside)) in
    let other = some_there lines j inside in
    apart i j one.0 before inside
    (ap (λ (line : ProcessLine). line.name) (get_or_from_slice_get lines i one.0 one.0 one.1)
    ∙ sym (name_at lines i one.0 d one.1) ∙ same ∙ name_at lines j other.0 d other.1
    ∙ sym (ap (λ (line : ProcessLine). line.name) (get_or_from_slice_get lines j other.0 one.0 other.1)))

pub short_name : (name : List ℕ) → IsTrue (is_name name) → length name ≤ 32
short_name name h =
    let few = (and_parts (nat_le 1 (length name)) (nat_le (length name) 32) (and_parts (nat_le 1 (length name) && nat_le (length name) 32) (list_all is_name_byte name) h).0).1 in
    grind (arith, nat_tests)

names_short : (lines : List ProcessLine) (p : ℕ) → All IsProcess lines → p < length lines → length (slice_index_or (map (λ line. line.name) lines) p []) ≤ 32
names_short lines p fit inside =
    let one = some_there lines p inside in
    let named : IsTrue (is_name one.0.name) = subst (λ (line : ProcessLine). IsTrue (is_name line.name)) (get_or_from_slice_get lines p one.0 one.0 one.1) (fit p one.0 inside).name in
    subst (λ (n : List ℕ). length n ≤ 32) (sym (name_at lines p one.0 [] one.1)) (short_name one.0.name named)

pub head_size : (h : Head) → length (head_bytes h) ≡ 17 + length h.name
unfolding head_bytes
head_size h =
    let last = h.name ++ [] in
    let named = (length h.name ∷ []) ++ last in
    let process = to_le_bytes w32 h.process ++ named in
    let count = to_le_bytes w32 h.count ++ process in
    let version = to_le_bytes w32 1 ++ count in
    omega (
      arith,
      length-append (codes "LLOG") version,
      length-append (to_le_bytes w32 1) count,
      length-append (to_le_bytes w32 h.count) process,
      length-append (to_le_bytes w32 h.process) named,
      length-append (length h.name ∷ []) last,
      length-append h.name [],
    )

-- ---- what has begun

pub have_heads : (schedule : Schedule) (first : List State) (members : List Member) → IsSchedule schedule → AreStarted (names_of schedule) first members → HaveHeads (group_of schedule first) members
have_heads schedule first members fits started = record {
  count = started.count;
  apart = names_apart schedule.processes fits.formed.names;
  logs = λ p m at. (started.each p m at).2.log;
  heads = λ p m at. (started.each p m at).2.head;
}

begun_member : (schedule : Schedule) (first : List State) (members : List Member) (p : ℕ) (m : Member) → IsSchedule schedule → AreStarted (names_of schedule) first members → slice_get members p ≡ Some m
    → IsMember (group_of schedule first) [] p m
begun_member schedule first members p m fits started at =
    let e = started.each p m at in
    let group = group_of schedule first in
    let inside : p < length schedule.processes = omega (arith, slice_get_within members p m at, started.count, length-map schedule.processes (λ (line : ProcessLine). line.name)) in
    let short : length (name_of_process group p) ≤ 32 = names_short schedule.processes p fits.formed.lines inside in
    let whole : m.size ≡ length (head_bytes (head_of_log group p)) = e.2.size ∙ ap length e.2.head in
    record {
      state = e.0;
      process = e.2.process;
      after = before_steps group p ∙ e.1;
      events = e.2.events;
      count = e.2.group;
      log = e.2.log;
      size = whole ∙ ap length (sym (append-nil (head_bytes (head_of_log group p))));
      room = omega (arith, whole, head_size (head_of_log group p), short);
      last = e.2.last;
      logged = λ i d within. absurd (omega (arith, within));
    }

pub recorder_begun : (asked : Bool) (schedule : Schedule) (first : List State) (members : List Member) (recorder : Recorder) → IsSchedule schedule → AreStarted (names_of schedule) first members → IsNewRecorder asked members recorder
    → KeepsUpWithRun (group_of schedule first) no_progress_yet recorder
recorder_begun asked schedule first members recorder fits started new = record {
  room = refl;
  apart = names_apart schedule.processes fits.formed.names;
  count = ap length new.members ∙ started.count;
  members = λ p m at. begun_member schedule first members p m fits started (sym (ap (λ ms. slice_get ms p) new.members) ∙ at);
  can_be = tt;
  world = new.world ∙ ap new_world started.count;
  prints = λ p bytes at. none_printed (prints_kept_for asked (length members)) p bytes (sym (ap (λ kept. slice_get kept p) new.prints) ∙ at);
  acted = new.acted;
  idle = new.idle;
}

pub files_begun : (schedule : Schedule) (first : List State) (before now : Option Folder) → MakeAll (group_of schedule first) (heads_of_logs (group_of schedule first)) (Ok tt) before now → FilesOf (group_of schedule first) no_progress_yet before now
files_begun schedule first before now is = is ∙ ap (λ fs. with_files fs before) (heads_are_logs (group_of schedule first))
