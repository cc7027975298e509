-- What is recorded of the schedule are the logs that it was made of.
use Rattle.std.proofs.Common.{◌≡◌, ◌∙◌, ◌+◌, ℕ, zero, suc, List, [], ◌∷◌, ◌++◌, length, map, Option, Some, Ok, append-nil, ap, arith, refl, sym, subst}
use Rattle.std.specs.Prelude.{All, Contains, IsTrue, slice_get}
use Rattle.std.specs.List.{AllByRecursion}
use Rattle.std.specs.FinMap.{get}
use Rattle.std.proofs.lemmas.List.Elements.{All-from_recursion, recursion_from_All}
use Rattle.std.proofs.lemmas.Option.{get_or_from_slice_get, same_Some, slice_get_within}
use Rattle.fri_outside.specs.Outside.{Folder}
use Rattle.call_log.specs.declared.version.Version.{Version}
use Rattle.call_log.specs.declared.version.Version.TheVariants.{Two}
use Rattle.call_log.specs.Entry.{encodings}
use Rattle.call_log.specs.Head.{Head, head_bytes}
use Rattle.call_log.specs.Laws.{ExactLogs, RewrittenIsRead}
use Rattle.call_log.specs.Log.{Unread, entries_of, rest_of_log, rewritten_log}
use Rattle.guest_process.specs.OneEvent.{IsStarted}
use Rattle.guest_process.specs.Start.{start as start_of}
use Rattle.guest_process.specs.State.{State}
use Rattle.group_record.specs.Logs.{log_name, logs_of_steps}
use Rattle.group_record.specs.Run.{RunProgress, log_of}
use Rattle.proc_replay.specs.AtHead.{IsAtHead}
use Rattle.proc_replay.specs.Replaying.{Replaying}
use Rattle.schedule_text.specs.Laws.{TextIsRead}
use Rattle.schedule_text.specs.declared.process.ProcessLine.{ProcessLine}
use Rattle.group_state.specs.Place.{AreGroupReplays, events_of_replays}
use Rattle.schedule_back.specs.Laws.{Converse, RecordsBack as BackRecords, back_group, back_run}
use Rattle.schedule_back.specs.Outcome.{text_or_refusal}
use Rattle.schedule_back.specs.Meanings.{IncomingAreBytes}
use Rattle.command_run.specs.Inputs.{module_in}
use Rattle.command_run.specs.Laws.{ReadsModules}
use Rattle.record_command.specs.Agreement.{group_in, steps_in}
use Rattle.command_run.specs.Logs.{log_in}
use Rattle.log_pairs.specs.Pairs.{Loaded, Pair, loaded_pairs, replays_of, sort_replays}
use Rattle.schedule_command.specs.Laws.{IsRecordedAgain, IsRecording, RecordsToLogs}
use Rattle.schedule_command.specs.Schedule.{is_complete, line_of_replay, lines_of_replays}
use Rattle.schedule_command.proofs.WholeGroup.{HasPair, LogFile, log_file_of, module_file_is, whole_group}
use Rattle.schedule_command.proofs.ReadPairs.{AllApart, AllBegin, AreRead, all_begin, all_read, pair_of_replay, replay_of_pair}
use Rattle.schedule_command.proofs.PrintedIsRecorded.{AllBeginAs, BeginsAs, Recorded, file_at, file_count, module_again, recorded}
use Rattle.schedule_command.proofs.SortedReplays.{length_sorted, sort_keeps, sorted_has}

-- ---- a log that is written again

-- a whole log of version 2 is written again as it is
same_bytes : ExactLogs → (folder : Folder) (name : List ℕ) (head : Head) (left : Unread) → LogFile folder name head left → rest_of_log left ≡ [] → head.version ≡ Two
    → get folder name ≡ Some (rewritten_log head (entries_of left))
same_bytes exact folder name head left file whole two =
    let held = (exact.all left (entries_of left) (rest_of_log left)).1 (refl, refl) in
    let version : left.version ≡ Two = ap (λ (u : Unread). u.version) file.behind ∙ two in
    let last : left.last ≡ 0 = ap (λ (u : Unread). u.last) file.behind in
    let bytes : left.bytes ≡ encodings Two 0 (entries_of left) =
    held.spelled ∙ ap (λ v. encodings v left.last (entries_of left) ++ rest_of_log left) version ∙ ap (λ n. encodings Two n (entries_of left) ++ rest_of_log left) last
    ∙ ap (λ rest. encodings Two 0 (entries_of left) ++ rest) whole ∙ append-nil (encodings Two 0 (entries_of left)) in
    let heads : head_bytes head ≡ head_bytes (record head { version = Two }) = ap (λ (v : Version). head_bytes (record head { version = v })) two in
    file.held ∙ ap Some (file.spelled ∙ ap (λ b. head_bytes head ++ b) bytes ∙ ap (λ h. h ++ encodings Two 0 (entries_of left)) heads)

contains : {A : Type 0} (xs : List A) (i : ℕ) (x : A) → slice_get xs i ≡ Some x → Contains xs x
contains xs i x at = (i, slice_get_within xs i x at, get_or_from_slice_get xs i x x at)

from_zero : (n : ℕ) → 0 + n ≡ n
from_zero n = omega arith

module _ {A : Type 0} where
  pub all_by_place : (P : A → Type 0) (xs : List A) → ((k : ℕ) (x : A) → slice_get xs k ≡ Some x → P x) → AllByRecursion P xs
  all_by_place P [] holds = tt
  all_by_place P (x ∷ xs) holds = (holds 0 x refl, all_by_place P xs (λ k y at. holds (suc k) y at))

  pub at_place : (P : A → Type 0) (xs : List A) → AllByRecursion P xs → (k : ℕ) (x : A) → slice_get xs k ≡ Some x → P x
  at_place P [] all k x at = cc
  at_place P (y ∷ xs) all zero x at = subst P (same_Some y x at) all.0
  at_place P (y ∷ xs) all (suc k) x at = at_place P xs all.1 k x at

length_map_names : (lines : List ProcessLine) → length (map (λ (line : ProcessLine). line.name) lines) ≡ length lines
length_map_names [] = refl
length_map_names (line ∷ lines) = ap suc (length_map_names lines)

length_lines_of : (pairs : List Pair) (ls : List Loaded) (rs : List Replaying) → length (lines_of_replays pairs ls rs) ≡ length rs
length_lines_of pairs ls [] = refl
length_lines_of pairs ls (r ∷ rs) = ap suc (length_lines_of pairs ls rs)

name_at : (pairs : List Pair) (ls : List Loaded) (rs : List Replaying) (p : ℕ) (r : Replaying) → slice_get rs p ≡ Some r → slice_get (map (λ (line : ProcessLine). line.name) (lines_of_replays pairs ls rs)) p ≡ Some r.head.name
name_at pairs ls [] p r at = cc
name_at pairs ls (s ∷ rs) zero r at = ap (λ (r : Replaying). Some r.head.name) (same_Some s r at)
name_at pairs ls (s ∷ rs) (suc p) r at = name_at pairs ls rs p r at

same_lengths : (folder : Folder) (pairs : List Pair) (ls : List Loaded) (rs : List Replaying) → AreRead folder pairs ls → AllBegin ls rs → length pairs ≡ length rs
same_lengths folder [] [] [] read begin = refl
same_lengths folder (pair ∷ pairs) (l ∷ ls) (r ∷ rs) read begin = ap suc (same_lengths folder pairs ls rs read.1 begin.1)
same_lengths folder [] (l ∷ ls) rs read begin = absurd read
same_lengths folder (pair ∷ pairs) [] rs read begin = absurd read
same_lengths folder [] [] (r ∷ rs) read begin = absurd begin
same_lengths folder (pair ∷ pairs) (l ∷ ls) [] read begin = absurd begin

-- the first state of process p of so many
abbrev begins_with : Loaded → ℕ → ℕ → Option State
begins_with l p count = start_of l.«module» p count

-- ---- the lines, place by place

all_begin_as : (pairs : List Pair) (ls : List Loaded) (later : Folder) (count p : ℕ) (rs : List Replaying) → ((i : ℕ) (r : Replaying) → slice_get rs i ≡ Some r → BeginsAs later count (p + i) (line_of_replay pairs ls r) r)
    → AllBeginAs later count p (lines_of_replays pairs ls rs) rs
all_begin_as pairs ls later count p [] one = tt
all_begin_as pairs ls later count p (r ∷ rs) one =
    let here : p + 0 ≡ p = omega arith in
    (subst (λ n. BeginsAs later count n (line_of_replay pairs ls r) r) here (one 0 r refl), all_begin_as pairs ls later count (suc p) rs (λ i s at. subst (λ n. BeginsAs later count n (line_of_replay pairs ls s) s) (next i) (one (suc i) s at))) where
      next : (i : ℕ) → p + suc i ≡ suc p + i
      next i = omega arith

-- ---- the pairs of a whole group

module _ (exact : ExactLogs) (rewritten_read : RewrittenIsRead) (reads : ReadsModules) (read_back : TextIsRead) (started : IsStarted) (converse : Converse)
    (folder : Folder) (pairs : List Pair) (ls : List Loaded) (rs : List Replaying) (loaded : loaded_pairs folder [] pairs ≡ Ok ls) (begun : replays_of ls ≡ Ok rs) where
  abbrev start : List Replaying
  start = sort_replays [] rs

  abbrev lines : List ProcessLine
  lines = lines_of_replays pairs ls (sort_replays [] rs)

  record Found : Type 0 where
    read : AreRead folder pairs ls
    apart : AllApart ls
    begin : AllBegin ls rs
    ofs : AllByRecursion (HasPair folder pairs ls) (sort_replays [] rs)

  found : Found
  found =
      let r = all_read folder [] pairs ls loaded in
      let read : AreRead folder pairs ls = subst (AreRead folder pairs) (sym r.split) r.read in
      let begin = all_begin ls rs begun in
      record {
        read = read;
        apart = subst AllApart (sym r.split) r.apart;
        begin = begin;
        ofs = sort_keeps (HasPair folder pairs ls) [] rs tt (all_by_place (HasPair folder pairs ls) rs (λ i r at. (i, pair_of_replay folder pairs ls rs read begin i r at)));
      }

  -- where the schedule has this text
  module _ (replayers : AreGroupReplays (sort_replays [] rs)) (at_heads : All IsAtHead (sort_replays [] rs)) (complete : IsTrue (is_complete (sort_replays [] rs))) (text : List ℕ)
      (text_is : text_or_refusal (lines_of_replays pairs ls (sort_replays [] rs)) (sort_replays [] rs) ≡ Ok text) (bytes : IncomingAreBytes (events_of_replays (sort_replays [] rs))) where
    back_is : BackRecords lines start text
    back_is = converse lines start text (whole_group exact reads started folder pairs ls start found.apart found.ofs replayers at_heads complete) bytes text_is

    -- each process begins there as it began here
    begin_as : (later : Folder) → AllByRecursion (λ (pair : Pair). get later pair.module_name ≡ get folder pair.module_name) pairs → AllBeginAs later (length lines) 0 lines start
    begin_as later same = all_begin_as pairs ls later (length lines) 0 start one where
      one : (p : ℕ) (r : Replaying) → slice_get start p ≡ Some r → BeginsAs later (length lines) (0 + p) (line_of_replay pairs ls r) r
      one p r at =
          let of = at_place (HasPair folder pairs ls) start found.ofs p r at in
          let pair_at = of.1 in
          let head = back_is.heads p r at in
          let place : 0 + p ≡ pair_at.loaded.head.process = from_zero p ∙ ap (λ (h : Head). h.process) (head ∙ ap (λ (h : Head). record h { version = Two }) pair_at.begins.head) in
          let names = length_map_names lines in
          let count : length lines ≡ pair_at.loaded.head.count = sym names ∙ ap (λ (h : Head). h.count) (head ∙ ap (λ (h : Head). record h { version = Two }) pair_at.begins.head) in
          record {
            «module» = pair_at.loaded.«module»;
            found = ap (module_in later) (module_file_is folder pairs ls r of.0 found.apart pair_at)
                ∙ module_again folder later pair_at.pair.module_name (at_place (λ (pair : Pair). get later pair.module_name ≡ get folder pair.module_name) pairs same of.0 pair_at.pair pair_at.pair_at) ∙ pair_at.read.«module»;
            begins = ap (λ n. begins_with pair_at.loaded n (length lines)) place ∙ ap (begins_with pair_at.loaded pair_at.loaded.head.process) count ∙ pair_at.begins.state;
          }

    module _ (later : Folder) (schedule_name : List ℕ) (held : get later schedule_name ≡ Some text) (same : AllByRecursion (λ (pair : Pair). get later pair.module_name ≡ get folder pair.module_name) pairs) where
      done : Recorded lines start later schedule_name
      done = recorded reads read_back lines start text later schedule_name back_is held (begin_as later same)

      abbrev files : List (List ℕ × List ℕ)
      files = logs_of_steps (group_in done.recordable) (steps_in done.recordable)

      writes : files ≡ logs_of_steps (back_group lines start) (back_run lines start).steps
      writes = λ i. logs_of_steps (done.group i) (done.run i).steps

      -- the log of a pair is among the files
      again : (j : ℕ) (pair : Pair) → slice_get pairs j ≡ Some pair → IsRecordedAgain folder files pair
      again j pair at =
          let r = replay_of_pair folder pairs ls rs found.read found.begin j pair at in
          let of = pair_of_replay folder pairs ls rs found.read found.begin j r.0 r.1 in
          let l = of.loaded in
          let has = sorted_has [] rs r.0 j r.1 in
          let name = name_at pairs ls start has.place r.0 has.is in
          let file = file_at 0 (map (λ (line : ProcessLine). line.name) lines) (log_of (back_group lines start) (back_run lines start).steps) has.place r.0.head.name name in
          let bytes_are : log_of (back_group lines start) (back_run lines start).steps (0 + has.place) ≡ rewritten_log l.head (entries_of l.left) =
          ap (log_of (back_group lines start) (back_run lines start).steps) (from_zero has.place) ∙ back_is.logs has.place r.0 has.is
          ∙ ap (λ (h : Head). rewritten_log h (entries_of r.0.left)) of.begins.head ∙ ap (λ (u : Unread). rewritten_log l.head (entries_of u)) of.begins.left in
          let same_pair : of.pair ≡ pair = same_Some of.pair pair (sym of.pair_at ∙ at) in
          let was = ap (λ (p : Pair). log_in folder p.log_name) (sym same_pair) ∙ of.read.log in
          let log_file = log_file_of exact folder pair.log_name l.head l.left was in
          let shaped = ((exact.all l.left (entries_of l.left) (rest_of_log l.left)).1 (refl, refl)).shaped in
          let newer = rewritten_read l.head (entries_of l.left) log_file.in_range shaped in
          let none_left : rest_of_log l.left ≡ [] = ap rest_of_log (sym of.begins.left) ∙ back_is.rest has.place r.0 has.is in
          let there = ap (λ files. slice_get files has.place) writes ∙ file
          ∙ ap (λ (h : Head). Some (log_name h.name, log_of (back_group lines start) (back_run lines start).steps (0 + has.place))) of.begins.head
          ∙ ap (λ (b : List ℕ). Some (log_name l.head.name, b)) bytes_are in
          record {
            head = l.head;
            left = l.left;
            was = was;
            bytes = rewritten_log l.head (entries_of l.left);
            written = contains files has.place (log_name l.head.name, rewritten_log l.head (entries_of l.left)) there;
            newer = newer.left;
            found = newer.found;
            entries = newer.entries;
            rest = newer.rest;
            same = same_bytes exact folder pair.log_name l.head l.left log_file none_left;
          }

      recording : IsRecording pairs folder later schedule_name
      recording = record {
        recordable = done.recordable;
        idle = ap (λ (p : RunProgress). p.idle) done.run ∙ back_is.idle;
        room = ap (λ (p : RunProgress). p.full) done.run ∙ back_is.room;
        work = done.work;
        count = ap length writes ∙ file_count 0 (map (λ (line : ProcessLine). line.name) lines) (log_of (back_group lines start) (back_run lines start).steps)
            ∙ length_map_names lines ∙ length_lines_of pairs ls start ∙ length_sorted [] rs ∙ from_zero (length rs) ∙ sym (same_lengths folder pairs ls rs found.read found.begin);
        logs = All-from_recursion (IsRecordedAgain folder files) pairs (all_by_place (IsRecordedAgain folder files) pairs again);
      }

    pub records_back : RecordsToLogs pairs folder text
    records_back later schedule_name held same =
        recording later schedule_name held (recursion_from_All (λ (pair : Pair). get later pair.module_name ≡ get folder pair.module_name) pairs same)
