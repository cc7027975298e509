-- The replays of pairs that are complete are a whole group, with the lines of the schedule.
use Rattle.std.proofs.Common.{◌≡◌, ◌≢◌, ◌∙◌, ◌+◌, ◌≤◌, ◌<◌, ℕ, zero, suc, Bool, true, false, cond, List, [], ◌∷◌, ◌++◌, length, map, Option, Some, None, Ok, ap, arith, refl, sym, subst, Err}
use Rattle.std.specs.Prelude.{◌==◌, All, AllPairs, IsTrue, nat_le, option_and_then, slice_get}
use Rattle.std.specs.List.{AllByRecursion, position_from}
use Rattle.std.specs.Option.{option_map_or}
use Rattle.std.proofs.lemmas.Bool.{eq-eqb, eqb-true, leb-true, ne_eqb}
use Rattle.std.proofs.lemmas.Iterator.Adapters.{position_from-zero}
use Rattle.std.proofs.lemmas.List.Elements.{All-from_recursion}
use Rattle.std.proofs.lemmas.List.Kept.{AllPairs-cons}
use Rattle.std.proofs.lemmas.Option.{same_Some}
use Rattle.fri_outside.specs.Outside.{Folder}
use Rattle.std.specs.FinMap.{get}
use Rattle.call_log.specs.Head.{Head, IsHead, head_bytes}
use Rattle.call_log.specs.Laws.{ExactLogs}
use Rattle.call_log.specs.Limits.{most_log}
use Rattle.call_log.specs.Log.{Unread, unread_after_head, head_at}
use Rattle.guest_process.specs.Fits.{StateFits}
use Rattle.guest_process.specs.OneEvent.{IsStarted}
use Rattle.guest_process.specs.Start.{start}
use Rattle.proc_replay.specs.Replaying.{Replaying}
use Rattle.group_state.specs.Place.{AreGroupReplays, AscendsByProcess, group_count}
use Rattle.schedule_text.specs.declared.process.ProcessLine.{ProcessLine}
use Rattle.proc_replay.specs.AtHead.{IsAtHead}
use Rattle.schedule_back.specs.Laws.{IsWholeGroup}
use Rattle.command_run.specs.declared.refusal.Reason.TheVariants as reason
use Rattle.command_run.specs.Laws.{ReadsModules}
use Rattle.command_run.specs.Outcome.{file_of, some_or_refused, file_within, refuses_at_once}
use Rattle.command_run.specs.OutcomeLaws.{result_follows, same_Ok_value}
use Rattle.command_run.specs.Logs.{log_in}
use Rattle.log_pairs.specs.Pairs.{Loaded, Pair}
use Rattle.log_pairs.specs.Finding.{module_file}
use Rattle.schedule_command.specs.Schedule.{is_complete, line_of_replay, lines_of_replays}
use Rattle.schedule_command.proofs.ReadPairs.{AllApart, PairAt, one_name, one_process}

-- ---- a log that was read

-- the file of a log: its bytes, and what is at their front
pub record LogFile (folder : Folder) (name : List ℕ) (head : Head) (left : Unread) : Type 0 where
  pub bytes : List ℕ
  pub held : get folder name ≡ Some bytes
  pub within : length bytes ≤ most_log
  pub in_range : IsHead head
  pub spelled : bytes ≡ head_bytes head ++ left.bytes
  pub behind : left ≡ unread_after_head head left.bytes

held_bytes : (name : List ℕ) (limit : ℕ) (o : Option (List ℕ)) (bytes : List ℕ) → file_within name limit o ≡ Ok bytes → (o ≡ Some bytes) × (length bytes ≤ limit)
held_bytes name limit None bytes is = absurd (cc)
held_bytes name limit (Some given) bytes is = by_test (nat_le (length given) limit) refl is where
  by_test : (b : Bool) → nat_le (length given) limit ≡ b → cond b (Ok given) (Err (refuses_at_once name reason.TooLarge)) ≡ Ok bytes → (let o : Option (List ℕ) = Some given in o ≡ Some bytes) × (length bytes ≤ limit)
  by_test true fits is =
      let same : given ≡ bytes = same_Ok_value (Ok given) given bytes refl is in
      (ap Some same, subst (λ (b : List ℕ). length b ≤ limit) same (leb-true (length given) limit fits))
  by_test false fits is = absurd (cc)

log_found : (name : List ℕ) (o : Option (Head × Unread)) (log : Head × Unread) → some_or_refused name reason.BadHead o ≡ Ok log → o ≡ Some log
log_found name None log is = absurd (cc)
log_found name (Some l) log is = ap Some (same_Ok_value (Ok l) l log refl is)

pub log_file_of : ExactLogs → (folder : Folder) (name : List ℕ) (head : Head) (left : Unread) → log_in folder name ≡ Ok (head, left) → LogFile folder name head left
log_file_of exact folder name head left is =
    let f = result_follows (file_of folder name most_log) (λ bytes. some_or_refused name reason.BadHead (head_at bytes)) (head, left) is in
    let held = held_bytes name most_log (get folder name) f.given f.is_given in
    let found = (exact.heads f.given head left).0 (log_found name (head_at f.given) (head, left) f.comes) in
    record { bytes = f.given; held = held.0; within = held.1; in_range = found.0; spelled = found.1.0; behind = found.1.1 }

-- ---- the file of a process's module

-- the log of this process is at this place
found_from : (k : ℕ) (ls : List Loaded) → AllApart ls → (i : ℕ) (l : Loaded) → slice_get ls i ≡ Some l → position_from (λ (m : Loaded). m.head.process == l.head.process) k ls ≡ Some (k + i)
found_from k [] apart i l at = cc
found_from k (m ∷ ls) apart zero l at =
    let same : m.head.process ≡ l.head.process = ap (λ (m : Loaded). m.head.process) (same_Some m l at) in
    let here : k ≡ k + 0 = omega arith in
    ap (λ b. cond b (Some k) (position_from (λ (m : Loaded). m.head.process == l.head.process) (k + 1) ls)) (eq-eqb m.head.process l.head.process same) ∙ ap Some here
found_from k (m ∷ ls) apart (suc i) l at =
    let other : (m.head.process == l.head.process) ≡ false = ne_eqb m.head.process l.head.process (λ same. absurd (apart_places same)) in
    let here : k + 1 + i ≡ k + suc i = omega arith in
    ap (λ b. cond b (Some k) (position_from (λ (m : Loaded). m.head.process == l.head.process) (k + 1) ls)) other ∙ found_from (k + 1) ls apart.1 i l at ∙ ap Some here where
      never : (n : ℕ) → zero ≡ suc n → ⊥
      never n same = omega (arith, same)

      apart_places : m.head.process ≡ l.head.process → ⊥
      apart_places same = never i (one_process (m ∷ ls) apart zero (suc i) m l refl at same)

pub module_file_is : (folder : Folder) (pairs : List Pair) (ls : List Loaded) (r : Replaying) (i : ℕ) → AllApart ls → (at : PairAt folder pairs ls r i) → module_file pairs ls r.head.process ≡ at.pair.module_name
module_file_is folder pairs ls r i apart at =
    let of_loaded : r.head.process ≡ at.loaded.head.process = ap (λ (h : Head). h.process) at.begins.head in
    let here = found_from 0 ls apart i at.loaded at.loaded_at in
    let place : 0 + i ≡ i = omega arith in
    ap (module_file pairs ls) of_loaded
    ∙ ap (λ o. option_map_or (λ (pair : Pair). pair.module_name) (option_and_then (slice_get pairs) o) []) (position_from-zero (λ (m : Loaded). m.head.process == at.loaded.head.process) ls ∙ here ∙ ap Some place)
    ∙ ap (λ o. option_map_or (λ (pair : Pair). pair.module_name) o []) at.pair_at

-- ---- the group

-- of a replay: where its pair stands
abbrev pub HasPair : Folder → List Pair → List Loaded → Replaying → Type 0
HasPair folder pairs ls r = (i : ℕ) × PairAt folder pairs ls r i

fits : ExactLogs → ReadsModules → IsStarted → (folder : Folder) (pairs : List Pair) (ls : List Loaded) (r : Replaying) → HasPair folder pairs ls r → StateFits r.state
fits exact reads started folder pairs ls r (i, at) =
    let file = log_file_of exact folder at.pair.log_name at.loaded.head at.loaded.left at.read.log in
    (started at.loaded.«module» at.loaded.head.process at.loaded.head.count r.state (reads.valid folder at.pair.module_name at.loaded.«module» at.read.«module») file.in_range.within file.in_range.few at.begins.state).0

all_so : {A : Type 0} (P Q : A → Type 0) (xs : List A) → ((x : A) → P x → Q x) → AllByRecursion P xs → AllByRecursion Q xs
all_so P Q [] so all = tt
all_so P Q (x ∷ xs) so all = (so x all.0, all_so P Q xs so all.1)

complete_count : (start : List Replaying) → IsTrue (is_complete start) → length start ≡ group_count start
complete_count [] is = refl
complete_count (r ∷ rs) is = eqb-true (length (r ∷ rs)) r.head.count is

complete_some : (start : List Replaying) → IsTrue (is_complete start) → 1 ≤ length start
complete_some [] is = absurd (cc)
complete_some (r ∷ rs) is = omega arith

names_are : (pairs : List Pair) (ls : List Loaded) (start : List Replaying) → map (λ (line : ProcessLine). line.name) (lines_of_replays pairs ls start) ≡ map (λ (r : Replaying). r.head.name) start
names_are pairs ls [] = refl
names_are pairs ls (r ∷ rs) = ap (λ names. r.head.name ∷ names) (names_are pairs ls rs)

length_lines : (pairs : List Pair) (ls : List Loaded) (start : List Replaying) → length (lines_of_replays pairs ls start) ≡ length start
length_lines pairs ls [] = refl
length_lines pairs ls (r ∷ rs) = ap suc (length_lines pairs ls rs)

-- ---- no two names are the same

-- of two replays of one name there is one process
same_process : (folder : Folder) (pairs : List Pair) (ls : List Loaded) → AllApart ls → (r s : Replaying) → HasPair folder pairs ls r → HasPair folder pairs ls s → r.head.name ≡ s.head.name → r.head.process ≡ s.head.process
same_process folder pairs ls apart r s (i, a) (j, b) same =
    let name : a.loaded.head.name ≡ b.loaded.head.name = ap (λ (h : Head). h.name) (sym a.begins.head) ∙ same ∙ ap (λ (h : Head). h.name) b.begins.head in
    let place : i ≡ j = one_name ls apart i j a.loaded b.loaded a.loaded_at b.loaded_at name in
    let one : a.loaded ≡ b.loaded = same_Some a.loaded b.loaded (sym a.loaded_at ∙ ap (slice_get ls) place ∙ b.loaded_at) in
    ap (λ (h : Head). h.process) a.begins.head ∙ ap (λ (l : Loaded). l.head.process) one ∙ ap (λ (h : Head). h.process) (sym b.begins.head)

abbrev Apart : ProcessLine → ProcessLine → Type 0
Apart a b = a.name ≢ b.name

lines_behind : (folder : Folder) (pairs : List Pair) (ls : List Loaded) → AllApart ls → (r : Replaying) → HasPair folder pairs ls r → (rs : List Replaying) → AllByRecursion (HasPair folder pairs ls) rs
    → AllByRecursion (λ (s : Replaying). r.head.process < s.head.process) rs → AllByRecursion (Apart (line_of_replay pairs ls r)) (lines_of_replays pairs ls rs)
lines_behind folder pairs ls apart r of [] ofs above = tt
lines_behind folder pairs ls apart r of (s ∷ rs) ofs above =
    ((λ same. absurd (below (same_process folder pairs ls apart r s of ofs.0 same))), lines_behind folder pairs ls apart r of rs ofs.1 above.1) where
      below : r.head.process ≡ s.head.process → ⊥
      below same = omega (arith, same, above.0)

lines_apart : (folder : Folder) (pairs : List Pair) (ls : List Loaded) → AllApart ls → (rs : List Replaying) → AllByRecursion (HasPair folder pairs ls) rs → AscendsByProcess rs → AllPairs Apart (lines_of_replays pairs ls rs)
lines_apart folder pairs ls apart [] ofs up = λ i j d below within. absurd (omega (arith, below, within))
lines_apart folder pairs ls apart (r ∷ rs) ofs up =
    AllPairs-cons Apart (line_of_replay pairs ls r) (lines_of_replays pairs ls rs)
    (All-from_recursion (Apart (line_of_replay pairs ls r)) (lines_of_replays pairs ls rs) (lines_behind folder pairs ls apart r ofs.0 rs ofs.1 up.0)) (lines_apart folder pairs ls apart rs ofs.1 up.1)

pub whole_group : ExactLogs → ReadsModules → IsStarted → (folder : Folder) (pairs : List Pair) (ls : List Loaded) (start : List Replaying) → AllApart ls
    → AllByRecursion (HasPair folder pairs ls) start → AreGroupReplays start → All IsAtHead start → IsTrue (is_complete start) → IsWholeGroup (lines_of_replays pairs ls start) start
whole_group exact reads started folder pairs ls start apart ofs replayers at_heads complete = record {
  some = complete_some start complete;
  replayers = replayers;
  fits = All-from_recursion (λ (r : Replaying). StateFits r.state) start (all_so (HasPair folder pairs ls) (λ r. StateFits r.state) start (fits exact reads started folder pairs ls) ofs);
  at_heads = at_heads;
  whole = complete_count start complete;
  names = names_are pairs ls start;
  apart = lines_apart folder pairs ls apart start ofs replayers.ascends;
}
