-- The replays of the pairs that were read: those that have begun, those that are still to come, and the group that they make.
use Rattle.std.proofs.Common.{◌≡◌, ◌∙◌, ◌<◌, ◌≤◌, ◌+◌, ℕ, zero, suc, List, [], ◌∷◌, ◌++◌, length, Result, Ok, Err, ap, arith, append_assoc, append-nil, refl, subst, sym}
use Rattle.std.specs.Prelude.{All}
use Rattle.std.specs.List.{AllByRecursion}
use Rattle.call_log.specs.Head.{Head, IsHead}
use Rattle.call_log.specs.Limits.{most_log}
use Rattle.call_log.specs.Log.{Unread}
use Rattle.guest_process.specs.State.{State}
use Rattle.group_state.specs.Place.{AreGroupReplays, group_count}
use Rattle.proc_replay.specs.AtHead.{IsAtHead}
use Rattle.proc_replay.specs.Replaying.{Replaying}
use Rattle.log_pairs.specs.declared.pairs.Loaded.{Loaded as LoadedFiles}
use Rattle.command_run.specs.declared.refusal.StopCause.{StopCause}
use Rattle.command_run.specs.Call.{StopsAsCause}
use Rattle.command_run.specs.Inputs.{first_state_of}
use Rattle.command_run.specs.Outcome.{CommandStop, and_then}
use Rattle.log_pairs.specs.Pairs.{Loaded, insert_replay, replay_of_log, replays_of, sort_replays}
use Rattle.log_pairs.specs.Meanings.{AreLoadedPairs, AreOneGroup, IsApartPair, IsLoadedPair}
use Rattle.log_pairs.proofs.LogClashes.{all_so, count_is, process_is}
use Rattle.command_run.specs.OutcomeLaws.{stops_before_next, result_follows}
use Rattle.log_pairs.proofs.PlacedReplays.{AreDistinct, Differ, all_ascend, all_placed_keeps, few_from, none_new, placed_last}

-- before its first event
abbrev pub IsFirst : Replaying → Type 0
IsFirst r = (r.state.events ≡ 0) × IsAtHead r

-- ---- the heads of what was read

record IsOf (x : LoadedFiles) (r : Replaying) : Type 0 where
  count : x.log.head.count ≡ r.head.count
  process : x.log.head.process ≡ r.head.process
  head : IsHead r.head
  within : length r.left.bytes ≤ most_log

abbrev AreOf : List LoadedFiles → List Replaying → Type 0
AreOf [] [] = Unit {0}
AreOf (x ∷ xs) (r ∷ rs) = IsOf x r × AreOf xs rs
AreOf [] (r ∷ rs) = ⊥
AreOf (x ∷ xs) [] = ⊥

abbrev begun_at : Loaded → State → Result Replaying CommandStop
begun_at l S = Ok (record { head = l.head; state = S; left = l.left })

is_of : (x : LoadedFiles) (l : Loaded) (r : Replaying) → IsLoadedPair x l → replay_of_log l ≡ Ok r → IsOf x r
is_of x l r one begun =
    let f = result_follows (first_state_of l.module_name l.«module» l.head.process l.head.count) _ r begun in
    of f.given f.comes where
      head_in : Result Replaying CommandStop → Head
      head_in (Ok r) = r.head
      head_in (Err stop) = l.head

      left_in : Result Replaying CommandStop → Unread
      left_in (Ok r) = r.left
      left_in (Err stop) = l.left

      of : (S : State) → begun_at l S ≡ Ok r → IsOf x r
      of S is =
          let same : l.head ≡ r.head = ap head_in is in
          record {
            count = count_is x l one ∙ ap (λ (h : Head). h.count) same;
            process = process_is x l one ∙ ap (λ (h : Head). h.process) same;
            head = subst IsHead same one.head;
            within = subst (λ (left : Unread). length left.bytes ≤ most_log) (ap left_in is) (omega (arith, one.whole));
          }

are_of : (xs : List LoadedFiles) (ls : List Loaded) (rs : List Replaying) → AreLoadedPairs xs ls → replays_of ls ≡ Ok rs → AreOf xs rs
are_of [] [] [] all is = tt
are_of [] [] (r ∷ rs) all is = cc
are_of (x ∷ xs) (l ∷ ls) rs all is =
    let first = result_follows (replay_of_log l) _ rs is in
    let rest = result_follows (replays_of ls) _ rs first.comes in
    subst (AreOf (x ∷ xs)) (ap (value_in []) rest.comes) (is_of x l first.given all.0 first.is_given, are_of xs ls rest.given all.1 rest.is_given) where
      value_in : List Replaying → Result (List Replaying) CommandStop → List Replaying
      value_in default (Ok rs) = rs
      value_in default (Err stop) = default
are_of [] (l ∷ ls) rs all is = absurd all
are_of (x ∷ xs) [] rs all is = absurd all

all_of : (P : Replaying → Type 0) → ((x : LoadedFiles) (r : Replaying) → IsOf x r → P r) → (xs : List LoadedFiles) (rs : List Replaying) → AreOf xs rs → AllByRecursion P rs
all_of P so [] [] are = tt
all_of P so (x ∷ xs) (r ∷ rs) are = (so x r are.0, all_of P so xs rs are.1)
all_of P so [] (r ∷ rs) are = absurd are
all_of P so (x ∷ xs) [] are = absurd are

differ_of : (x : LoadedFiles) (r : Replaying) (xs : List LoadedFiles) (rs : List Replaying) → IsOf x r → AreOf xs rs → AllByRecursion (IsApartPair x) xs → AllByRecursion (Differ r) rs
differ_of x r [] [] one are apart = tt
differ_of x r (y ∷ xs) (s ∷ rs) one are apart =
    (λ same. apart.0.process (one.process ∙ sym same ∙ sym are.0.process), differ_of x r xs rs one are.1 apart.1)
differ_of x r [] (s ∷ rs) one are apart = absurd are
differ_of x r (y ∷ xs) [] one are apart = absurd are

distinct_of : (xs : List LoadedFiles) (rs : List Replaying) → AreOf xs rs → AreOneGroup xs → AreDistinct rs
distinct_of [] [] are apart = tt
distinct_of (x ∷ xs) (r ∷ rs) are apart = (differ_of x r xs rs are.0 are.1 apart.0, distinct_of xs rs are.1 apart.1)
distinct_of [] (r ∷ rs) are apart = absurd are
distinct_of (x ∷ xs) [] are apart = absurd are

same_of : (x : LoadedFiles) (r : Replaying) (xs : List LoadedFiles) (rs : List Replaying) → IsOf x r → AreOf xs rs → AllByRecursion (IsApartPair x) xs → AllByRecursion (λ s. s.head.count ≡ r.head.count) rs
same_of x r [] [] one are apart = tt
same_of x r (y ∷ xs) (s ∷ rs) one are apart =
    (sym are.0.count ∙ sym apart.0.count ∙ one.count, same_of x r xs rs one are.1 apart.1)
same_of x r [] (s ∷ rs) one are apart = absurd are
same_of x r (y ∷ xs) [] one are apart = absurd are

counts_of : (xs : List LoadedFiles) (rs : List Replaying) → AreOf xs rs → AreOneGroup xs → AllByRecursion (λ r. r.head.count ≡ group_count rs) rs
counts_of [] [] are apart = tt
counts_of (x ∷ xs) (r ∷ rs) are apart = (refl, same_of x r xs rs are.0 are.1 apart.0)
counts_of [] (r ∷ rs) are apart = absurd are
counts_of (x ∷ xs) [] are apart = absurd are

first_counts : (n : ℕ) (rs : List Replaying) → AllByRecursion (λ r. r.head.count ≡ n) rs → AllByRecursion (λ r. r.head.count ≡ group_count rs) rs
first_counts n [] all = tt
first_counts n (r ∷ rs) all = (refl, all_so (λ s. s.head.count ≡ n) (λ s. s.head.count ≡ r.head.count) rs (λ s h. h ∙ sym all.0) all.1)

-- ---- they make a group

each : {X : Type 0} (P : X → Type 0) (xs : List X) → AllByRecursion P xs → All P xs
each P [] all k d below = absurd (omega arith)
each P (x ∷ xs) all zero d below = all.0
each P (x ∷ xs) all (suc k) d below = each P xs all.1 k d (omega (arith, below))

pub record MakesGroup (rs : List Replaying) : Type 0 where
  pub replayers : AreGroupReplays rs
  pub heads : All (λ r. IsHead r.head) rs
  pub at_heads : All IsAtHead rs

pub makes_group : (xs : List LoadedFiles) (ls : List Loaded) (rs : List Replaying) → AreLoadedPairs xs ls → AreOneGroup xs → replays_of ls ≡ Ok rs → AllByRecursion IsFirst rs → MakesGroup (sort_replays [] rs)
makes_group xs ls rs all apart begun first =
    let are = are_of xs ls rs all begun in
    let fresh = all_so IsFirst (λ r. r.state.events ≡ 0) rs (λ r one. one.0) first in
    let at_heads = all_so IsFirst IsAtHead rs (λ r one. one.1) first in
    let heads = all_of (λ r. IsHead r.head) (λ x r one. one.head) xs rs are in
    let logs = all_of (λ r. length r.left.bytes ≤ most_log) (λ x r one. one.within) xs rs are in
    let sorted = sort_replays [] rs in
    let ascends = all_ascend [] rs tt (none_new rs) (distinct_of xs rs are apart) in
    let below = all_placed_keeps (λ r. r.head.process < 16) [] rs tt (all_so (λ r. IsHead r.head) (λ r. r.head.process < 16) rs (λ r h. omega (arith, h.few, h.within)) heads) in
    let few : 0 + length sorted ≤ 16 = few_from 0 16 sorted (omega arith) ascends (all_so (λ r. r.head.process < 16) (λ r. 0 ≤ r.head.process) sorted (λ r h. omega arith) below) below in
    record {
      replayers = record {
        few = omega (arith, few);
        fresh = each (λ r. r.state.events ≡ 0) sorted (all_placed_keeps (λ r. r.state.events ≡ 0) [] rs tt fresh);
        one = each (λ r. r.head.count ≡ group_count sorted) sorted (first_counts (group_count rs) sorted (all_placed_keeps (λ r. r.head.count ≡ group_count rs) [] rs tt (counts_of xs rs are apart)));
        ascends = ascends;
        within = each (λ r. length r.left.bytes ≤ most_log) sorted (all_placed_keeps (λ r. length r.left.bytes ≤ most_log) [] rs tt logs);
      };
      heads = each (λ r. IsHead r.head) sorted (all_placed_keeps (λ r. IsHead r.head) [] rs tt heads);
      at_heads = each IsAtHead sorted (all_placed_keeps IsAtHead [] rs tt at_heads);
    }

-- ---- the replays so far, and those that are still to begin

abbrev begun_before : List Replaying → Result (List Replaying) CommandStop → Result (List Replaying) CommandStop
begun_before rs later = and_then later (λ more. Ok (rs ++ more))

none_before : (later : Result (List Replaying) CommandStop) → later ≡ begun_before [] later
none_before (Ok more) = refl
none_before (Err stop) = refl

with_one : (rs : List Replaying) (r : Replaying) (later : Result (List Replaying) CommandStop) → begun_before rs (and_then later (λ more. Ok (r ∷ more))) ≡ begun_before (rs ++ r ∷ []) later
with_one rs r (Ok more) = ap (λ (all : List Replaying). Ok all) (sym (append_assoc rs (r ∷ []) more))
with_one rs r (Err stop) = refl

-- of these pairs some replays have begun and are in their places, and those of the others are still to come
pub record HasBegun (ls left : List Loaded) (sorted : List Replaying) : Type 0 where
  pub begun : List Replaying
  pub so_far : replays_of ls ≡ begun_before begun (replays_of left)
  pub placed : sorted ≡ sort_replays [] begun
  pub first : AllByRecursion IsFirst begun

-- this holds whatever the pairs are that were read
abbrev pub AreBegun : List LoadedFiles → List LoadedFiles → List Replaying → Type 0
AreBegun all rest sorted = (ls : List Loaded) → AreLoadedPairs all ls → (left : List Loaded) × (AreLoadedPairs rest left × HasBegun ls left sorted)

pub none_begun : (all : List LoadedFiles) → AreBegun all all []
none_begun all ls are = (ls, (are, record { begun = []; so_far = none_before (replays_of ls); placed = refl; first = tt }))

first_push : (rs : List Replaying) (r : Replaying) → AllByRecursion IsFirst rs → IsFirst r → AllByRecursion IsFirst (rs ++ r ∷ [])
first_push [] r all one = (one, tt)
first_push (s ∷ rs) r all one = (all.0, first_push rs r all.1 one)

begun_more : (ls left : List Loaded) (l : Loaded) (r : Replaying) (sorted after : List Replaying) → HasBegun ls (l ∷ left) sorted → replay_of_log l ≡ Ok r → IsFirst r → after ≡ insert_replay r sorted → HasBegun ls left after
begun_more ls left l r sorted after has is starts put = record {
  begun = has.begun ++ r ∷ [];
  so_far =
      has.so_far ∙ ap (λ (o : Result Replaying CommandStop). begun_before has.begun (and_then o (λ r. and_then (replays_of left) (λ more. Ok (r ∷ more))))) is
      ∙ with_one has.begun r (replays_of left);
  placed = put ∙ ap (insert_replay r) has.placed ∙ sym (placed_last [] has.begun r);
  first = first_push has.begun r has.first starts;
}

pub one_begun : (all before rest : List LoadedFiles) (x : LoadedFiles) (r : Replaying) (sorted after : List Replaying) → AreBegun all before sorted → before ≡ x ∷ rest
    → ((l : Loaded) → IsLoadedPair x l → replay_of_log l ≡ Ok r) → IsFirst r → after ≡ insert_replay r sorted → AreBegun all rest after
one_begun all before rest x r sorted after has next begins starts put ls are = step (has ls are) where
  step : (left : List Loaded) × (AreLoadedPairs before left × HasBegun ls left sorted) → (left : List Loaded) × (AreLoadedPairs rest left × HasBegun ls left after)
  step ([], (none, h)) = absurd (subst (λ (xs : List LoadedFiles). AreLoadedPairs xs []) next none)
  step (l ∷ left, (some, h)) =
      let at = subst (λ (xs : List LoadedFiles). AreLoadedPairs xs (l ∷ left)) next some in
      (left, (at.1, begun_more ls left l r sorted after h (begins l at.0) starts put))

-- a process did not begin
pub beginning_stops : (all before rest : List LoadedFiles) (x : LoadedFiles) (sorted : List Replaying) (e : StopCause) → AreBegun all before sorted → before ≡ x ∷ rest
    → ((l : Loaded) → IsLoadedPair x l → StopsAsCause (replay_of_log l) e) → (ls : List Loaded) → AreLoadedPairs all ls → StopsAsCause (replays_of ls) e
beginning_stops all before rest x sorted e has next stops ls are = step (has ls are) where
  step : (left : List Loaded) × (AreLoadedPairs before left × HasBegun ls left sorted) → StopsAsCause (replays_of ls) e
  step ([], (none, h)) = absurd (subst (λ (xs : List LoadedFiles). AreLoadedPairs xs []) next none)
  step (l ∷ left, (some, h)) =
      let at = subst (λ (xs : List LoadedFiles). AreLoadedPairs xs (l ∷ left)) next some in
      subst (λ (o : Result (List Replaying) CommandStop). StopsAsCause o e) (sym h.so_far)
      (stops_before_next (replays_of (l ∷ left)) _ e (stops_before_next (replay_of_log l) _ e (stops l at.0)))

-- something that was read is at this place
pub one_loaded : (all before rest : List LoadedFiles) (x : LoadedFiles) (sorted : List Replaying) → AreBegun all before sorted → before ≡ x ∷ rest → (ls : List Loaded) × AreLoadedPairs all ls → (l : Loaded) × IsLoadedPair x l
one_loaded all before rest x sorted has next loaded = step (has loaded.0 loaded.1) where
  step : (left : List Loaded) × (AreLoadedPairs before left × HasBegun loaded.0 left sorted) → (l : Loaded) × IsLoadedPair x l
  step ([], (none, h)) = absurd (subst (λ (xs : List LoadedFiles). AreLoadedPairs xs []) next none)
  step (l ∷ left, (some, h)) = (l, (subst (λ (xs : List LoadedFiles). AreLoadedPairs xs (l ∷ left)) next some).0)

-- all have begun
pub record AllBegun (ls : List Loaded) (sorted : List Replaying) : Type 0 where
  pub begun : List Replaying
  pub comes : replays_of ls ≡ Ok begun
  pub placed : sorted ≡ sort_replays [] begun
  pub first : AllByRecursion IsFirst begun

pub all_begun : (all rest : List LoadedFiles) (sorted : List Replaying) → AreBegun all rest sorted → rest ≡ [] → (ls : List Loaded) → AreLoadedPairs all ls → AllBegun ls sorted
all_begun all rest sorted has none ls are = step (has ls are) where
  step : (left : List Loaded) × (AreLoadedPairs rest left × HasBegun ls left sorted) → AllBegun ls sorted
  step ([], (some, h)) = record {
    begun = h.begun;
    comes = h.so_far ∙ ap (λ (rs : List Replaying). Ok rs) (append-nil h.begun);
    placed = h.placed;
    first = h.first;
  }
  step (l ∷ left, (some, h)) = absurd (subst (λ (xs : List LoadedFiles). AreLoadedPairs xs (l ∷ left)) none some)

pub group_begun : (all rest : List LoadedFiles) (sorted : List Replaying) → AreBegun all rest sorted → rest ≡ [] → (ls : List Loaded) × AreLoadedPairs all ls → AreOneGroup all → MakesGroup sorted
group_begun all rest sorted has none loaded apart =
    let b = all_begun all rest sorted has none loaded.0 loaded.1 in
    subst MakesGroup (sym b.placed) (makes_group all loaded.0 b.begun loaded.1 apart b.comes b.first)
