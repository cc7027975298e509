-- An event that touches nothing of what an expression reads leaves its value and what it reads as they were.
use Rattle.std.proofs.Common.{◌≡◌, ◌≤◌, ℕ, suc, Bool, true, false, List, [], ◌∷◌, length, map, take, None, Some, sym, ap, ◌∙◌, arith, ⊎_elim}
use Rattle.std.specs.Prelude.{slice_get}
use Rattle.std.specs.List.{AllByRecursion, list_any}
use Rattle.std.proofs.lemmas.Bool.{cases_lt, or_parts}
use Rattle.std.proofs.lemmas.List.{take_all}
use Rattle.lib_calls.specs.declared.entry.Entry.{Entry}
use Rattle.guest_process.specs.Marks.{UnmarkedStays}
use Rattle.guest_process.specs.OneEvent.{IsKeptByEvents, Rises as AreRising}
use Rattle.group_order.specs.Order.{NodeEvent}
use Rattle.proc_replay.specs.Replaying.{Replaying}
use Rattle.watch_expr.specs.declared.reads.Place.{Place as Location}
use Rattle.expression_text.specs.Expression.{Expression}
use Rattle.watch_expr.specs.Reads.{AreMemories, ReadsTell, SameAtPlace, no_variables, reads_of_expression}
use Rattle.watch_expr.specs.Value.{value}
use Rattle.watch_expr.specs.View.{Node}
use Rattle.group_state.specs.Laws.{HasSameReads, IsStepOfGroup, UnmetStays}
use Rattle.group_state.specs.Nodes.{nodes_at, seen_node}
use Rattle.group_state.specs.Place.{AreGroupReplays, ReplaysFit, events_of_replays, states_from}
use Rattle.group_state.specs.Touch.{is_met_by_event, is_touched_at}
use Rattle.group_state.proofs.GroupMarks.{at_position, is_mark, stays_at}
use Rattle.group_state.proofs.NodeViews.{node_for_each}

all_same : (old new : List Node) (touched : Location → Bool) → ((l : Location) → touched l ≡ false → SameAtPlace old new l) → (places : List Location) → list_any touched places ≡ false
    → AllByRecursion (SameAtPlace old new) places
all_same old new touched same [] none = tt
all_same old new touched same (l ∷ places) none =
    let parts = or_parts (touched l) (list_any touched places) none in
    (same l parts.0, all_same old new touched same places parts.1)

module _ (steps : (start : List Replaying) → AreGroupReplays start → ReplaysFit start → (k : ℕ) (e : NodeEvent Entry) → slice_get (events_of_replays start) k ≡ Some e → IsStepOfGroup start k e)
    (rising : AreRising) (kept : IsKeptByEvents) (unmarked : UnmarkedStays) (law : ReadsTell) (start : List Replaying) (replayers : AreGroupReplays start) (fits : ReplaysFit start) where
  -- at a position of the order
  unmet_within : (k : ℕ) (x : Expression) → suc k ≤ length (events_of_replays start) → AreMemories (nodes_at (at_position start k)) → AreMemories (nodes_at (at_position start (suc k)))
      → is_met_by_event start (suc k) x ≡ false → HasSameReads (nodes_at (at_position start k)) (nodes_at (at_position start (suc k))) x
  unmet_within k x within old_sound new_sound unmet =
      let old = nodes_at (at_position start k) in
      let new = nodes_at (at_position start (suc k)) in
      let same : (l : Location) → is_touched_at start (suc k) l ≡ false → SameAtPlace old new l =
      λ l untouched. stays_at steps rising kept unmarked start replayers fits k l within (λ marked. let clash : true ≡ false = sym (is_mark start k l marked) ∙ untouched in cc) old_sound new_sound in
      let told = law old new None x (node_for_each (at_position start (suc k)) ∙ sym (node_for_each (at_position start k))) old_sound new_sound
      (all_same old new (is_touched_at start (suc k)) same (reads_of_expression old x) unmet) in
      record { value = told.0; reads = told.1 }

  -- past its end nothing changes
  same_past : (k : ℕ) → length (events_of_replays start) ≤ k → nodes_at (at_position start (suc k)) ≡ nodes_at (at_position start k)
  same_past k past =
      let all = events_of_replays start in
      let front : take (suc k) all ≡ take k all = take_all (suc k) all (omega (arith, past)) ∙ sym (take_all k all past) in
      ap (λ (es : List (NodeEvent Entry)). map seen_node (states_from 0 start es)) front

  unmet : (k : ℕ) (x : Expression) → AreMemories (nodes_at (at_position start k)) → AreMemories (nodes_at (at_position start (suc k)))
      → is_met_by_event start (suc k) x ≡ false → HasSameReads (nodes_at (at_position start k)) (nodes_at (at_position start (suc k))) x
  unmet k x old_sound new_sound none =
      ⊎_elim (λ within. unmet_within k x (omega (arith, within)) old_sound new_sound none)
      (λ past. let same = same_past k past in record { value = ap (λ (nodes : List Node). value nodes no_variables x) same; reads = ap (λ (nodes : List Node). reads_of_expression nodes x) same })
      (cases_lt k (length (events_of_replays start)))

pub unmet_stays : ((start : List Replaying) → AreGroupReplays start → ReplaysFit start → (k : ℕ) (e : NodeEvent Entry) → slice_get (events_of_replays start) k ≡ Some e → IsStepOfGroup start k e)
    → AreRising → IsKeptByEvents → UnmarkedStays → ReadsTell → UnmetStays
unmet_stays steps rising kept unmarked law start replayers fits k x old_sound new_sound none = unmet steps rising kept unmarked law start replayers fits k x old_sound new_sound none
