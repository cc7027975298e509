-- Turn after turn gives the replay of a log's entries.
use Rattle.std.specs.Prelude.{◌≡◌, ℕ, zero, suc, ◌+◌, ◌<◌, ◌≤◌, List, [], ◌∷◌, length, slice_get, take, Some}
use Rattle.lib_calls.specs.declared.entry.Entry.{Entry}
use Rattle.call_log.specs.Limits.{least_entry}
use Rattle.call_log.specs.Log.{entries_of, rest_of_log}
use Rattle.guest_process.specs.declared.verdict.Verdict.{Verdict}
use Rattle.guest_process.specs.declared.verdict.Verdict.TheVariants.{Diverged}
use Rattle.guest_process.specs.Replay.{ReplayReach, accepted, last_state, left_over, reach_of_entries, state_after, verdict, verdict_of}
use Rattle.guest_process.specs.State.{State}
use Rattle.proc_replay.specs.Replaying.{Replaying, ReplayMove, Makes, Ends, Diverges, turn, after_replay_turn}

-- ---- so many turns

-- what is there after so many turns
abbrev pub after_turns : Replaying → ℕ → Replaying
after_turns r zero = r
after_turns r (suc n) = after_turns (after_replay_turn r) n

-- with so many bytes after the last event, the turn tells this verdict
abbrev pub TellsVerdict : ReplayMove → List ℕ → Verdict → Type 0
TellsVerdict (Makes entry) left v = ⊥
TellsVerdict Ends left v = v ≡ left_over left
TellsVerdict (Diverges at why) left v = v ≡ Diverged at why

-- from the first state of a process on: as many turns make events as entries are accepted, each that of the
-- next entry; after so many of them the state is that of the replay; and each turn after them tells the verdict
pub record IsReplay (first : Replaying) (es : List Entry) (rest : List ℕ) : Type 0 where
  pub states : (n : ℕ) → n ≤ accepted first.state es → (after_turns first n).state ≡ state_after first.state es n
  pub events : (n : ℕ) (e : Entry) → n < accepted first.state es → slice_get es n ≡ Some e → turn (after_turns first n) ≡ Makes e
  pub verdict : (n : ℕ) → accepted first.state es ≤ n → TellsVerdict (turn (after_turns first n)) (after_turns first n).left.bytes (verdict first.state es rest)

abbrev pub AreReplays : Type 0
AreReplays = (first : Replaying) → first.state.events ≡ 0 → IsReplay first (entries_of first.left) (rest_of_log first.left)

-- ---- one turn

-- the outcome of a replay: the number of its events, the state after them, the verdict, and the bytes
-- after all entries
pub record ReplayOutcome : Type 0 where
  pub accepted : ℕ
  pub last : State
  pub verdict : Verdict
  pub rest : List ℕ

abbrev pub outcome_by : ReplayReach → State → List ℕ → ReplayOutcome
outcome_by reach last rest = record { accepted = reach.accepted; last = last; verdict = verdict_of reach rest; rest = rest }

-- how far a replay comes that had so many events before
abbrev pub further_reach : ℕ → ReplayReach → ReplayReach
further_reach n reach = record reach { accepted = n + reach.accepted }

-- the events so far and those of the entries ahead
abbrev pub replay_outcome_at : State → List Entry → List ℕ → ReplayOutcome
replay_outcome_at S es rest = outcome_by (further_reach S.events (reach_of_entries S es)) (last_state S es) rest

abbrev pub outcome_of_replay : Replaying → ReplayOutcome
outcome_of_replay r = replay_outcome_at r.state (entries_of r.left) (rest_of_log r.left)

-- the entries whose events are still to be made
abbrev pub entries_ahead : Replaying → List Entry
entries_ahead r = take (accepted r.state (entries_of r.left)) (entries_of r.left)

-- a turn changes nothing of the replay's outcome. The turn of an event makes the first that is ahead, and
-- takes bytes of the log; one that tells a verdict leaves all as it is, nothing is ahead, and the replay comes
-- to what is there
pub record IsTurn (r : Replaying) : Type 0 where
  pub same : outcome_of_replay (after_replay_turn r) ≡ outcome_of_replay r
  pub takes : (e : Entry) → turn r ≡ Makes e → length (after_replay_turn r).left.bytes + least_entry ≤ length r.left.bytes
  pub makes : (e : Entry) → turn r ≡ Makes e → entries_ahead r ≡ e ∷ entries_ahead (after_replay_turn r)
  pub none : (v : Verdict) → TellsVerdict (turn r) r.left.bytes v → entries_ahead r ≡ []
  pub stays : (v : Verdict) → TellsVerdict (turn r) r.left.bytes v → after_replay_turn r ≡ r
  pub comes : (v : Verdict) → TellsVerdict (turn r) r.left.bytes v
      → outcome_of_replay r ≡ record { accepted = r.state.events; last = r.state; verdict = v; rest = rest_of_log r.left }

abbrev pub AreTurns : Type 0
AreTurns = (r : Replaying) → IsTurn r
