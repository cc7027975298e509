-- The turn of one node of a group, the head that it then has, and where its turns end.
use Rattle.std.specs.Prelude.{◌≡◌, ◌++◌, ℕ, Bool, true, false, List, Some, slice_get, slice_set, Option, None}
use Rattle.proc_replay.specs.Replaying.{Replaying, after_replay_turn, turn, Diverges, Ends, Makes, ReplayMove}
use Rattle.guest_process.specs.declared.verdict.Verdict.{Verdict}
use Rattle.proc_replay.specs.Course.{TellsVerdict, outcome_of_replay}

-- a node had its turn, and the other nodes are as they were
abbrev pub NodeTurns : List Replaying → ℕ → List Replaying → Type 0
NodeTurns old node new = (r : Replaying) → slice_get old node ≡ Some r → new ≡ slice_set old node (after_replay_turn r)

abbrev pub clock_in : ReplayMove → Option ℕ
clock_in (Makes e) = Some e.clock
clock_in Ends = None
clock_in (Diverges at why) = None

-- the clock of the next event of a replay, where there is one
abbrev pub head_of_replay : Replaying → Option ℕ
head_of_replay r = clock_in (turn r)

-- a replay is at the end of its log, and has the same outcome
pub record EndsAtReplay (first last : Replaying) : Type 0 where
  pub same : outcome_of_replay last ≡ outcome_of_replay first
  pub head : last.head ≡ first.head
  pub verdict : Verdict
  pub tells : TellsVerdict (turn last) last.left.bytes verdict

-- these bytes, or with images those that come after them too
abbrev pub kept_after : Bool → List ℕ → List ℕ → List ℕ
kept_after false before bytes = before
kept_after true before bytes = before ++ bytes
