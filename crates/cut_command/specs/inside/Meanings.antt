-- The fronts of logs, and the work, that a past of the code stands for.
use Rattle.std.specs.Prelude.{◌≡◌, ℕ, false, List, [], ◌∷◌, map, take, Some}
use Rattle.call_log.specs.Log.{Log, entries_of, rewritten_log}
use Rattle.proc_replay.specs.Replaying.{Replaying}
use Rattle.group_state.specs.Place.{ReplaysFit}
use Rattle.causal_cut.specs.Laws.{IsLeastPast}
use Rattle.causal_cut.specs.Past.{Lengths, lengths_or_none}
use Rattle.command_run.specs.Outcome.{CommandWork}
use Rattle.cut_command.specs.declared.fronts.Front.{Front}
use Rattle.cut_command.specs.declared.past.Past.{Past}
use Rattle.cut_command.specs.Cut.{cut_line, cut_name}

-- the log of a replay
abbrev pub log_of_replay : Replaying → Log
log_of_replay r = record { head = r.head; left = r.left }

-- so many events of each log are kept, and so many accepted
abbrev pub fronts_of : List Log → List ℕ → List ℕ → List Front
fronts_of [] kept accepted = []
fronts_of (log ∷ logs) [] accepted = []
fronts_of (log ∷ logs) (n ∷ kept) [] = []
fronts_of (log ∷ logs) (n ∷ kept) (m ∷ accepted) = record { log = log; kept = n; accepted = m } ∷ fronts_of logs kept accepted

-- the line of a log
abbrev pub front_line : Front → List ℕ
front_line front = cut_line front.log.head.name front.kept front.accepted

-- the file that is made of a log, with what is kept of it
abbrev pub front_file : Front → List ℕ × List ℕ
front_file front = (cut_name front.log.head.name, rewritten_log front.log.head (take front.kept (entries_of front.log.left)))

-- of each log of a group so much is kept as the event of a node needs
pub record AreLeastFronts (start : List Replaying) (node event : ℕ) (fronts : List Front) : Type 0 where
  pub lengths : Lengths
  pub found : lengths_or_none start node event ≡ Some lengths
  pub least : IsLeastPast start node event lengths.kept
  pub fits : ReplaysFit start
  pub are : fronts ≡ fronts_of (map log_of_replay start) lengths.kept lengths.accepted

-- the text, and the files that are to be made
abbrev pub work_of_past : Past → CommandWork
work_of_past past = record { text = past.text; writes = map front_file past.fronts.items; diverged = false }
